-- Cells that hold a term or a row of terms, for any number of levels below them and of arguments.
use Prim.Native.Nat.{ℕ, suc, ◌+◌, ◌≤◌, ◌<◌}
use mathlib.Core.Path.{◌≡◌, ap, ◌∙◌}
use mathlib.Core.List.{List}
use native.Mathlib.Omega.{arith}
use lib.ListN.{get_or}
use Rattle.places.specs.Numbering.{stride}
use Rattle.terms.specs.Term.{Term, Terms, count, compound, cons}
use Rattle.terms.proofs.TermPlaces.{extent}
use Rattle.terms.proofs.Unknown.{Hides}
use Rattle.codes.specs.views.Codes.{compound_code, term_run}
use Rattle.piece.specs.views.Cells.{found_run}
use Rattle.piece.proofs.StoredCells.{extent_four}
use Rattle.outcomes.specs.views.CompareCells.{arity_of}
use Rattle.outcomes.proofs.FindWith.{find_with, finds_with, nothing, with_zero, with_here, with_there}

-- The arity in a compound's code is the number of its arguments.
pub arity_told : (a : ℕ) (ts : Terms) → count ts ≤ 4 → arity_of (compound_code a (count ts)) ≡ count ts
arity_told a ts few = omega arith

module _ (cells : List ℕ) where
  -- The cells hold the term t, which has r levels, from place p on; and so for a row of terms.
  abbrev pub Held : Term → ℕ → ℕ → Type 0
  Held t r p = (m : ℕ) → m < stride r → get_or cells (p + m) 0 ≡ found_run (find_with nothing t r m)

  abbrev pub HeldRow : Terms → ℕ → ℕ → Type 0
  HeldRow ts r p = (m : ℕ) → m < extent (count ts) r → get_or cells (p + m) 0 ≡ found_run (finds_with nothing ts r m)

  -- The first cell of a held term is its run.
  pub held_run : (t : Term) (below p : ℕ) → Held t (suc below) p → get_or cells p 0 ≡ term_run t
  held_run t below p held =
      let first : p ≡ p + 0 = omega arith in
      ap (λ (i : ℕ). get_or cells i 0) first ∙ held 0 (omega arith) ∙ ap found_run (with_zero nothing t (suc below))

  -- The arguments of a held compound are held from the next place on.
  pub held_arguments
      : (a : ℕ) (ts : Terms) (below p : ℕ) → count ts ≤ 4 → Held (compound a ts) (suc (suc below)) p
      → HeldRow ts (suc below) (p + 1)
  held_arguments a ts below p few held m h =
      let next : p + 1 + m ≡ p + suc m = omega arith in
      ap (λ (i : ℕ). get_or cells i 0) next ∙ held (suc m) (omega (arith, extent_four ts (suc below) few))

  -- The first term of a held row is held there,
  pub held_first : (t : Term) (ts : Terms) (r p : ℕ) → HeldRow (cons t ts) r p → Held t r p
  held_first t ts r p held m h = held m (omega arith) ∙ ap found_run (with_here nothing t ts r m h)

  -- and the others from stride r places later on.
  pub held_others : (t : Term) (ts : Terms) (r p : ℕ) → HeldRow (cons t ts) r p → HeldRow ts r (p + stride r)
  held_others t ts r p held m h =
      let next : p + stride r + m ≡ p + (stride r + m) = omega arith in
      ap (λ (i : ℕ). get_or cells i 0) next ∙ held (stride r + m) (omega arith) ∙ ap found_run (with_there nothing t ts r m)

  -- What stands at a place is held by the cells there if it hides nothing: nothing is stored below an unknown or record 35.
  abbrev pub HeldShown : Term → ℕ → ℕ → Type 0
  HeldShown t r p = (Hides t → ⊥) → Held t r p
