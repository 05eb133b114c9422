-- Cells are emptied argument by argument, up to those from which on nothing stands.
use Prim.Native.Nat.{ℕ, zero, suc, ◌+◌, ◌*◌, ◌≤◌, ◌<◌}
use mathlib.Core.Path.{◌≡◌, refl, ap, sym, subst, ◌∙◌}
use mathlib.Core.List.{List}
use native.Mathlib.Decide.{dec_lt, ℕ_discrete}
use native.Mathlib.Omega.{arith}
use lib.ListN.{length, get_or, set, length-set, replicate, length-replicate, get_or-replicate, get_or-eq_default}
use lib.Seq.{ext_get_or, get_or-set_same, get_or-set_other}
use Rattle.terms.specs.Term.{Terms, count}
use Rattle.terms.specs.Accepted.{AcceptedPiece}
use Rattle.terms.proofs.TermPlaces.{extent}
use Rattle.piece.specs.views.Emptied.{TellsBelow, ArgumentTells, Emptied}
use Rattle.piece.specs.views.LaidOut.{empty_cells, UsedTo, piece_cells}
use Rattle.piece.proofs.StoredCells.{terms_length, terms_after}
use Rattle.piece.proofs.Telling.{tells_kept, argument_tells}

-- Where none is to be emptied, the cells stay.
pub emptied_none : (p : ℕ) (cells : List ℕ) → Emptied p p cells cells
emptied_none p cells =
    record { size = refl; within = λ i low high. absurd (omega arith); before = λ i h. refl; behind = λ i h. refl }

-- Up to the same place.
pub emptied_to : {p i j : ℕ} {old new : List ℕ} → Emptied p i old new → i ≡ j → Emptied p j old new
emptied_to {p} {i} {j} {old} {new} e same = subst (λ (end : ℕ). Emptied p end old new) same e

-- Where the cells from p to i are emptied,
module _ {p i : ℕ} {old new : List ℕ} (e : Emptied p i old new) (begun : p ≤ i) where
  -- so they are up to the next place once that is emptied,
  pub emptied_next : i < length old → Emptied p (i + 1) old (set new i 0)
  emptied_next there =
      let size = e.size in
      record {
        size = length-set new i 0 ∙ size;
        within = λ j low high. elim (ℕ_discrete j i) [
          | yes here ↦ ap (λ (l : ℕ). get_or (set new i 0) l 0) here ∙ get_or-set_same new i 0 0 (omega arith)
          | no other ↦ get_or-set_other new i j 0 0 (λ same. omega arith) ∙ e.within j low (omega arith)
        ];
        before = λ j h. get_or-set_other new i j 0 0 (λ same. omega arith) ∙ e.before j h;
        behind = λ j h. get_or-set_other new i j 0 0 (λ same. omega arith) ∙ e.behind j (omega arith);
      }

  -- and up to a later place once those up to there are;
  pub emptied_more : {end : ℕ} {then : List ℕ} → Emptied i end new then → i ≤ end → Emptied p end old then
  emptied_more {end} {then} more on =
      record {
        size = more.size ∙ e.size;
        within = λ j low high. elim (dec_lt j i) [
          | yes first ↦ more.before j first ∙ e.within j low first
          | no later ↦ more.within j (omega arith) high
        ];
        before = λ j h. more.before j (omega arith) ∙ e.before j h;
        behind = λ j h. more.behind j h ∙ e.behind j (omega arith);
      }

  -- the cells behind them tell what they told, of a place
  pub still_tells : (many : ℕ) → TellsBelow many i old → TellsBelow many i new
  still_tells many tells = tells_kept many i old new (λ j low high. e.behind j (omega arith)) tells

  -- and of an argument.
  pub argument_still : ArgumentTells i old → ArgumentTells i new
  argument_still tells =
      record {
        own = still_tells 85 tells.own;
        children = λ k h.
            tells_kept 21 (i + 1 + 21 * k) old new (λ j low high. e.behind j (omega arith)) (tells.children k h);
      }

-- A place's own cell is emptied first.
pub emptied_own : {p : ℕ} (cells : List ℕ) → p < length cells → Emptied p (p + 1) cells (set cells p 0)
emptied_own {p} cells there = emptied_next (emptied_none p cells) (omega arith) there

-- Where nothing stands below the place, only its own cell is to be emptied.
pub emptied_flat
    : {p : ℕ} (many : ℕ) {old new : List ℕ} → 1 ≤ many → Emptied p (p + 1) old new → TellsBelow many p old
    → get_or new (p + 1) 0 ≡ 0 → Emptied p (p + many) old new
emptied_flat {p} many {old} {new} some e tells none =
    record {
      size = e.size;
      within = λ j low high. elim (dec_lt j (p + 1)) [
        | yes own ↦ e.within j low own
        | no below ↦
            e.behind j (omega arith) ∙ tells (sym (e.behind (p + 1) (omega arith)) ∙ none) j (omega arith) high
      ];
      before = e.before;
      behind = λ j h. e.behind j (omega arith);
    }

-- Where the cells that were used are emptied, all are empty.
pub emptied_all
    : {k i : ℕ} {old new : List ℕ} → UsedTo k old → k ≤ i → Emptied 0 i old new → new ≡ empty_cells
unfolding empty_cells
emptied_all {k} {i} {old} {new} used all e =
    let size = e.size ∙ used.size in
    ext_get_or 0 new (replicate 680 0) (size ∙ sym (length-replicate {A = ℕ} 680 0))
    (λ j h.
    let none : get_or new j 0 ≡ 0 =
    elim (dec_lt j i) [
      | yes first ↦ e.within j (omega arith) first
      | no later ↦ e.behind j (omega arith) ∙ used.behind j (omega arith)
    ] in
    none ∙ sym (get_or-replicate 680 j 0 0 (omega arith)))

-- Empty cells hold nothing at any place.
all_empty : (i : ℕ) → get_or {A = ℕ} (replicate 680 0) i 0 ≡ 0
all_empty i = elim (dec_lt i 680) [
  | yes inside ↦ get_or-replicate 680 i 0 0 inside
  | no outside ↦
      let beyond : length {A = ℕ} (replicate 680 0) ≤ i = omega (arith, length-replicate {A = ℕ} 680 0) in
      get_or-eq_default {A = ℕ} (replicate 680 0) 0 beyond
]

-- Nothing stands in empty cells.
pub none_used : {cells : List ℕ} → cells ≡ replicate 680 0 → UsedTo 0 cells
none_used {cells} e =
    subst (UsedTo 0) (sym e)
    (record {
      size = length-replicate {A = ℕ} 680 0;
      behind = λ i h. all_empty i;
      arguments = λ a. record { own = λ none i low high. all_empty i; children = λ k h none i low high. all_empty i };
    })

-- The arguments of a piece stand in 85 places each,
arguments_extent : (n : ℕ) → extent n 4 ≡ 85 * n
arguments_extent zero = refl
arguments_extent (suc n) = omega (arith, arguments_extent n)

-- nothing stands behind them, and the cell behind an argument's or a child's tells whether anything stands below it.
pub piece_used
    : (arity : ℕ) (piece : Terms) → arity ≤ 8 → AcceptedPiece arity piece → UsedTo (85 * arity) (piece_cells piece)
unfolding empty_cells
piece_used arity piece few accepted =
    let none = none_used {cells = empty_cells} refl in
    let counted = accepted.arguments in
    let size = none.size in
    let extents = arguments_extent (count piece) in
    record {
      size = terms_length piece 3 0 empty_cells ∙ size;
      behind = λ j h.
          terms_after piece 3 0 empty_cells j accepted.well_formed accepted.shallow (omega arith)
          ∙ none.behind j (omega arith);
      arguments = λ a.
          argument_tells piece empty_cells accepted.well_formed accepted.shallow (λ i. none.behind i (omega arith))
          (omega arith) a (85 * a) (sym (arguments_extent a));
    }
