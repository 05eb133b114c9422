-- Where an accepted piece is stored in empty cells, the cell behind that of a place tells whether anything stands below it: a
-- compound's first argument has a cell there, and nothing is stored below anything else. For any number of levels and of terms.
use Prim.Native.Nat.{ℕ, zero, suc, pred, ◌+◌, ◌*◌, ◌≤◌, ◌<◌}
use mathlib.Core.Path.{◌≡◌, refl, sym, subst, ◌∙◌}
use mathlib.Core.List.{List}
use native.Mathlib.Omega.{arith}
use lib.ListN.{length, get_or, set, length-set}
use lib.Seq.{get_or-set_other}
use Rattle.places.specs.Numbering.{stride}
use Rattle.terms.specs.Term.{Term, Terms, count, unknown, never, symbol, numbers, compound, nil, cons}
use Rattle.terms.specs.Filling.{WellFormed, WellFormeds}
use Rattle.terms.specs.Accepted.{Shallow, Shallows}
use Rattle.terms.proofs.TermPlaces.{extent, extent_fits}
use Rattle.codes.specs.views.Codes.{term_run}
use Rattle.codes.proofs.TermRuns.{run_some}
use Rattle.piece.specs.views.Cells.{store_term, store_terms}
use Rattle.piece.specs.views.Emptied.{TellsBelow, ArgumentTells}
use Rattle.piece.proofs.Rooms.{no_arguments}
use Rattle.piece.proofs.StoredCells.{term_length, terms_before, term_here, term_after, extent_four}

-- Nothing stands from place p on.
abbrev Clear : ℕ → List ℕ → Type 0
Clear p cells = (i : ℕ) → p ≤ i → get_or cells i 0 ≡ 0

-- So it is of place p, which has r levels, and of its four children.
record Tells (r p : ℕ) (cells : List ℕ) : Type 0 where
  own : TellsBelow (stride r) p cells
  children : (k : ℕ) → k < 4 → TellsBelow (stride (pred r)) (p + 1 + extent k (pred r)) cells

-- It stays so where the cells below the place stay, of a place
pub tells_kept
    : (many p : ℕ) (old new : List ℕ) → ((i : ℕ) → p < i → i < p + many → get_or new i 0 ≡ get_or old i 0)
    → TellsBelow many p old → TellsBelow many p new
tells_kept many p old new same tells none i low high =
    same i low high ∙ tells (sym (same (p + 1) (omega arith) (omega arith)) ∙ none) i low high

-- and of its children too.
all_kept
    : (r p : ℕ) (old new : List ℕ) → 1 ≤ r → ((i : ℕ) → p < i → i < p + stride r → get_or new i 0 ≡ get_or old i 0)
    → Tells r p old → Tells r p new
all_kept r p old new some same tells =
    record {
      own = tells_kept (stride r) p old new same tells.own;
      children = λ k h.
          tells_kept (stride (pred r)) (p + 1 + extent k (pred r)) old new
          (λ i low high. same i (omega arith) (omega (arith, extent_fits (suc k) r some (omega arith))))
          (tells.children k h);
    }

-- It is so where nothing stands below the place.
none_tells : (r p : ℕ) (cells : List ℕ) → Clear (p + 1) cells → Tells r p cells
none_tells r p cells clear =
    record {
      own = λ none i low high. clear i (omega arith);
      children = λ k h none i low high. clear i (omega arith);
    }

-- Nothing stands behind a term that is stored alone.
alone : (p : ℕ) (cells : List ℕ) (run : ℕ) → Clear p cells → Clear (p + 1) (set cells p run)
alone p cells run clear i h = get_or-set_other cells p i run 0 (λ e. omega arith) ∙ clear i (omega arith)

-- A compound's first argument has a cell behind the compound's.
first_there
    : (ts : Terms) (below p : ℕ) (cells : List ℕ) → 1 ≤ count ts → p < length cells
    → get_or (store_terms ts below p cells) p 0 ≡ 0 → ⊥
first_there nil below p cells some there none = omega arith
first_there (cons t ts) below p cells some there none =
    let next = p + stride (suc below) in
    let stays = terms_before ts below next (store_term t below p cells) p (omega arith) in
    run_some t (sym (stays ∙ term_here t below p cells there) ∙ none)

mutual
  -- It is so of an accepted term,
  term_tells
      : (t : Term) (below p : ℕ) (cells : List ℕ) → WellFormed t → Shallow t (suc below) → Clear p cells
      → p + stride (suc below) ≤ length cells → Tells (suc below) p (store_term t below p cells)
  term_tells unknown below p cells ok shallow clear room = none_tells (suc below) p _ (alone p cells _ clear)
  term_tells never below p cells ok shallow clear room = none_tells (suc below) p _ (alone p cells _ clear)
  term_tells (symbol a) below p cells ok shallow clear room = none_tells (suc below) p _ (alone p cells _ clear)
  term_tells (numbers a b) below p cells ok shallow clear room = none_tells (suc below) p _ (alone p cells _ clear)
  term_tells (compound a ts) zero p cells ok shallow clear room = absurd (no_arguments ts ok.1 shallow.1)
  term_tells (compound a ts) (suc below) p cells ok shallow clear room =
      let run = term_run (compound a ts) in
      let size = length-set cells p run in
      record {
        own = λ none. absurd (first_there ts below (p + 1) (set cells p run) ok.1 (omega arith) none);
        children = λ k h.
            (terms_tell ts below (p + 1) (set cells p run) ok.3 shallow.1 (alone p cells run clear)
            (omega (arith, extent_four ts (suc below) ok.2)) k _ refl
            ).own;
      }

  -- of each of a row of accepted terms, and of each place behind them.
  terms_tell
      : (ts : Terms) (below p : ℕ) (cells : List ℕ) → WellFormeds ts → Shallows ts (suc below) → Clear p cells
      → p + extent (count ts) (suc below) ≤ length cells → (k q : ℕ) → q ≡ p + extent k (suc below)
      → Tells (suc below) q (store_terms ts below p cells)
  terms_tell nil below p cells ok shallow clear room k q is =
      none_tells (suc below) q cells (λ i h. clear i (omega arith))
  terms_tell (cons t ts) below p cells ok shallow clear room zero q is =
      let first : p ≡ q = omega arith in
      subst (λ (x : ℕ). Tells (suc below) x (store_terms (cons t ts) below p cells)) first
      (all_kept (suc below) p (store_term t below p cells) _ (omega arith)
      (λ i low high. terms_before ts below (p + stride (suc below)) (store_term t below p cells) i high)
      (term_tells t below p cells ok.0 shallow.0 clear (omega arith)))
  terms_tell (cons t ts) below p cells ok shallow clear room (suc k) q is =
      let size = term_length t below p cells in
      terms_tell ts below (p + stride (suc below)) (store_term t below p cells) ok.1 shallow.1
      (λ i h. term_after t below p cells i ok.0 shallow.0 h ∙ clear i (omega arith))
      (omega arith) k q (omega arith)

-- The children of an argument stand in 21 places each.
children_extent : (k : ℕ) → extent k 3 ≡ 21 * k
children_extent zero = refl
children_extent (suc k) = omega (arith, children_extent k)

-- It is so of the arguments of an accepted piece, which have 4 levels, stored in cells that are all empty.
pub argument_tells
    : (ts : Terms) (cells : List ℕ) → WellFormeds ts → Shallows ts 4 → ((i : ℕ) → get_or cells i 0 ≡ 0)
    → extent (count ts) 4 ≤ length cells → (k q : ℕ) → q ≡ extent k 4 → ArgumentTells q (store_terms ts 3 0 cells)
argument_tells ts cells ok shallow clear room k q is =
    let tells = terms_tell ts 3 0 cells ok shallow (λ i h. clear i) (omega arith) k q (omega arith) in
    record {
      own = tells.own;
      children = λ j h.
          let place : q + 1 + extent j 3 ≡ q + 1 + 21 * j = omega (arith, children_extent j) in
          subst (λ (x : ℕ). TellsBelow 21 x (store_terms ts 3 0 cells)) place (tells.children j h);
    }
