-- What the cells hold after terms are stored in them, for any number of levels below the terms and of terms in a row:
-- at each place the run of what stands there, and nothing below what hides it.
use Prim.Native.Nat.{ℕ, zero, suc, pred, ◌+◌, ◌-◌, ◌*◌, ◌≤◌, ◌<◌}
use mathlib.Core.Path.{◌≡◌, ap, sym, ◌∙◌}
use mathlib.Core.List.{List}
use native.Mathlib.Nat.{add-zero}
use native.Mathlib.Decide.{dec_lt}
use native.Mathlib.Omega.{arith}
use lib.ListN.{length, get_or, set, length-set}
use lib.Seq.{get_or-set_other}
use Rattle.places.specs.Numbering.{stride}
use Rattle.terms.specs.Term.{Term, Terms, count, unknown, never, symbol, numbers, compound, nil, cons}
use Rattle.terms.specs.Filling.{WellFormed, WellFormeds}
use Rattle.terms.specs.Accepted.{Shallow, Shallows}
use Rattle.terms.proofs.TermPlaces.{extent}
use Rattle.codes.specs.views.Codes.{term_run}
use Rattle.piece.specs.views.Cells.{found_run, store_term, store_terms}
use Rattle.piece.proofs.StoredCells.{term_length, terms_before, term_here, term_after, extent_four}
use Rattle.outcomes.proofs.FindWith.{find_with, finds_with, nothing, with_zero, with_here, with_there}

-- The k cells from place p on are there and empty.
pub record Empty (cells : List ℕ) (p k : ℕ) : Type 0 where
  pub there : p + k ≤ length cells
  pub none : (n : ℕ) → n < k → get_or cells (p + n) 0 ≡ 0

module _ (cells : List ℕ) (p k : ℕ) (empty : Empty cells p k) where
  -- A run that is stored at place p leaves the later cells empty.
  run_later : (run n : ℕ) → suc n < k → get_or (set cells p run) (p + suc n) 0 ≡ 0
  run_later run n h = get_or-set_other cells p (p + suc n) run 0 (λ e. omega arith) ∙ empty.none (suc n) h

  -- So the later cells are a row of empty ones.
  later_empty : (run : ℕ) → 0 < k → Empty (set cells p run) (p + 1) (pred k)
  later_empty run some =
      let there = empty.there in
      record {
        there = rw length-set (omega arith);
        none = λ n h.
            let next : p + 1 + n ≡ p + suc n = omega arith in
            ap (λ (i : ℕ). get_or (set cells p run) i 0) next ∙ run_later run n (omega arith);
      }

  -- The first cells of a row are as empty as the row.
  first_empty : (j : ℕ) → j ≤ k → Empty cells p j
  first_empty j h =
      let there = empty.there in record { there = omega arith; none = λ n l. empty.none n (omega arith) }

  -- The others stay so where a term is stored before them.
  others_empty
      : (t : Term) (below : ℕ) → WellFormed t → Shallow t (suc below) → stride (suc below) ≤ k
      → Empty (store_term t below p cells) (p + stride (suc below)) (k - stride (suc below))
  others_empty t below ok shallow room =
      let there = empty.there in
      record {
        there = rw term_length (omega arith);
        none = λ n h.
            let next : p + stride (suc below) + n ≡ p + (stride (suc below) + n) = omega arith in
            term_after t below p cells (p + stride (suc below) + n) ok shallow (omega arith)
            ∙ ap (λ (i : ℕ). get_or cells i 0) next ∙ empty.none (stride (suc below) + n) (omega arith);
      }

-- A term's own place.
own_place
    : (t : Term) (below p : ℕ) (cells : List ℕ) → Empty cells p (stride (suc below))
    → get_or (store_term t below p cells) (p + 0) 0 ≡ found_run (find_with nothing t (suc below) 0)
own_place t below p cells empty =
    let there = empty.there in
    ap (λ (i : ℕ). get_or (store_term t below p cells) i 0) (add-zero p) ∙ term_here t below p cells (omega arith)
    ∙ ap found_run (sym (with_zero nothing t (suc below)))

mutual
  -- A term that is stored in empty cells is held by them at each of its places.
  pub term_stored
      : (t : Term) (below p : ℕ) (cells : List ℕ) (n : ℕ) → WellFormed t → Shallow t (suc below)
      → Empty cells p (stride (suc below)) → n < stride (suc below)
      → get_or (store_term t below p cells) (p + n) 0 ≡ found_run (find_with nothing t (suc below) n)
  term_stored unknown below p cells zero ok shallow empty h = own_place unknown below p cells empty
  term_stored unknown below p cells (suc n) ok shallow empty h = run_later cells p _ empty (term_run unknown) n h
  term_stored never below p cells zero ok shallow empty h = own_place never below p cells empty
  term_stored never below p cells (suc n) ok shallow empty h = run_later cells p _ empty (term_run never) n h
  term_stored (symbol a) below p cells zero ok shallow empty h = own_place (symbol a) below p cells empty
  term_stored (symbol a) below p cells (suc n) ok shallow empty h = run_later cells p _ empty (term_run (symbol a)) n h
  term_stored (numbers a b) below p cells zero ok shallow empty h = own_place (numbers a b) below p cells empty
  term_stored (numbers a b) below p cells (suc n) ok shallow empty h = run_later cells p _ empty (term_run (numbers a b)) n h
  term_stored (compound a ts) below p cells zero ok shallow empty h = own_place (compound a ts) below p cells empty
  term_stored (compound a ts) zero p cells (suc n) ok shallow empty h = absurd (omega arith)
  term_stored (compound a ts) (suc below) p cells (suc n) ok shallow empty h =
      let run = term_run (compound a ts) in
      let next : p + suc n ≡ p + 1 + n = omega arith in
      ap (λ (i : ℕ). get_or (store_terms ts below (p + 1) (set cells p run)) i 0) next
      ∙ terms_stored ts below (p + 1) (set cells p run) (4 * stride (suc below)) n ok.3 shallow.1
      (later_empty cells p _ empty run (omega arith)) (extent_four ts (suc below) ok.2) (omega arith)

  -- So is a row of terms, in a row of k empty cells.
  pub terms_stored
      : (ts : Terms) (below p : ℕ) (cells : List ℕ) (k n : ℕ) → WellFormeds ts → Shallows ts (suc below)
      → Empty cells p k → extent (count ts) (suc below) ≤ k → n < k
      → get_or (store_terms ts below p cells) (p + n) 0 ≡ found_run (finds_with nothing ts (suc below) n)
  terms_stored nil below p cells k n ok shallow empty room h = empty.none n h
  terms_stored (cons t ts) below p cells k n ok shallow empty room h =
      let step = stride (suc below) in
      let stored = store_term t below p cells in
      elim (dec_lt n step) [
        | yes first ↦
            terms_before ts below (p + step) stored (p + n) (omega arith)
            ∙ term_stored t below p cells n ok.0 shallow.0 (first_empty cells p k empty step (omega arith)) first
            ∙ ap found_run (sym (with_here nothing t ts (suc below) n first))
        | no later ↦
            let i = n - step in
            let n-is : n ≡ step + i = omega arith in
            let place_is : p + n ≡ p + step + i = omega arith in
            ap (λ (j : ℕ). get_or (store_terms ts below (p + step) stored) j 0) place_is
            ∙ terms_stored ts below (p + step) stored (k - step) i ok.1 shallow.1
            (others_empty cells p k empty t below ok.0 shallow.0 (omega arith)) (omega arith) (omega arith)
            ∙ ap found_run
            (sym (ap (finds_with nothing (cons t ts) (suc below)) n-is ∙ with_there nothing t ts (suc below) i))
      ]
