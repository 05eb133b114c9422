-- What storing terms does to the cells, for any number of levels below the terms and of terms in a row: the cell of each place gets
-- the run of what stands there, and cells before and behind the terms' places stay.
use Prim.Native.Nat.{ℕ, zero, suc, pred, ◌+◌, ◌*◌, ◌≤◌, ◌<◌}
use mathlib.Core.Path.{◌≡◌, refl, ◌∙◌}
use mathlib.Core.List.{List}
use native.Mathlib.Omega.{arith}
use lib.ListN.{length, get_or, set, length-set}
use lib.Seq.{get_or-set_same, get_or-set_other}
use Rattle.places.specs.Numbering.{stride}
use Rattle.terms.specs.Term.{Term, Terms, count, unknown, never, symbol, numbers, compound, nil, cons}
use Rattle.terms.specs.Filling.{WellFormed, WellFormeds}
use Rattle.terms.specs.Accepted.{Shallow, Shallows}
use Rattle.terms.proofs.TermPlaces.{extent, extent_le}
use Rattle.codes.specs.views.Codes.{term_run}
use Rattle.piece.specs.views.Cells.{store_term, store_terms}
use Rattle.piece.proofs.Rooms.{no_arguments}

mutual
  -- Storing a term keeps the number of cells,
  pub term_length : (t : Term) (below p : ℕ) (cells : List ℕ) → length (store_term t below p cells) ≡ length cells
  term_length unknown below p cells = length-set cells p (term_run unknown)
  term_length never below p cells = length-set cells p (term_run never)
  term_length (symbol a) below p cells = length-set cells p (term_run (symbol a))
  term_length (numbers a b) below p cells = length-set cells p (term_run (numbers a b))
  term_length (compound a ts) below p cells =
      terms_length ts (pred below) (p + 1) (set cells p (term_run (compound a ts)))
      ∙ length-set cells p (term_run (compound a ts))

  -- and so does storing a row of terms.
  pub terms_length : (ts : Terms) (below p : ℕ) (cells : List ℕ) → length (store_terms ts below p cells) ≡ length cells
  terms_length nil below p cells = refl
  terms_length (cons t ts) below p cells =
      terms_length ts below (p + stride (suc below)) (store_term t below p cells) ∙ term_length t below p cells

mutual
  -- Storing a term changes no cell before its place,
  pub term_before
      : (t : Term) (below p : ℕ) (cells : List ℕ) (i : ℕ) → i < p
      → get_or (store_term t below p cells) i 0 ≡ get_or cells i 0
  term_before unknown below p cells i h = get_or-set_other cells p i (term_run unknown) 0 (λ e. omega arith)
  term_before never below p cells i h = get_or-set_other cells p i (term_run never) 0 (λ e. omega arith)
  term_before (symbol a) below p cells i h = get_or-set_other cells p i (term_run (symbol a)) 0 (λ e. omega arith)
  term_before (numbers a b) below p cells i h = get_or-set_other cells p i (term_run (numbers a b)) 0 (λ e. omega arith)
  term_before (compound a ts) below p cells i h =
      let run = term_run (compound a ts) in
      terms_before ts (pred below) (p + 1) (set cells p run) i (omega arith)
      ∙ get_or-set_other cells p i run 0 (λ e. omega arith)

  -- and so does storing a row of terms.
  pub terms_before
      : (ts : Terms) (below p : ℕ) (cells : List ℕ) (i : ℕ) → i < p
      → get_or (store_terms ts below p cells) i 0 ≡ get_or cells i 0
  terms_before nil below p cells i h = refl
  terms_before (cons t ts) below p cells i h =
      terms_before ts below (p + stride (suc below)) (store_term t below p cells) i (omega arith)
      ∙ term_before t below p cells i h

-- A term's own cell holds its run: of a span both ends.
pub term_here
    : (t : Term) (below p : ℕ) (cells : List ℕ) → p < length cells → get_or (store_term t below p cells) p 0 ≡ term_run t
term_here unknown below p cells there = get_or-set_same cells p (term_run unknown) 0 there
term_here never below p cells there = get_or-set_same cells p (term_run never) 0 there
term_here (symbol a) below p cells there = get_or-set_same cells p (term_run (symbol a)) 0 there
term_here (numbers a b) below p cells there = get_or-set_same cells p (term_run (numbers a b)) 0 there
term_here (compound a ts) below p cells there =
    let run = term_run (compound a ts) in
    terms_before ts (pred below) (p + 1) (set cells p run) p (omega arith) ∙ get_or-set_same cells p run 0 there

-- At most 4 terms in a row take up at most 4 strides.
pub extent_four : (ts : Terms) (r : ℕ) → count ts ≤ 4 → extent (count ts) r ≤ 4 * stride r
extent_four ts r few = omega (arith, extent_le (count ts) 4 r few)

mutual
  -- Storing an accepted term changes no cell after its places,
  pub term_after
      : (t : Term) (below p : ℕ) (cells : List ℕ) (i : ℕ) → WellFormed t → Shallow t (suc below)
      → p + stride (suc below) ≤ i → get_or (store_term t below p cells) i 0 ≡ get_or cells i 0
  term_after unknown below p cells i ok shallow h = get_or-set_other cells p i (term_run unknown) 0 (λ e. omega arith)
  term_after never below p cells i ok shallow h = get_or-set_other cells p i (term_run never) 0 (λ e. omega arith)
  term_after (symbol a) below p cells i ok shallow h = get_or-set_other cells p i (term_run (symbol a)) 0 (λ e. omega arith)
  term_after (numbers a b) below p cells i ok shallow h = get_or-set_other cells p i (term_run (numbers a b)) 0 (λ e. omega arith)
  term_after (compound a ts) zero p cells i ok shallow h = absurd (no_arguments ts ok.1 shallow.1)
  term_after (compound a ts) (suc below) p cells i ok shallow h =
      let run = term_run (compound a ts) in
      terms_after ts below (p + 1) (set cells p run) i ok.3 shallow.1
      (omega (arith, extent_four ts (suc below) ok.2))
      ∙ get_or-set_other cells p i run 0 (λ e. omega arith)

  -- and so does storing a row of accepted terms.
  pub terms_after
      : (ts : Terms) (below p : ℕ) (cells : List ℕ) (i : ℕ) → WellFormeds ts → Shallows ts (suc below)
      → p + extent (count ts) (suc below) ≤ i → get_or (store_terms ts below p cells) i 0 ≡ get_or cells i 0
  terms_after nil below p cells i ok shallow h = refl
  terms_after (cons t ts) below p cells i ok shallow h =
      terms_after ts below (p + stride (suc below)) (store_term t below p cells) i ok.1 shallow.1 (omega arith)
      ∙ term_after t below p cells i ok.0 shallow.0 (omega arith)
