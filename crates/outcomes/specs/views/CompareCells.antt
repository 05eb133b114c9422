-- How two terms of a piece compare, as its cells tell it (document 01, "Places and tests"; document 02, request 6).
use Rattle.std.specs.Prelude.{ℕ, zero, suc, ◌+◌, ◌*◌, ◌%◌, ◌≤◌, ◌<◌, Bool, false, ◌&&◌, ◌||◌, not, cond}
use Rattle.std.specs.Prelude.{List, get_or, T, leb, ltb, eqb}
use Rattle.places.specs.Numbering.{stride}
use Rattle.terms.specs.Outcome.{Outcome, holds, not_known, contradicted, known, ◌and◌, compare_spans, beside_unknown}
use Rattle.codes.specs.views.Codes.{compound_code, number_code, never_code, low_of, high_of}

-- The codes of compounds stand between those of symbols and of numbers; the lowest byte of one is the arity.
abbrev pub is_compound : ℕ → Bool
is_compound code = leb (compound_code 0 0) code && ltb code (number_code 0)

abbrev pub arity_of : ℕ → ℕ
arity_of code = code % 256

-- No compound has more than 4 arguments: one with this code, at a place with this run, and at every place.
abbrev pub NarrowCode : ℕ → Type 0
NarrowCode code = T (is_compound code) → arity_of code ≤ 4

abbrev pub NarrowRun : ℕ → Type 0
NarrowRun run = NarrowCode (low_of run)

abbrev pub Narrow : List ℕ → Type 0
Narrow cells = (i : ℕ) → NarrowRun (get_or cells i 0)

-- n neighbours with so many levels below each, the first at place p, are places of a piece.
pub record Inside (below n p : ℕ) : Type 0 where
  pub levels : below < 4
  pub places : p + n * stride (suc below) ≤ 680

-- "A term that is or holds" record 35: of n terms in a row, of which each is asked by one and the next stands i places later,
abbrev pub row_holds_never : (ℕ → Bool) → ℕ → ℕ → ℕ → Bool
row_holds_never one i zero p = false
row_holds_never one i (suc n) p = one p || row_holds_never one i n (p + i)

-- and the term at place p with this code and so many levels below it. No compound stands where no level is below.
abbrev pub holds_never_at : List ℕ → ℕ → ℕ → ℕ → Bool
holds_never_at cells zero p code = eqb code never_code
holds_never_at cells (suc below) p code =
    cond (is_compound code)
    (row_holds_never (λ i. holds_never_at cells below i (low_of (get_or cells i 0))) (stride (suc below)) (arity_of code) (p + 1))
    (eqb code never_code)

-- The term at place p by its cell.
abbrev pub cell_holds_never : List ℕ → ℕ → ℕ → Bool
cell_holds_never cells below p = holds_never_at cells below p (low_of (get_or cells p 0))

-- Of two that are the same so far: as the rest says. Where that is not known: as is said of them then.
abbrev pub if_same : Outcome → Outcome → Outcome → Outcome
if_same holds rest unsure = rest
if_same not_known rest unsure = unsure
if_same contradicted rest unsure = contradicted

-- Two terms with the same code: compounds are as their arguments say, and record 35 differs from itself.
abbrev pub same_code : ℕ → Outcome → Outcome
same_code code arguments = cond (is_compound code) arguments (known (not (eqb code never_code)))

-- Two terms with the codes from x to y and from u to v: they differ where they have no code in common, and two single codes are the
-- same. Else it is unsure.
abbrev pub compare_runs : ℕ → ℕ → ℕ → ℕ → Outcome → Outcome → Outcome
compare_runs x y u v arguments unsure = if_same (compare_spans x y u v) (same_code x arguments) unsure

-- What is said of two terms, whose lowest codes are x and u, where one has several codes: it is not known, but where one of them
-- holds record 35 they differ.
abbrev pub left_open : List ℕ → ℕ → ℕ → ℕ → ℕ → ℕ → ℕ → Outcome
left_open cells below other p q x u = beside_unknown (holds_never_at cells below p x || holds_never_at cells other q u)

-- n pairs of terms in turn, the first at places p and q, each compared by one: the next ones stand i and j places
-- later.
abbrev pub compare_row : (ℕ → ℕ → Outcome) → ℕ → ℕ → ℕ → ℕ → ℕ → Outcome
compare_row one i j zero p q = holds
compare_row one i j (suc n) p q = ◌and◌ (one p q) (compare_row one i j n (p + i) (q + j))

-- Two terms whose runs are a and b, where their arguments say this, and this is said where it is unsure.
abbrev pub compare_by : ℕ → ℕ → Outcome → Outcome → Outcome
compare_by a b arguments unsure = compare_runs (low_of a) (high_of a) (low_of b) (high_of b) arguments unsure

-- The terms at places p and q, whose runs are a and b, with so many levels below the one and the other. No compound stands where no
-- level is below.
abbrev pub compare_at : List ℕ → ℕ → ℕ → ℕ → ℕ → ℕ → ℕ → Outcome
compare_at cells zero other p q a b = compare_by a b not_known (left_open cells zero other p q (low_of a) (low_of b))
compare_at cells (suc below) zero p q a b = compare_by a b not_known (left_open cells (suc below) zero p q (low_of a) (low_of b))
compare_at cells (suc below) (suc other) p q a b =
    compare_by a b
    (compare_row (λ i j. compare_at cells below other i j (get_or cells i 0) (get_or cells j 0))
    (stride (suc below)) (stride (suc other)) (arity_of (low_of a)) (p + 1) (q + 1))
    (left_open cells (suc below) (suc other) p q (low_of a) (low_of b))

-- The terms at places p and q by their cells.
abbrev pub compare_cells : List ℕ → ℕ → ℕ → ℕ → ℕ → Outcome
compare_cells cells below other p q = compare_at cells below other p q (get_or cells p 0) (get_or cells q 0)
