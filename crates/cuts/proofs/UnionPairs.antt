-- Pairs of a first and a last run (document 02, request 4), each with the union of the sets from the first to the last: "one case
-- for each pair of first and last run, ordered so, with low and high their ends."
use Prim.Native.Nat.{ℕ, suc, pred, ◌*◌, ◌≤◌, ◌<◌}
use mathlib.Core.Path.{◌≡◌, refl, ap, sym, ◌∙◌}
use mathlib.Core.List.{List, [], ◌∷◌, ◌++◌, map}
use native.Mathlib.Omega.{arith}
use lib.Bits.{bit_or, or_zero_l}
use lib.ListN.{length, length-map}
use Rattle.basics.proofs.Filters.{map_join}
use Rattle.basics.proofs.Sorted.{AscendingBy}
use Rattle.terms.specs.RuleTests.{Range}
use Rattle.decision.specs.Runs.{between, from_to, run_pairs}
use Rattle.decision.proofs.cases.RangeOrder.{Filled}
use Rattle.decision.proofs.cases.RunPairs.{pairs_count}
use Rattle.cuts.specs.views.Runs.{Run}
use Rattle.cuts.specs.views.CaseRuns.{union_row, union_pairs}

-- The codes of a run.
abbrev codes_of : Run → Range
codes_of r = record { low = r.low; high = r.high }

row_codes : (r : Run) (union : ℕ) (rs : List Run)
    → map codes_of (union_row r.low union rs) ≡ map (from_to (codes_of r)) (map codes_of rs)
row_codes r union [] = refl
row_codes r union (s ∷ rest) =
    ap (λ (l : List Range). record { low = r.low; high = s.high } ∷ l) (row_codes r (bit_or union s.set) rest)

-- They are the pairs of the runs' codes,
pub union_codes : (rs : List Run) → map codes_of (union_pairs rs) ≡ run_pairs (map codes_of rs)
union_codes [] = refl
union_codes (r ∷ rs) =
    map_join codes_of (union_row r.low 0 (r ∷ rs)) (union_pairs rs)
    ∙ (λ i. row_codes r 0 (r ∷ rs) i ++ union_codes rs i)

-- so there are n (n + 1) / 2 of n runs.
pub union_count : (rs : List Run) → length (union_pairs rs) * 2 ≡ length rs * suc (length rs)
union_count rs =
    sym (ap (λ (k : ℕ). k * 2) (length-map (union_pairs rs) codes_of))
    ∙ ap (λ (l : List Range). length l * 2) (union_codes rs)
    ∙ pairs_count (map codes_of rs)
    ∙ ap (λ (k : ℕ). k * suc k) (length-map rs codes_of)

-- Each range of the list begins behind the one before it.
abbrev pub Adjoining : Range → List Range → Type 0
Adjoining r [] = Unit
Adjoining r (s ∷ rest) = (s.low ≡ suc r.high) × Filled s × Adjoining s rest

abbrev pub Unbroken : List Range → Type 0
Unbroken [] = Unit
Unbroken (r ∷ rs) = Filled r × Adjoining r rs

-- So it is with those between ascending cuts.
between_adjoin : (x y : ℕ) (ys : List ℕ) → AscendingBy ◌<◌ (x ∷ y ∷ ys)
    → Adjoining (record { low = x; high = pred y }) (between (y ∷ ys))
between_adjoin x y [] a = tt
between_adjoin x y (z ∷ zs) a =
    (omega (arith, a.0.0), omega (arith, a.1.0.0), between_adjoin y z zs a.1)

pub between_unbroken : (zs : List ℕ) → AscendingBy ◌<◌ zs → Unbroken (between zs)
between_unbroken [] a = tt
between_unbroken (x ∷ []) a = tt
between_unbroken (x ∷ (y ∷ ys)) a = (omega (arith, a.0.0), between_adjoin x y ys a)

module _ (code : ℕ → ℕ) (sets : Range → ℕ)
    (joins : (q r s : Range) → q.low ≤ s.low → s.low ≡ suc r.high → Filled s
    → bit_or (sets (from_to q r)) (sets s) ≡ sets (from_to q s)) where
  -- A range as a run.
  abbrev pub run_with : Range → Run
  run_with r = record { low = code r.low; high = code r.high; set = sets r }

  -- Where the set of two ranges that adjoin is the union of theirs, that of each pair is the running union: along a row from any of
  -- its runs on,
  pub row_union : (q r : Range) (rest : List Range) → q.low ≤ suc r.high → Adjoining r rest
      → union_row (code q.low) (sets (from_to q r)) (map run_with rest) ≡ map run_with (map (from_to q) rest)
  row_union q r [] h a = refl
  row_union q r (s ∷ rest) h a =
      let row : ℕ → List Run = λ u. record { low = code q.low; high = code s.high; set = u }
      ∷ union_row (code q.low) u (map run_with rest) in
      ap row (joins q r s (omega (arith, a.0)) a.0 a.1)
      ∙ ap (λ (l : List Run). run_with (from_to q s) ∷ l) (row_union q s rest (omega (arith, a.0, a.1)) a.2)

  rest_unbroken : (r : Range) (rest : List Range) → Adjoining r rest → Unbroken rest
  rest_unbroken r [] a = tt
  rest_unbroken r (s ∷ rest) a = (a.1, a.2)

  -- and in all rows.
  pub pairs_union : (rs : List Range) → Unbroken rs → union_pairs (map run_with rs) ≡ map run_with (run_pairs rs)
  pairs_union [] u = refl
  pairs_union (q ∷ rest) u =
      let row : ℕ → List Run = λ m. record { low = code q.low; high = code q.high; set = m }
      ∷ union_row (code q.low) m (map run_with rest) in
      let first = ap row (or_zero_l (sets q))
      ∙ ap (λ (l : List Run). run_with q ∷ l) (row_union q q rest (omega (arith, u.0)) u.1) in
      (λ i. first i ++ pairs_union rest (rest_unbroken q rest u.1) i)
      ∙ sym (map_join run_with (map (from_to q) (q ∷ rest)) (run_pairs rest))
