-- The runs in an array from one of them on, and the cases that they make, one run after another.
use Prim.Native.Nat.{ℕ, zero, suc, ◌+◌, ◌*◌, ◌-◌, ◌≤◌, ◌<◌}
use mathlib.Core.Path.{◌≡◌, sym, ap, subst, ◌∙◌}
use mathlib.Core.List.{List, [], ◌∷◌, ◌++◌, map}
use mathlib.Core.Logic.{inl, inr}
use native.Mathlib.Nat.{add-mul, mul-le-mul}
use native.Mathlib.Omega.{arith}
use native.Mathlib.Numerals.{add-one}
use lib.Bits.{bit_or, or_zero_l, or_self}
use lib.ListN.{length, length-append, length-map}
use lib.Seq.{take_at, drop_at}
use Rattle.basics.specs.Lists.{All, count_from}
use Rattle.basics.proofs.Counting.{count_append, count_length}
use Rattle.basics.proofs.Filters.{map_join}
use Rattle.basics.proofs.Numbers.{le_or_lt}
use Rattle.cuts.specs.views.Runs.{Run, run_at, runs_in}
use Rattle.cuts.specs.views.CaseRuns.{union_row, union_pairs, gauge_at, gauge_pairs, case_runs, runs_from, pairs_row, GaugeUpTo}
use Rattle.cuts.proofs.FramedPass.{runs_length}
use Rattle.cuts.proofs.UnionPairs.{union_count}
use Rattle.cuts.proofs.GaugePairs.{OtherFirst, RunOn, gauge_split, gauge_few}

-- One run more that is paired makes at least as many cases more as one that is a case by itself.
own_row : (n k : ℕ) → k * 2 ≤ k * suc (n + k)
own_row n zero = omega arith
own_row n (suc k) = mul-le-mul {n₁ = suc k} {m₁ = 2} {n₂ = suc k} {m₂ = suc (n + suc k)} (omega arith) (omega arith)

pairs_outnumber : (n k : ℕ) → n * suc n + k * 2 ≤ (n + k) * suc (n + k)
pairs_outnumber n k =
    let others : n * suc n ≤ n * suc (n + k) =
    mul-le-mul {n₁ = n} {m₁ = suc n} {n₂ = n} {m₂ = suc (n + k)} (omega arith) (omega arith) in
    omega (arith, add-mul n k (suc (n + k)), own_row n k)

module _ (runs : List ℕ) (count : ℕ) where
  -- All runs, the next one and those behind it, and none behind the last.
  pub from_first_lem : runs_in runs count ≡ runs_from runs count 0
  from_first_lem = let e : count ≡ count - 0 = omega arith in ap (runs_in runs) e

  pub from_some : (k : ℕ) → k < count → runs_from runs count k ≡ run_at runs k ∷ runs_from runs count (k + 1)
  from_some k h =
      let e : count - k ≡ suc (count - (k + 1)) = omega arith in
      ap (λ (n : ℕ). map (run_at runs) (count_from k n)) e
      ∙ ap (λ (i : ℕ). run_at runs k ∷ map (run_at runs) (count_from i (count - (k + 1)))) (sym (add-one k))

  pub from_none : (k : ℕ) → count ≤ k → runs_from runs count k ≡ []
  from_none k h = let e : count - k ≡ 0 = omega arith in ap (λ (n : ℕ). map (run_at runs) (count_from k n)) e

  from_length : (k : ℕ) → length (runs_from runs count k) ≡ count - k
  from_length k = length-map (count_from k (count - k)) (run_at runs) ∙ count_length k (count - k)

  runs_parted : (k : ℕ) → k ≤ count → runs_in runs count ≡ runs_in runs k ++ runs_from runs count k
  runs_parted k h =
      let e : count ≡ k + (count - k) = omega arith in
      let d : 0 + k ≡ k = omega arith in
      ap (runs_in runs) e
      ∙ ap (map (run_at runs)) (count_append 0 k (count - k))
      ∙ map_join (run_at runs) (count_from 0 k) (count_from (0 + k) (count - k))
      ∙ ap (λ (i : ℕ). runs_in runs k ++ map (run_at runs) (count_from i (count - k))) d

  -- The cases are the first runs, then the pairs of the others.
  pub cases_parted : (k : ℕ) → k ≤ count → case_runs k (runs_in runs count) ≡ runs_in runs k ++ gauge_pairs (runs_from runs count k)
  cases_parted k h =
      ap (case_runs k) (runs_parted k h)
      ∙ (λ i.
      take_at (runs_in runs k) (runs_from runs count k) k (runs_length runs k) i
      ++ gauge_pairs (drop_at (runs_in runs k) (runs_from runs count k) k (runs_length runs k) i))

  -- They are as many as the first runs and the pairs,
  pub cases_counted : (k : ℕ) → k ≤ count
      → length (case_runs k (runs_in runs count)) ≡ k + length (gauge_pairs (runs_from runs count k))
  cases_counted k h =
      let same = ap (λ (l : List Run). length l) (cases_parted k h) in
      let both = length-append (runs_in runs k) (gauge_pairs (runs_from runs count k)) in
      omega (arith, runs_length runs k)

  -- which are n (n + 1) / 2 for n runs on one gauge.
  pub pairs_counted : (k : ℕ) → length (union_pairs (runs_from runs count k)) * 2 ≡ (count - k) * suc (count - k)
  pairs_counted k = union_count (runs_from runs count k) ∙ ap (λ (n : ℕ). n * suc n) (from_length k)

  -- They are at most 18,721.
  pub cases_most : (k : ℕ) → k ≤ count → count ≤ 193 → length (case_runs k (runs_in runs count)) ≤ 18721
  cases_most k h few =
      let n = count - k in
      let all : n + k ≡ count = omega arith in
      let more : n * suc n + k * 2 ≤ count * suc count =
      subst (λ (m : ℕ). n * suc n + k * 2 ≤ m * suc m) all (pairs_outnumber n k) in
      let most : count * suc count ≤ 193 * 194 =
      mul-le-mul {n₁ = count} {m₁ = suc count} {n₂ = 193} {m₂ = 194} few (omega arith) in
      omega (arith, cases_counted k h, gauge_few (runs_from runs count k), pairs_counted k)

  -- The runs from the k-th on are those on its gauge, then the others,
  pub gauges_some : (k end : ℕ) → GaugeUpTo runs count k end
      → gauge_pairs (runs_from runs count k) ≡ union_pairs (runs_from runs end k) ++ gauge_pairs (runs_from runs count end)
  gauges_some k end one =
      let begun = one.some in
      let within = one.within in
      let g = gauge_at (run_at runs k) in
      let e : count - k ≡ (end - k) + (count - end) = omega arith in
      let d : k + (end - k) ≡ end = omega arith in
      let split : runs_from runs count k ≡ runs_from runs end k ++ runs_from runs count end =
      ap (λ (n : ℕ). map (run_at runs) (count_from k n)) e
      ∙ ap (map (run_at runs)) (count_append k (end - k) (count - end))
      ∙ map_join (run_at runs) (count_from k (end - k)) (count_from (k + (end - k)) (count - end))
      ∙ ap (λ (i : ℕ). runs_from runs end k ++ map (run_at runs) (count_from i (count - end))) d in
      ap gauge_pairs split
      ∙ gauge_split g (runs_from runs end k) (runs_from runs count end) (on k (end - k) (omega arith) (omega arith))
      (elim (le_or_lt count end) [
        | inl over ↦ subst (OtherFirst g) (sym (from_none end over)) tt
        | inr less ↦ subst (OtherFirst g) (sym (from_some end less)) (one.other less)
      ])
    where
      on : (i n : ℕ) → k ≤ i → i + n ≤ end → All (RunOn (gauge_at (run_at runs k))) (map (run_at runs) (count_from i n))
      on i zero h l = tt
      on i (suc n) h l = (one.same i h (omega arith), on (suc i) n (omega arith) (omega arith))

  -- and none behind the last.
  pub gauges_none : (k : ℕ) → count ≤ k → gauge_pairs (runs_from runs count k) ≡ []
  gauges_none k h = ap gauge_pairs (from_none k h)

  -- The pairs from a first run on are its row, then those of the first runs behind it.
  pub pairs_some : (k : ℕ) → k < count
      → union_pairs (runs_from runs count k) ≡ pairs_row runs count k ++ union_pairs (runs_from runs count (k + 1))
  pairs_some k h =
      ap union_pairs (from_some k h)
      ∙ ap (λ (l : List Run). union_row (run_at runs k).low 0 l ++ union_pairs (runs_from runs count (k + 1))) (sym (from_some k h))

  pub pairs_none : (k : ℕ) → count ≤ k → union_pairs (runs_from runs count k) ≡ []
  pairs_none k h = ap union_pairs (from_none k h)

  -- A row with this union at its first run.
  abbrev onwards : ℕ → ℕ → List Run
  onwards k union =
      record { low = (run_at runs k).low; high = (run_at runs k).high; set = union }
      ∷ union_row (run_at runs k).low union (runs_from runs count (k + 1))

  -- A row goes on with the union of the sets so far and that of the next run,
  pub row_some : (low union k : ℕ) → k < count
      → union_row low union (runs_from runs count k)
      ≡ record { low = low; high = (run_at runs k).high; set = bit_or union (run_at runs k).set }
      ∷ union_row low (bit_or union (run_at runs k).set) (runs_from runs count (k + 1))
  row_some low union k h = ap (union_row low union) (from_some k h)

  -- it begins with its first run,
  pub row_first : (k : ℕ) → k < count
      → pairs_row runs count k ≡ run_at runs k ∷ union_row (run_at runs k).low (run_at runs k).set (runs_from runs count (k + 1))
  row_first k h = row_some (run_at runs k).low 0 k h ∙ ap (onwards k) (or_zero_l (run_at runs k).set)

  -- which may have been taken in before it,
  pub row_begun : (k : ℕ) → k < count
      → pairs_row runs count k ≡ union_row (run_at runs k).low (run_at runs k).set (runs_from runs count k)
  row_begun k h =
      row_first k h
      ∙ ap (onwards k) (sym (or_self (run_at runs k).set))
      ∙ sym (row_some (run_at runs k).low (run_at runs k).set k h)

  -- and is over behind the last.
  pub row_none : (low union k : ℕ) → count ≤ k → union_row low union (runs_from runs count k) ≡ []
  row_none low union k h = ap (union_row low union) (from_none k h)
