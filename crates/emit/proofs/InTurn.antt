-- Pieces that are counted, one behind another: those left after some of them.
use Prim.Native.Nat.{ℕ, suc, ◌+◌, ◌-◌, ◌≤◌, ◌<◌}
use mathlib.Core.Path.{◌≡◌, refl, sym, ap, ◌∙◌}
use mathlib.Core.List.{List, [], ◌∷◌, ◌++◌, map, append_assoc}
use native.Mathlib.Omega.{arith}
use Rattle.basics.specs.Lists.{count_from}
use Rattle.decision.specs.Key.{Key}
use Rattle.decision.specs.Node.{map_node}
use Rattle.decision.specs.GraphBytes.{case_bytes, nodes_bytes}
use Rattle.cuts.specs.views.Runs.{Run, run_case, runs_in}
use Rattle.cuts.specs.views.CaseRuns.{union_pairs, gauge_pairs, case_runs, runs_from, pairs_row, GaugeUpTo}
use Rattle.cuts.proofs.CaseRuns.{cases_parted, gauges_some, pairs_some}
use Rattle.edges.specs.declared.Asked.{Asked}
use Rattle.edges.specs.views.KeysBehind.{run_behind}
use Rattle.edges.specs.views.NodeIn.{node_in}
use Rattle.met.specs.views.KeysMet.{key_number, key_at, count_in, keys_in}
use Rattle.emit.specs.views.Laid.{run_bytes, key_bytes, keys_bytes}

module _ (piece : ℕ → List ℕ) (row : ℕ → ℕ → List ℕ) (more : (i n : ℕ) → row i (suc n) ≡ piece i ++ row (suc i) n) (count : ℕ) where
  -- All are left from 0 on,
  row_first : row 0 count ≡ row 0 (count - 0)
  row_first = let same : count ≡ count - 0 = omega arith in ap (row 0) same

  -- and behind the next piece are the others.
  row_next : (i : ℕ) → i < count → row i (count - i) ≡ piece i ++ row (i + 1) (count - (i + 1))
  row_next i h =
      let one : count - i ≡ suc (count - (i + 1)) = omega arith in
      let next : suc i ≡ i + 1 = omega arith in
      ap (row i) one ∙ more i (count - (i + 1)) ∙ ap (λ (j : ℕ). piece i ++ row j (count - (i + 1))) next

-- The cases of runs of which some come first.
module _ (s : List ℕ) (keys : List Key) (asked : Asked) where
  runs_join : (rs qs : List Run) → run_bytes s keys asked (rs ++ qs) ≡ run_bytes s keys asked rs ++ run_bytes s keys asked qs
  runs_join [] qs = refl
  runs_join (r ∷ rs) qs =
      let piece = case_bytes (run_case r.low r.high) (key_number keys (run_behind s asked r.set)) in
      ap (λ (l : List ℕ). piece ++ l) (runs_join rs qs)
      ∙ sym (append_assoc piece (run_bytes s keys asked rs) (run_bytes s keys asked qs))

  module _ (runs : List ℕ) (count : ℕ) where
    -- The cases of a switch are the runs that are cases by themselves, then the pairs,
    pub cases_bytes_lem : (k : ℕ) → k ≤ count
        → run_bytes s keys asked (case_runs k (runs_in runs count))
        ≡ run_bytes s keys asked (runs_in runs k) ++ run_bytes s keys asked (gauge_pairs (runs_from runs count k))
    cases_bytes_lem k h =
        ap (run_bytes s keys asked) (cases_parted runs count k h)
        ∙ runs_join (runs_in runs k) (gauge_pairs (runs_from runs count k))

    -- these, gauge after gauge,
    pub gauges_bytes : (k end : ℕ) → GaugeUpTo runs count k end
        → run_bytes s keys asked (gauge_pairs (runs_from runs count k))
        ≡ run_bytes s keys asked (union_pairs (runs_from runs end k)) ++ run_bytes s keys asked (gauge_pairs (runs_from runs count end))
    gauges_bytes k end one =
        ap (run_bytes s keys asked) (gauges_some runs count k end one)
        ∙ runs_join (union_pairs (runs_from runs end k)) (gauge_pairs (runs_from runs count end))

    -- and those of a gauge, row after row.
    pub pairs_bytes : (k : ℕ) → k < count
        → run_bytes s keys asked (union_pairs (runs_from runs count k))
        ≡ run_bytes s keys asked (pairs_row runs count k) ++ run_bytes s keys asked (union_pairs (runs_from runs count (k + 1)))
    pairs_bytes k h =
        ap (run_bytes s keys asked) (pairs_some runs count k h)
        ∙ runs_join (pairs_row runs count k) (union_pairs (runs_from runs count (k + 1)))

-- The nodes of the keys met.
module _ (s c t : List ℕ) where
  abbrev key_row : ℕ → ℕ → List ℕ
  key_row i n =
      nodes_bytes (map (λ (key : Key). map_node (key_number (keys_in t)) (node_in s c key)) (map (key_at t) (count_from i n)))

  abbrev pub keys_left : ℕ → List ℕ
  keys_left i = key_row i (count_in t - i)

  pub keys_first : keys_bytes s c (keys_in t) ≡ keys_left 0
  keys_first = row_first (λ i. key_bytes s c (keys_in t) (key_at t i)) key_row (λ i n. refl) (count_in t)

  pub keys_next
      : (i : ℕ) {key : Key} → key ≡ key_at t i → i < count_in t → keys_left i ≡ key_bytes s c (keys_in t) key ++ keys_left (i + 1)
  keys_next i e h =
      row_next (λ i. key_bytes s c (keys_in t) (key_at t i)) key_row (λ i n. refl) (count_in t) i h
      ∙ ap (λ (k : Key). key_bytes s c (keys_in t) k ++ keys_left (i + 1)) (sym e)

  pub keys_last : (i : ℕ) → count_in t ≤ i → keys_left i ≡ []
  keys_last i h = let none : count_in t - i ≡ 0 = omega arith in ap (key_row i) none
