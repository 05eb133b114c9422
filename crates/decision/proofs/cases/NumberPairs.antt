-- The number cases of a switch by pairs of runs (document 02, requests 4 and 7), for the ranges that are wanted there: "each gauge
-- of which a live rule has a range there is cut into runs by itself, and no other gauge has a case". Which pairs they are, in what
-- order and how many, and which of them a number or span follows.
use Prim.Native.Nat.{ℕ, zero, suc, ◌*◌, ◌≤◌}
use mathlib.Core.Path.{◌≡◌, refl, ap, sym, subst, ◌∙◌}
use mathlib.Core.Logic.{◌↔◌, inl, inr}
use mathlib.Core.List.{List, [], ◌∷◌, ◌++◌, map}
use native.Mathlib.Omega.{arith}
use lib.Dec.{T}
use lib.ListN.{length, length-append}
use Rattle.basics.specs.Lists.{Mem, All}
use Rattle.basics.proofs.ListLaws.{all_at, all_from}
use Rattle.basics.proofs.Filters.{mem_length, map_mem}
use Rattle.basics.proofs.Numbers.{both_le}
use Rattle.basics.proofs.Sorted.{Ascending, before_pair}
use Rattle.terms.specs.Term.{numbers, on_gauge, gauge_of}
use Rattle.terms.specs.RuleTests.{Range}
use Rattle.decision.specs.Runs.{covers, run_pairs, from_to, gauges_of, runs_on, pairs_on, number_pairs}
use Rattle.decision.specs.Cases.{Case, numbers_in, takes}
use Rattle.decision.specs.Narrowest.{narrower}
use Rattle.decision.specs.Node.{CaseEdge, leads_or, follow}
use Rattle.decision.proofs.cases.RangeRuns.{meets}
use Rattle.decision.proofs.cases.RangeOrder.{range_before}
use Rattle.decision.proofs.cases.Best.{map_some, best_map}
use Rattle.decision.proofs.cases.Narrowest.{takes_edge, narrower_edge, IsNarrowest, narrowest_is}
use Rattle.decision.proofs.cases.SwitchEdges.{edges_to, follow_case}
use Rattle.decision.proofs.cases.FramedPairs.{framed_pairs_most, framed_pairs_ascend, framed_pairs_inside, FollowedIn}
use Rattle.decision.proofs.cases.FramedPairs.{followed_in}
use Rattle.decision.proofs.cases.OnGauges.{OneGauge, OnGauge, on_gauge_lem, common_gauge, number_on, gauge_order}
use Rattle.decision.proofs.cases.OnGauges.{gauge_listed, gauges_ascend, ranges_on, range_on_lem, ranges_on_lem}
use Rattle.decision.proofs.cases.GaugeRuns.{of_each, of_each_lem, each_ascends, lower_gauge}
use Rattle.decision.proofs.cases.GaugeTotals.{total_on, total_most, twice_pairs, twice_add, twice_most}

-- Of number cases for ranges, numbers from a to b follow that of the narrowest range.
pub numbers_follow
    : {A : Type 0} (f : Case → A) (neither : A) (a b : ℕ) (xs : List Range) (x : Range) → IsNarrowest a b xs x
    → follow (edges_to f (map numbers_in xs)) neither (numbers a b) ≡ f (numbers_in x)
numbers_follow {A} f neither a b xs x narrow =
    let span = numbers a b in
    let e = narrowest_is (λ (y : Range). covers y (record { low = a; high = b })) xs x narrow in
    let edge_to : Case → CaseEdge A = λ c. record { case = c; target = f c } in
    ap (leads_or neither)
    (best_map edge_to (takes_edge span) narrower_edge (map numbers_in xs)
    ∙ ap (map_some edge_to) (best_map numbers_in (λ (c : Case). takes c span) narrower xs ∙ ap (map_some numbers_in) e))

module _ (ws : List Range) where
  -- The pairs of a first and a last run of gauge g.
  abbrev pub pairs_of_gauge : ℕ → List Range
  pairs_of_gauge g = run_pairs (runs_on g ws)

  pairs_each : (gs : List ℕ) → pairs_on gs ws ≡ of_each pairs_of_gauge gs
  pairs_each [] = refl
  pairs_each (g ∷ gs) = ap (λ (xs : List Range). pairs_of_gauge g ++ xs) (pairs_each gs)

  -- A pair is one of a gauge that a range is on.
  pub number_pair : (x : Range) → Mem x (number_pairs ws) ↔ ((g : ℕ) × Mem g (gauges_of ws) × Mem x (pairs_of_gauge g))
  number_pair x =
      subst (λ (xs : List Range). Mem x xs ↔ ((g : ℕ) × Mem g (gauges_of ws) × Mem x (pairs_of_gauge g)))
      (sym (pairs_each (gauges_of ws))) (of_each_lem pairs_of_gauge (gauges_of ws) x)

  -- There are at most (2 n + 1) (n + 1) pairs for n ranges, as on one gauge.
  pairs_total
      : (gs : List ℕ) → All (λ (g : ℕ). 1 ≤ length (ranges_on ws g)) gs → length (pairs_on gs ws) * 2 ≤ twice_pairs (total_on gs ws)
  pairs_total [] filled = omega arith
  pairs_total (g ∷ gs) filled =
      omega (
        arith,
        length-append (pairs_of_gauge g) (pairs_on gs ws),
        own (length (ranges_on ws g)) refl filled.0,
        pairs_total gs filled.1,
        twice_add (length (ranges_on ws g)) (total_on gs ws) (total_on (g ∷ gs) ws) refl,
      )
    where
      own : (n : ℕ) → length (ranges_on ws g) ≡ n → 1 ≤ n → length (pairs_of_gauge g) * 2 ≤ twice_pairs n
      own zero e h = let never : ⊥ = omega arith in absurd never
      own (suc n) e h = framed_pairs_most (on_gauge g 0) (on_gauge (suc g) 0) (ranges_on ws g) (suc n) (omega arith)

  pub number_pairs_most : (n : ℕ) → length ws ≤ n → length (number_pairs ws) * 2 ≤ suc (2 * n) * suc (suc (2 * n))
  number_pairs_most n h =
      let filled =
      all_from (λ (g : ℕ). 1 ≤ length (ranges_on ws g)) (gauges_of ws)
      (λ g m. let k = (gauge_listed ws g).0 m in mem_length ((range_on_lem ws g k.0).1 (k.1, k.2))) in
      let total = total_most (gauges_of ws) (gauges_ascend ws) ws in
      omega (arith, pairs_total (gauges_of ws) filled, twice_most (total_on (gauges_of ws) ws) n (omega arith))

  module _ (one : All OneGauge ws) where
    -- A pair of runs of a gauge is on it,
    pub pair_on : (g : ℕ) (x : Range) → Mem x (pairs_of_gauge g) → OnGauge g x
    pair_on g x m =
        framed_pairs_inside (on_gauge g 0) (on_gauge (suc g) 0) (gauge_order g) (ranges_on ws g) (ranges_on_lem ws g one) x m

    -- and so on one gauge, of which a range is wanted: "no other gauge has a case".
    pub number_pair_on
        : (x : Range) → Mem x (number_pairs ws) → OneGauge x × ((w : Range) × Mem w ws × (gauge_of w.low ≡ gauge_of x.low))
    number_pair_on x m =
        let k = (number_pair x).0 m in
        let own = (on_gauge_lem k.0 x).0 (pair_on k.0 x k.2) in
        (own.0, (gauge_listed ws (gauge_of x.low)).0 (rw own.1 k.1))

    -- "Ordered by gauge first", then by their lows, then by their highs.
    pub number_pairs_ascend : Ascending range_before (number_pairs ws)
    number_pairs_ascend =
        subst (Ascending range_before) (sym (pairs_each (gauges_of ws)))
        (each_ascends pairs_of_gauge (λ x y. T (range_before x y))
        (λ g. framed_pairs_ascend (on_gauge g 0) (on_gauge (suc g) 0) (ranges_on ws g))
        (λ g k x y h m n.
        let own = pair_on g x m in
        let later = lower_gauge g k x y h own (pair_on k y n) in
        before_pair x.low x.high y.low y.high (inl (omega (arith, own.1)))) (gauges_of ws) (gauges_ascend ws))

    module _ (a b : ℕ) (order : a ≤ b) (same : gauge_of a ≡ gauge_of b) where
      abbrev gauge : ℕ
      gauge = gauge_of a

      -- The pair of the runs of a and of b, on their gauge,
      abbrev pub OnTheirs : Type 0
      OnTheirs = FollowedIn (on_gauge gauge 0) (on_gauge (suc gauge) 0) (ranges_on ws gauge) a b

      pub on_theirs : OnTheirs
      on_theirs =
          let low = (number_on gauge a).0 refl in
          let high = (number_on gauge b).0 (sym same) in
          followed_in (on_gauge gauge 0) (on_gauge (suc gauge) 0) (ranges_on ws gauge) a b low.0 order high.1

      -- A pair that contains the numbers from a to b is on their gauge, and so that gauge is one that a range is on.
      pub containing
          : (x : Range) → Mem x (number_pairs ws) → x.low ≤ a → b ≤ x.high → Mem gauge (gauges_of ws) × Mem x (pairs_of_gauge gauge)
      containing x m low high =
          let k = (number_pair x).0 m in
          let own = pair_on k.0 x k.2 in
          let theirs : gauge_of a ≡ k.0 = (number_on k.0 a).1 (omega (arith, own.0), omega (arith, own.2)) in
          rw theirs (k.1, k.2)

      -- Where a range is on it, that pair is the narrowest of those that contain the numbers from a to b,
      pub theirs_narrowest
          : (k : OnTheirs) → Mem gauge (gauges_of ws) → IsNarrowest a b (number_pairs ws) (from_to k.first k.last)
      theirs_narrowest k listed = record {
        listed = (number_pair (from_to k.first k.last)).1 (gauge, listed, k.is_narrowest.listed);
        is_taken = k.is_narrowest.is_taken;
        first = λ y m t. k.is_narrowest.first y
            (let c = (both_le y.low a b y.high).0 t in (containing y m c.0 c.1).1) t;
      }

      -- and the ranges that have one of its numbers are those that have one from a to b.
      pub theirs_meet
          : (k : OnTheirs) (v : Range) → Mem v ws → T (meets v (from_to k.first k.last)) ↔ ((v.low ≤ b) × (a ≤ v.high))
      theirs_meet k v m =
          let pair = from_to k.first k.last in
          let own = pair_on gauge pair k.is_narrowest.listed in
          let one_of_lem = (on_gauge_lem gauge pair).0 own in
          let ends = both_le v.low pair.high pair.low v.high in
          let on : gauge_of v.low ≡ gauge → Mem v (ranges_on ws gauge) = λ e. (range_on_lem ws gauge v).1 (m, e) in (
            λ t. let c = ends.0 t in
                (k.meets_some v (on (common_gauge v pair (all_at OneGauge m one) one_of_lem.0 c.0 c.1 ∙ one_of_lem.1))).0 t,
            λ c. ends.1 (omega (arith, c.0, k.has_high.1), omega (arith, c.1, k.has_low.0)),
          )

      -- "No other gauge has a case": where no range is on their gauge, they follow neither.
      pub none_follows
          : {A : Type 0} (f : Case → A) (neither : A) → ((w : Range) → Mem w ws → gauge_of w.low ≡ gauge → ⊥)
          → follow (edges_to f (map numbers_in (number_pairs ws))) neither (numbers a b) ≡ neither
      none_follows f neither unwanted =
          elim (follow_case f neither (numbers a b) (map numbers_in (number_pairs ws))) [
            | inl r ↦
                let x = map_mem numbers_in (number_pairs ws) r.1 in
                let t = subst (λ (c : Case). T (takes c (numbers a b))) x.2 r.2 in
                let c = (both_le x.0.low a b x.0.high).0 t in
                let k = (gauge_listed ws gauge).0 (containing x.0 x.1 c.0 c.1).0 in
                absurd (unwanted k.0 k.1 k.2)
            | inr r ↦ r.1
          ]
