-- The cases of a switch, sentence by sentence (document 02, requests 4, 5 and 7): which cases there are, which rules a
-- number case keeps, and which case a number or span follows.
use Prim.Native.Nat.{ℕ, suc, pred, ◌≤◌}
use mathlib.Core.Path.{◌≡◌, refl, ap, sym, ◌∙◌}
use mathlib.Core.Logic.Iff
use mathlib.Core.Logic.{◌↔◌}
use mathlib.Core.List.{List}
use native.Mathlib.Omega.{arith}
use lib.Dec.{T}
use Rattle.basics.specs.Lists.{Mem, All}
use Rattle.basics.proofs.ListLaws.{all_at}
use Rattle.basics.proofs.Filters.{mem_right, mem_map}
use Rattle.basics.proofs.Sorted.{AscendingBy}
use Rattle.terms.specs.Term.{Wide, number, numbers, on_gauge, gauge_of, value_of}
use Rattle.terms.specs.RuleTests.{Want, a_symbol, a_number, a_compound, Range}
use Rattle.codes.specs.views.Codes.{SoundWant}
use Rattle.decision.specs.Runs.{from_to, number_pairs}
use Rattle.decision.specs.Cases.{Case, symbols_case, compound_case, numbers_case, is_wanted, ranges_of, numbers_in, cases_of}
use Rattle.decision.specs.Node.{follow}
use Rattle.decision.specs.AcceptedGraph.{CaseBefore}
use Rattle.decision.proofs.cases.Intervals.{Contains}
use Rattle.decision.proofs.cases.FramedRuns.{SameRanges, MaximalIn, framed_are}
use Rattle.decision.proofs.cases.RunPairs.{InTurn, meets_number}
use Rattle.decision.proofs.cases.WantedRanges.{range_wanted, wanted_range}
use Rattle.decision.proofs.cases.Accepts.{accepts_range, SameAccept}
use Rattle.decision.proofs.cases.IdRuns.{RunOfIds, ids_are}
use Rattle.decision.proofs.cases.CaseList.{name_cases, symbols_listed, compound_listed, listed}
use Rattle.decision.proofs.cases.SwitchEdges.{edges_to}
use Rattle.decision.proofs.cases.FramedPairs.{OfRuns, framed_pairs_are}
use Rattle.decision.proofs.cases.OnGauges.{OneGauge, on_gauge_lem, common_gauge, gauge_order, gauge_listed, ranges_on, range_on_lem}
use Rattle.decision.proofs.cases.OnGauges.{ranges_on_lem}
use Rattle.decision.proofs.cases.NumberPairs.{numbers_follow, pairs_of_gauge, number_pair, on_theirs, theirs_narrowest}
use Rattle.decision.proofs.cases.CasesLaws.{wants_gauged, numbers_past}
use Rattle.decision.proofs.cases.CasesAccepted.{cases_ascend_lem}

-- "Each gauge of which a live rule has a range there is cut into runs by itself", "maximal runs accepted by the same set of live
-- rules tested there, the empty set included": the numbers from l to h are such a run of gauge g.
pub record RunOfGauge (ws : List Want) (g l h : ℕ) : Type 0 where
  pub ordered : l ≤ h
  pub low_on : gauge_of l ≡ g
  pub high_on : gauge_of h ≡ g
  pub same_set : (u v : ℕ) → l ≤ u → u ≤ h → l ≤ v → v ≤ h → SameAccept number ws u v
  pub maximal_below : 1 ≤ value_of l → SameAccept number ws (pred l) l → ⊥
  pub maximal_above : Wide (suc (value_of h)) → SameAccept number ws h (suc h) → ⊥

-- "One case for each pair of first and last run, .. with low and high their ends", on a "gauge of which a live rule has a range
-- there".
pub record PairOfRuns (ws : List Want) (x y : ℕ) : Type 0 where
  pub gauge : ℕ
  pub some_range : (l h : ℕ) × Mem (a_number l h) ws × (gauge_of l ≡ gauge)
  pub first : Range
  pub last : Range
  pub first_run : RunOfGauge ws gauge first.low first.high
  pub last_run : RunOfGauge ws gauge last.low last.high
  pub in_turn : InTurn first last
  pub low : x ≡ first.low
  pub high : y ≡ last.high

module _ (ws : List Want) (sound : All SoundWant ws) where
  abbrev ranges : List Range
  ranges = ranges_of ws

  -- A wanted range that has a number of gauge g is on it,
  has_on : (g u : ℕ) → gauge_of u ≡ g → (r : Range) → Mem r ranges → Contains r u → Mem r (ranges_on ranges g)
  has_on g u e r m k =
      let own = all_at OneGauge m (wants_gauged ws sound) in
      (range_on_lem ranges g r).1 (m, common_gauge r (record { low = u; high = u }) own (omega arith, refl) k.0 k.1 ∙ e)

  -- so the same of the wants accept two numbers of it exactly when the same of the wanted ranges on it do,
  same_ranges : (g u v : ℕ) → gauge_of u ≡ g → gauge_of v ≡ g → SameRanges (ranges_on ranges g) u v ↔ SameAccept number ws u v
  same_ranges g u v p q = (
    accept,
    λ same r m. Iff.trans (Iff.symm (accepts_range r u))
        (Iff.trans (same (a_number r.low r.high) (range_wanted ws r ((range_on_lem ranges g r).0 m).0)) (accepts_range r v)),
  )
    where
      accept : SameRanges (ranges_on ranges g) u v → SameAccept number ws u v
      accept same (a_symbol l h) m = (λ k. k, λ k. k)
      accept same (a_number l h) m =
          let r : Range = record { low = l; high = h } in
          let listed = wanted_range m in (
            λ k. let a = (accepts_range r u).0 k in (accepts_range r v).1 ((same r (has_on g u p r listed a)).0 a),
            λ k. let a = (accepts_range r v).0 k in (accepts_range r u).1 ((same r (has_on g v q r listed a)).1 a),
          )
      accept same (a_compound a n) m = (λ h. h, λ h. h)

  -- and the runs that they cut it into are those accepted by the same set of the wants.
  run_is
      : (g : ℕ) (r : Range)
      → MaximalIn (on_gauge g 0) (on_gauge (suc g) 0) (ranges_on ranges g) r ↔ RunOfGauge ws g r.low r.high
  run_is g r = (
    λ k. let on = (on_gauge_lem g r).0 k.inside in
        let low = on.1 in
        let high = sym on.0.1 ∙ low in
        record {
          ordered = on.0.0;
          low_on = low;
          high_on = high;
          same_set = λ u v a b c d. (same_ranges g u v (between u a b low high) (between v c d low high)).0
              (k.same_set u v (a, b) (c, d));
          maximal_below = λ a same. k.maximal_below (omega arith)
              ((same_ranges g (pred r.low) r.low (omega arith) low).1 same);
          maximal_above = λ a same. k.maximal_above (omega arith)
              ((same_ranges g r.high (suc r.high) high (omega arith)).1 same);
        },
    λ k. let low = k.low_on in
        let high = k.high_on in
        record {
          inside = (on_gauge_lem g r).1 ((k.ordered, low ∙ sym high), low);
          same_set = λ u v a b. (same_ranges g u v (between u a.0 a.1 low high) (between v b.0 b.1 low high)).1
              (k.same_set u v a.0 a.1 b.0 b.1);
          maximal_below = λ a same. k.maximal_below (omega arith)
              ((same_ranges g (pred r.low) r.low (omega arith) low).0 same);
          maximal_above = λ a same. k.maximal_above (omega arith)
              ((same_ranges g r.high (suc r.high) high (omega arith)).0 same);
        },
  )
    where
      between : (u : ℕ) → r.low ≤ u → u ≤ r.high → gauge_of r.low ≡ g → gauge_of r.high ≡ g → gauge_of u ≡ g
      between u a b p q = omega arith

  -- A pair is one of two runs of a gauge of which a range is wanted.
  pair_is : (x : Range) → Mem x (number_pairs ranges) ↔ PairOfRuns ws x.low x.high
  pair_is x = (
    λ m. let own = (number_pair ranges x).0 m in
        let g = own.0 in
        let p = (are g).0 own.2 in
        let wanted = (gauge_listed ranges g).0 own.1 in
        record {
          gauge = g;
          some_range = (wanted.0.low, wanted.0.high, range_wanted ws wanted.0 wanted.1, wanted.2);
          first = p.0;
          last = p.1;
          first_run = (run_is g p.0).0 p.2;
          last_run = (run_is g p.1).0 p.3;
          in_turn = p.4;
          low = ap (λ (y : Range). y.low) p.5;
          high = ap (λ (y : Range). y.high) p.5;
        },
    λ p. let low = p.low in
        let high = p.high in
        let g = p.gauge in
        let w = p.some_range in
        let listed = (gauge_listed ranges g).1 (record { low = w.0; high = w.1 }, wanted_range w.2, w.3) in
        (number_pair ranges x).1 (
          g,
          listed,
          (are g).1 (
            p.first,
            p.last,
            (run_is g p.first).1 p.first_run,
            (run_is g p.last).1 p.last_run,
            p.in_turn,
            λ i. record { low = low i; high = high i },
          ),
        ),
  )
    where
      are
          : (g : ℕ)
          → Mem x (pairs_of_gauge ranges g)
          ↔ OfRuns (on_gauge g 0) (on_gauge (suc g) 0) (gauge_order g) (ranges_on ranges g)
          (ranges_on_lem ranges g (wants_gauged ws sound)) x
      are g =
          framed_pairs_are (on_gauge g 0) (on_gauge (suc g) 0) (gauge_order g) (ranges_on ranges g)
          (ranges_on_lem ranges g (wants_gauged ws sound)) x

-- The cases of a switch, for what the live rules want there: one "for a run of ids, cut, ordered and questioned as numbers were in
-- document 01", "a case for each .. compound that a live rule wants there", and "one case for each pair of first and last run,
-- ordered so, with low and high their ends"; "elsewhere a switch has no number case".
pub record CasesAre (ws : List Want) : Type 0 where
  pub symbols : (x y : ℕ) → Mem (symbols_case x y) (cases_of ws) ↔ RunOfIds ws x y
  pub compounds : (a n : ℕ) → Mem (compound_case a n) (cases_of ws) ↔ Mem (a_compound a n) ws
  pub pairs : (x y : ℕ) → Mem (numbers_case x y) (cases_of ws) ↔ PairOfRuns ws x y
  pub ascend : AscendingBy CaseBefore (cases_of ws)

pub cases_are : (ws : List Want) → All SoundWant ws → CasesAre ws
cases_are ws sound = record {
  symbols = λ x y.
      let r : Range = record { low = x; high = y } in
      let is = ids_are ws sound r in
      (λ m. is.0 (listed ws (symbols_case x y) m), λ k. symbols_listed ws r (is.1 k));
  compounds = λ a n. (listed ws (compound_case a n), compound_listed ws a n);
  pairs = λ x y.
      let is = pair_is ws sound (record { low = x; high = y }) in
      (λ m. is.0 (listed ws (numbers_case x y) m), λ p. mem_right (name_cases ws) (mem_map numbers_in (is.1 p)));
  ascend = cases_ascend_lem ws sound;
}

-- "It keeps the rules whose range has a number that this case takes, from its low to its high."
pub case_keeps_lem
    : (x y l h : ℕ) → x ≤ y → l ≤ h
    → T (is_wanted (numbers_case x y) (a_number l h))
    ↔ ((v : ℕ) × Contains (record { low = x; high = y }) v × Contains (record { low = l; high = h }) v)
case_keeps_lem x y l h o p = meets_number (record { low = l; high = h }) (record { low = x; high = y }) p o

-- The runs of the two ends of a span, on their gauge.
pub record RunsOfEnds (ws : List Want) (a b : ℕ) : Type 0 where
  pub first : Range
  pub last : Range
  pub first_run : RunOfGauge ws (gauge_of a) first.low first.high
  pub last_run : RunOfGauge ws (gauge_of a) last.low last.high
  pub has_low : Contains first a
  pub has_high : Contains last b

-- In a switch where a range of its gauge is wanted, a number or span follows the case from the low of the run of its low to the
-- high of the run of its high.
pub ends_followed
    : {A : Type 0} (f : Case → A) (neither : A) (a b : ℕ) (ws : List Want) → All SoundWant ws
    → (l h : ℕ) → Mem (a_number l h) ws → gauge_of l ≡ gauge_of a → a ≤ b → gauge_of a ≡ gauge_of b
    → (k : RunsOfEnds ws a b)
    × (follow (edges_to f (cases_of ws)) neither (numbers a b) ≡ f (numbers_case k.first.low k.last.high))
ends_followed f neither a b ws sound l h m on order same =
    let rs = ranges_of ws in
    let one = wants_gauged ws sound in
    let g = gauge_of a in
    let k = on_theirs rs one a b order same in
    let runs =
    framed_are (on_gauge g 0) (on_gauge (suc g) 0) (ranges_on rs g) (gauge_order g) (ranges_on_lem rs g one) in
    let listed = (gauge_listed rs g).1 (record { low = l; high = h }, wanted_range m, on) in (
      record {
        first = k.first;
        last = k.last;
        first_run = (run_is ws sound g k.first).0 ((runs k.first).0 k.first_run);
        last_run = (run_is ws sound g k.last).0 ((runs k.last).0 k.last_run);
        has_low = k.has_low;
        has_high = k.has_high;
      },
      numbers_past ws f neither a b
          ∙ numbers_follow f neither a b (number_pairs rs) (from_to k.first k.last)
          (theirs_narrowest rs one a b order same k listed),
    )
