-- The cases of symbols, sentence by sentence (document 02, request 5): runs of ids, "cut .. as numbers were in document 01".
use Prim.Native.Nat.{ℕ, suc, pred, ◌≤◌}
use mathlib.Core.Logic.Iff
use mathlib.Core.Logic.{◌↔◌}
use mathlib.Core.List.{List}
use native.Mathlib.Omega.{arith}
use lib.Dec.{T}
use Rattle.basics.specs.Lists.{Mem, All}
use Rattle.basics.proofs.ListLaws.{all_at, all_from}
use Rattle.terms.specs.Term.{Wide, symbol}
use Rattle.terms.specs.RuleTests.{Want, a_symbol, a_number, a_compound, Range}
use Rattle.codes.specs.views.Codes.{SoundWant}
use Rattle.decision.specs.Cases.{symbols_case, is_wanted, series_of}
use Rattle.decision.proofs.cases.Intervals.{Contains}
use Rattle.decision.proofs.cases.RangeOrder.{Filled}
use Rattle.decision.proofs.cases.RangeRuns.{meets_contains, run_between}
use Rattle.decision.proofs.cases.FramedRuns.{InFrame, SameRanges}
use Rattle.decision.proofs.cases.WantedRuns.{MaximalRun, run_inside, runs_are}
use Rattle.decision.proofs.cases.WantedRanges.{series_wanted, wanted_series}
use Rattle.decision.proofs.cases.Accepts.{Accepts, SameAccept, accepts_series}
use Rattle.decision.proofs.cases.CaseList.{id_runs}

-- "One for each maximal run .. accepted by the same non-empty set of those rules": the ids from l to h are such a run.
pub record RunOfIds (ws : List Want) (l h : ℕ) : Type 0 where
  pub ordered : l ≤ h
  pub wide : Wide h
  pub wanted : (w : Want) × Mem w ws × Accepts symbol w l
  pub same_set : (u v : ℕ) → l ≤ u → u ≤ h → l ≤ v → v ≤ h → SameAccept symbol ws u v
  pub maximal_below : 1 ≤ l → SameAccept symbol ws (pred l) l → ⊥
  pub maximal_above : Wide (suc h) → SameAccept symbol ws h (suc h) → ⊥

module _ (ws : List Want) where
  -- The same of the wants accept two ids exactly when the same of the wanted series do.
  same_series : (u v : ℕ) → SameRanges (series_of ws) u v ↔ SameAccept symbol ws u v
  same_series u v = (
    accept,
    λ same r m. Iff.trans (Iff.symm (accepts_series r u))
        (Iff.trans (same (a_symbol r.low r.high) (series_wanted ws r m)) (accepts_series r v)),
  )
    where
      accept : SameRanges (series_of ws) u v → SameAccept symbol ws u v
      accept same (a_symbol l h) m =
          let r : Range = record { low = l; high = h } in
          Iff.trans (accepts_series r u) (Iff.trans (same r (wanted_series m)) (Iff.symm (accepts_series r v)))
      accept same (a_number l h) m = (λ k. k, λ k. k)
      accept same (a_compound a n) m = (λ k. k, λ k. k)

  -- A run's case keeps the wants that accept its ids, be it one of them or all.
  pub ids_kept
      : (r : Range) → Mem r (id_runs ws) → (l h : ℕ) → Mem (a_symbol l h) ws → (v : ℕ) → Contains r v
      → T (is_wanted (symbols_case r.low r.high) (a_symbol l h)) ↔ Accepts symbol (a_symbol l h) v
  ids_kept r m l h k v inside =
      let w : Range = record { low = l; high = h } in
      Iff.trans (meets_contains (series_of ws) r w v (run_between (series_of ws) r m) (wanted_series k) inside)
      (Iff.symm (accepts_series w v))

  module _ (sound : All SoundWant ws) where
    -- The wanted series are of wide ids.
    pub series_framed : All (InFrame 0 65536) (series_of ws)
    series_framed =
        all_from (InFrame 0 65536) (series_of ws) (λ r m.
        let s = all_at SoundWant (series_wanted ws r m) sound in (omega arith, s.0, s.1))

    series_filled : All Filled (series_of ws)
    series_filled =
        all_from Filled (series_of ws) (λ r m. (all_at (InFrame 0 65536) m series_framed).1)

    -- So are the runs.
    pub id_runs_inside : (r : Range) → Mem r (id_runs ws) → InFrame 0 65536 r
    id_runs_inside r m = run_inside 0 65536 (series_of ws) series_framed r m

    -- The runs are the maximal ones that are accepted by the same non-empty set.
    pub ids_are : (r : Range) → Mem r (id_runs ws) ↔ RunOfIds ws r.low r.high
    ids_are r = (
      λ m. let k = (runs_are (series_of ws) series_filled r).0 m in
          let c = k.wanted in
          record {
            ordered = k.filled;
            wide = (id_runs_inside r m).2;
            wanted = (a_symbol c.0.low c.0.high, series_wanted ws c.0 c.1, (accepts_series c.0 r.low).1 c.2);
            same_set = λ u v a b x y. (same_series u v).0 (k.same_set u v (a, b) (x, y));
            maximal_below = λ a same. k.maximal_below a ((same_series (pred r.low) r.low).1 same);
            maximal_above = λ a same. k.maximal_above ((same_series r.high (suc r.high)).1 same);
          },
      λ k. (runs_are (series_of ws) series_filled r).1 (maximal k),
    )
      where
        series : (w : Want) → Mem w ws → Accepts symbol w r.low → (q : Range) × Mem q (series_of ws) × Contains q r.low
        series (a_symbol l h) m a =
            let q : Range = record { low = l; high = h } in (q, wanted_series m, (accepts_series q r.low).0 a)
        series (a_number l h) m a = absurd a
        series (a_compound b n) m a = absurd a

        maximal : RunOfIds ws r.low r.high → MaximalRun (series_of ws) r
        maximal k =
            let own = series k.wanted.0 k.wanted.1 k.wanted.2 in
            let within = all_at (InFrame 0 65536) own.1 series_framed in
            let within_same : (u v : ℕ) → Contains r u → Contains r v → SameRanges (series_of ws) u v =
            λ u v a b. (same_series u v).1 (k.same_set u v a.0 a.1 b.0 b.1) in
            let last =
            (within_same r.low r.high (omega arith, k.ordered) (k.ordered, omega arith) own.0 own.1).0 own.2 in
            record {
              filled = k.ordered;
              wanted = own;
              same_set = within_same;
              maximal_below = λ a same. k.maximal_below a ((same_series (pred r.low) r.low).0 same);
              maximal_above = λ same.
                  k.maximal_above (omega (arith, ((same own.0 own.1).0 last).1, within.2))
                  ((same_series r.high (suc r.high)).0 same);
            }
