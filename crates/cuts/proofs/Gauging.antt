-- A pass over the cuts of ranges, each on one gauge (document 02, request 7), that leaves all numbers of the gauges that they are
-- on in runs: from each cut to the next one, where no range has the numbers between only those on the gauges of the two.
use Prim.Native.Nat.{ℕ, suc, pred, min, max, ◌≤◌, ◌<◌}
use mathlib.Core.Path.{◌≡◌, subst}
use mathlib.Core.Bool.{Bool, true, cond}
use mathlib.Core.List.{List, [], ◌∷◌}
use mathlib.Core.Logic.{◌⊎◌, inl, inr}
use native.Mathlib.Omega.{arith}
use lib.Dec.{ltb}
use borrow.Author.Tests.{lt-ltb, ltb-true}
use Rattle.basics.specs.Lists.{Mem, here, there, All}
use Rattle.basics.proofs.Booleans.{by_test}
use Rattle.basics.proofs.ListLaws.{all_at, all_map}
use Rattle.basics.proofs.Numbers.{le_or_lt}
use Rattle.basics.proofs.Sorted.{AscendingBy}
use Rattle.terms.specs.Term.{on_gauge, gauge_of}
use Rattle.terms.specs.RuleTests.{Range}
use Rattle.decision.specs.Runs.{cuts, frame, runs_on, gauges_of}
use Rattle.decision.proofs.cases.Intervals.{Contains, EndsBefore, Uncut, between_covers}
use Rattle.decision.proofs.cases.FramedRuns.{frame_ascends, framed_between, in_frame}
use Rattle.decision.proofs.cases.RangeRuns.{cut_wanted, wanted_cut}
use Rattle.decision.proofs.cases.OnGauges.{OneGauge, ranges_on, range_on_lem, gauge_listed}
use Rattle.decision.proofs.cases.GaugeRuns.{gauge_runs, of_each_lem}
use Rattle.cuts.specs.views.FramedRuns.{gauge_first, gauge_end}

-- The numbers from one up to another, a range if there are any.
abbrev pub gap_range : ℕ → ℕ → List Range → List Range
gap_range start next rest = cond (ltb start next) (record { low = start; high = pred next } ∷ rest) rest

abbrev pub gap_ranges : ℕ → ℕ → List Range → List Range
gap_ranges start next rest =
    gap_range start (min next (gauge_end start)) (gap_range (max (gauge_end start) (gauge_first next)) next rest)

-- The runs from a cut on, where `quiet` says of a cut that no range has it, and those of all cuts.
module _ (quiet : ℕ → Bool) where
  abbrev pub gauged_from : ℕ → List ℕ → List Range
  gauged_from start [] = gap_range start (gauge_end start) []
  gauged_from start (z ∷ zs) =
      cond (quiet start) (gap_ranges start z (gauged_from z zs)) (record { low = start; high = pred z } ∷ gauged_from z zs)

  abbrev pub gauged_runs : List ℕ → List Range
  gauged_runs [] = []
  gauged_runs (z ∷ zs) = gap_range (gauge_first z) z (gauged_from z zs)

  -- Where the pass leaves a run that no range has, none does.
  abbrev pub Steady : ℕ → List ℕ → Type 0
  Steady start [] = quiet start ≡ true
  Steady start (z ∷ zs) =
      (start < z)
      × (quiet start ≡ true → max (gauge_end start) (gauge_first z) < z → quiet (max (gauge_end start) (gauge_first z)) ≡ true)
      × Steady z zs

  abbrev pub AllSteady : List ℕ → Type 0
  AllSteady [] = Unit
  AllSteady (z ∷ zs) = (gauge_first z < z → quiet (gauge_first z) ≡ true) × Steady z zs

-- What is so of the range, if there is one, and of the others is so of all;
pub gap_all : (Q : Range → Type 0) (start next : ℕ) (rest : List Range)
    → (start < next → Q (record { low = start; high = pred next })) → All Q rest → All Q (gap_range start next rest)
gap_all Q start next rest f h = by_test (ltb start next) (λ e. rw e (f (ltb-true start next e), h)) (λ e. rw e h)

-- it comes before those that begin no lower than it is over;
pub gap_ascends : (start next : ℕ) (rest : List Range) → All (λ (r : Range). next ≤ r.low) rest → AscendingBy EndsBefore rest
    → AscendingBy EndsBefore (gap_range start next rest)
gap_ascends start next rest later a =
    by_test (ltb start next)
    (λ e.
    let l = ltb-true start next e in
    rw e (
      all_map (λ (r : Range). next ≤ r.low) (EndsBefore (record { low = start; high = pred next })) (λ r h. omega arith) rest later,
      a,
    ))
    (λ e. rw e a)

-- the others stay, and it has its numbers.
pub gap_rest : (start next : ℕ) (rest : List Range) {r : Range} → Mem r rest → Mem r (gap_range start next rest)
gap_rest start next rest m = by_test (ltb start next) (λ e. rw e (there m)) (λ e. rw e m)

pub gap_has : (start next : ℕ) (rest : List Range) (v : ℕ) → start ≤ v → v < next
    → (r : Range) × Mem r (gap_range start next rest) × Contains r v
gap_has start next rest v h k =
    (record { low = start; high = pred next }, rw (lt-ltb start next (omega arith)) here, (h, omega arith))

module _ (ws : List Range) (one : All OneGauge ws) where
  abbrev frame_on : ℕ → List ℕ
  frame_on g = frame (on_gauge g 0) (on_gauge (suc g) 0) (ranges_on ws g)

  -- A cut that is inside a gauge, not its first number, is made by a range on it.
  pub cut_on : (g x : ℕ) → Mem x (cuts ws) → on_gauge g 0 < x → x < on_gauge (suc g) 0
      → (w : Range) × Mem w (ranges_on ws g) × ((x ≡ w.low) ⊎ (x ≡ suc w.high))
  cut_on g x m h k =
      let c = cut_wanted ws x m in
      let o = all_at OneGauge c.1 one in
      let on : gauge_of c.0.low ≡ g = elim c.2 [ inl e ↦ omega arith | inr e ↦ omega (arith, o.1) ] in
      (c.0, (range_on_lem ws g c.0).1 (c.1, on), c.2)

  -- A cut from the first number of a gauge to that of the next is a cut of its frame,
  pub cut_framed : (g x : ℕ) → Mem x (cuts ws) → on_gauge g 0 ≤ x → x ≤ on_gauge (suc g) 0 → Mem x (frame_on g)
  cut_framed g x m h k =
      let member = (in_frame (on_gauge g 0) (on_gauge (suc g) 0) (ranges_on ws g) x).1 in
      elim (le_or_lt x (on_gauge g 0)) [
        | inl p ↦ member (inl (omega arith))
        | inr p ↦ elim (le_or_lt (on_gauge (suc g) 0) x) [
          | inl q ↦ member (inr (inl (omega arith)))
          | inr q ↦ (let c = cut_on g x m p q in member (inr (inr (wanted_cut c.1 x c.2))))
        ]
      ]

  -- and a range on a gauge that no cut falls inside is a run of the gauge where it begins and is over at cuts of the frame.
  pub run_of_gauge : (g : ℕ) (r : Range) → on_gauge g 0 ≤ r.low → r.low ≤ r.high → r.high < on_gauge (suc g) 0
      → Mem r.low (frame_on g) → Mem (suc r.high) (frame_on g) → All (Uncut r) (cuts ws) → Mem r (runs_on g ws)
  run_of_gauge g r above filled below begins ends uncut =
      let base = on_gauge g 0 in
      let top = on_gauge (suc g) 0 in
      let s = between_covers (frame_on g) (frame_ascends base top (ranges_on ws g)) r.low (suc r.high) r.low begins
      (omega arith) ends (omega arith) in
      let b = framed_between base top (ranges_on ws g) s.0 s.1 in
      let first : s.0.low ≡ r.low = elim (all_at (Uncut s.0) begins b.uncut) [
        | inl p ↦ omega (arith, s.2.0)
        | inr p ↦ omega (arith, s.2.1)
      ] in
      let last : s.0.high ≡ r.high = elim (all_at (Uncut s.0) ends b.uncut) [
        | inl p ↦ omega (arith, b.ordered, s.2.1)
        | inr p ↦ (elim (own (suc s.0.high) b.ends) [ inl q ↦ omega (arith, b.ordered) | inr q ↦ omega arith ])
      ] in
      subst (λ (q : Range). Mem q (runs_on g ws)) (λ i. record { low = first i; high = last i }) s.1
    where
      -- The frame of a gauge does not cut it either.
      own : (z : ℕ) → Mem z (frame_on g) → Uncut r z
      own z m =
          elim ((in_frame (on_gauge g 0) (on_gauge (suc g) 0) (ranges_on ws g) z).0 m) [
            | inl e ↦ inl (omega arith)
            | inr d ↦ elim d [
              | inl e ↦ inr (omega arith)
              | inr k ↦ (let c = cut_wanted (ranges_on ws g) z k in
                  all_at (Uncut r) (wanted_cut ((range_on_lem ws g c.0).0 c.1).0 z c.2) uncut)
            ]
          ]

  -- The runs of a gauge that a range is on are among those of all gauges.
  pub run_listed : (g : ℕ) (r w : Range) → Mem w ws → gauge_of w.low ≡ g → Mem r (runs_on g ws) → Mem r (gauge_runs ws)
  run_listed g r w m e k = (of_each_lem (λ h. runs_on h ws) (gauges_of ws) r).1 (g, (gauge_listed ws g).1 (w, m, e), k)

  abbrev pub IsRun : Range → Type 0
  IsRun r = Mem r (gauge_runs ws)

  -- What goes on from a cut to another, or to the end of its gauge, is a run,
  pub closing : (start next : ℕ) → Mem start (cuts ws) → next ≤ gauge_end start → Mem next (cuts ws) ⊎ (next ≡ gauge_end start)
      → start < next → All (Uncut (record { low = start; high = pred next })) (cuts ws)
      → IsRun (record { low = start; high = pred next })
  closing start next m within ends some uncut =
      let g = gauge_of start in
      let r : Range = record { low = start; high = pred next } in
      let inside : on_gauge g 0 < start = omega arith in
      let top : gauge_end start ≡ on_gauge (suc g) 0 = omega arith in
      let e : suc (pred next) ≡ next = omega arith in
      let w = cut_on g start m inside (omega arith) in
      let own = (range_on_lem ws g w.0).0 w.1 in
      let over : Mem next (frame (on_gauge g 0) (on_gauge (suc g) 0) (ranges_on ws g)) = elim ends [
        | inl k ↦ cut_framed g next k (omega arith) (omega arith)
        | inr d ↦ (in_frame (on_gauge g 0) (on_gauge (suc g) 0) (ranges_on ws g) next).1 (inr (inl (omega arith)))
      ] in
      run_listed g r w.0 own.0 own.1
      (run_of_gauge g r (omega arith) (omega arith) (omega arith) (cut_framed g start m (omega arith) (omega arith))
      (rw e over) uncut)

  -- so is what comes on its gauge before a cut,
  pub opening : (first z : ℕ) → Mem z (cuts ws) → first ≡ gauge_first z → first < z
      → All (Uncut (record { low = first; high = pred z })) (cuts ws) → IsRun (record { low = first; high = pred z })
  opening first z m is some uncut =
      let g = gauge_of z in
      let r : Range = record { low = first; high = pred z } in
      let e : suc (pred z) ≡ z = omega arith in
      let w = cut_on g z m (omega arith) (omega arith) in
      let own = (range_on_lem ws g w.0).0 w.1 in
      let begins = (in_frame (on_gauge g 0) (on_gauge (suc g) 0) (ranges_on ws g) first).1 (inl (omega arith)) in
      run_listed g r w.0 own.0 own.1
      (run_of_gauge g r (omega arith) (omega arith) (omega arith) begins
      (rw e (cut_framed g z m (omega arith) (omega arith))) uncut)
