-- The pass over the cuts of ranges leaves the runs of the gauges that they are on (document 02, request 7): "each gauge of which a
-- live rule has a range there is cut into runs by itself, and no other gauge has a case".
use Prim.Native.Nat.{ℕ, suc, pred, min, max, ◌≤◌, ◌<◌}
use mathlib.Core.Path.{◌≡◌, refl, sym, subst}
use mathlib.Core.Bool.{Bool, true, false}
use mathlib.Core.List.{List, [], ◌∷◌}
use mathlib.Core.Logic.{◌⊎◌, inl, inr}
use native.Mathlib.Omega.{arith}
use Rattle.basics.specs.Lists.{Mem, here, there, All}
use Rattle.basics.proofs.Booleans.{by_test}
use Rattle.basics.proofs.ListLaws.{all_at, all_from, all_map, mem_cases, mem_none}
use Rattle.basics.proofs.Numbers.{le_or_lt}
use Rattle.basics.proofs.Sorted.{AscendingBy, same_members}
use Rattle.terms.specs.Term.{on_gauge, gauge_of}
use Rattle.terms.specs.RuleTests.{Range}
use Rattle.decision.specs.Runs.{cuts}
use Rattle.decision.proofs.cases.Intervals.{Contains, EndsBefore, Uncut, in_one_only}
use Rattle.decision.proofs.cases.RangeOrder.{Filled, range_order, in_order_lem}
use Rattle.decision.proofs.cases.RangeRuns.{cuts_ascend, wanted_cut}
use Rattle.decision.proofs.cases.OnGauges.{OneGauge, gauge_listed}
use Rattle.decision.proofs.cases.GaugeRuns.{gauge_runs, gauge_run, gauge_run_on, gauge_runs_ascend}
use Rattle.cuts.specs.views.FramedRuns.{gauge_first, gauge_end}
use Rattle.cuts.proofs.Gauging.{gap_range, gauged_from, gauged_runs, Steady, AllSteady, gap_all, gap_ascends, gap_rest, gap_has}
use Rattle.cuts.proofs.CutsToCome.{At, next_lowest, at_next, uncut_here, uncut_last}
use Rattle.cuts.proofs.Gauging.{IsRun, cut_framed, run_of_gauge, run_listed, closing, opening}

module _ (ws : List Range) (one : All OneGauge ws) (quiet : ℕ → Bool)
    (loud : (y : ℕ) → quiet y ≡ false → (w : Range) × Mem w ws × Contains w y)
    (still : (y : ℕ) → quiet y ≡ true → (w : Range) → Mem w ws → Contains w y → ⊥) where
  -- What a range has from a cut to the next is a run.
  wanted : (start z : ℕ) (zs : List ℕ) → At ws start (z ∷ zs) → quiet start ≡ false → IsRun ws one (record { low = start; high = pred z })
  wanted start z zs at e =
      let g = gauge_of start in
      let r : Range = record { low = start; high = pred z } in
      let w = loud start e in
      let o = all_at OneGauge w.1 one in
      let over = next_lowest ws z zs at.ascend.1 (suc w.0.high)
      (at.others (suc w.0.high) (wanted_cut w.1 (suc w.0.high) (inr refl)) (omega (arith, w.2.1))) in
      let on : gauge_of w.0.low ≡ g = omega (arith, o.1, w.2.0, w.2.1) in
      let some : start < z = at.ascend.0.0 in
      let d : suc (pred z) ≡ z = omega arith in
      let top : z ≤ on_gauge (suc g) 0 = omega (arith, o.1) in
      run_listed ws one g r w.0 w.1 on
      (run_of_gauge ws one g r (omega arith) (omega arith) (omega arith)
      (cut_framed ws one g start at.cut (omega arith) (omega arith))
      (rw d (cut_framed ws one g z at.listed.0 (omega arith) top))
      (uncut_here ws start z zs at r (omega arith) (omega arith)))

  -- The pass leaves runs only,
  sound : (start : ℕ) (zs : List ℕ) → At ws start zs → All (IsRun ws one) (gauged_from quiet start zs)
  sound start [] at =
      gap_all (IsRun ws one) start (gauge_end start) []
      (λ l.
      closing ws one start (gauge_end start) at.cut (omega arith) (inr refl) l
      (uncut_last ws start at (record { low = start; high = pred (gauge_end start) }) (omega arith)))
      tt
  sound start (z ∷ zs) at =
      let later = sound z zs (at_next ws start z zs at) in
      let end = min z (gauge_end start) in
      let first = max (gauge_end start) (gauge_first z) in
      let some : start < z = at.ascend.0.0 in
      by_test (quiet start)
      (λ e.
      rw e
      (gap_all (IsRun ws one) start end (gap_range first z (gauged_from quiet z zs))
      (λ l.
      closing ws one start end at.cut (omega arith) (lower z (gauge_end start) at.listed.0) l
      (uncut_here ws start z zs at (record { low = start; high = pred end }) (omega arith) (omega arith)))
      (gap_all (IsRun ws one) first z (gauged_from quiet z zs)
      (λ l.
      opening ws one first z at.listed.0 (omega arith) l
      (uncut_here ws start z zs at (record { low = first; high = pred z }) (omega arith) (omega arith)))
      later)))
      (λ e. rw e (wanted start z zs at e, later))
    where
      lower : (x y : ℕ) → Mem x (cuts ws) → Mem (min x y) (cuts ws) ⊎ (min x y ≡ y)
      lower x y m = elim (le_or_lt x y) [
        | inl h ↦ (let e : min x y ≡ x = omega arith in inl (rw e m))
        | inr h ↦ inr (omega arith)
      ]

  -- in ascending order,
  lows : (start : ℕ) (zs : List ℕ) → At ws start zs → All (λ (r : Range). start ≤ r.low) (gauged_from quiet start zs)
  lows start [] at = gap_all (λ (r : Range). start ≤ r.low) start (gauge_end start) [] (λ l. omega arith) tt
  lows start (z ∷ zs) at =
      let some : start < z = at.ascend.0.0 in
      let From : Range → Type 0 = λ r. start ≤ r.low in
      let later =
      all_map (λ (r : Range). z ≤ r.low) From (λ r h. omega arith) (gauged_from quiet z zs)
      (lows z zs (at_next ws start z zs at)) in
      let first = max (gauge_end start) (gauge_first z) in
      by_test (quiet start)
      (λ e.
      rw e
      (gap_all From start (min z (gauge_end start)) (gap_range first z (gauged_from quiet z zs)) (λ l. omega arith)
      (gap_all From first z (gauged_from quiet z zs) (λ l. omega arith) later)))
      (λ e. rw e (omega arith, later))

  ascends : (start : ℕ) (zs : List ℕ) → At ws start zs → AscendingBy EndsBefore (gauged_from quiet start zs)
  ascends start [] at = gap_ascends start (gauge_end start) [] tt tt
  ascends start (z ∷ zs) at =
      let next = at_next ws start z zs at in
      let rest = gauged_from quiet z zs in
      let some : start < z = at.ascend.0.0 in
      let first = max (gauge_end start) (gauge_first z) in
      let end = min z (gauge_end start) in
      let From : ℕ → Range → Type 0 = λ v r. v ≤ r.low in
      let later = lows z zs next in
      let beyond = all_map (From z) (From end) (λ r h. omega arith) rest later in
      by_test (quiet start)
      (λ e.
      rw e
      (gap_ascends start end (gap_range first z rest) (gap_all (From end) first z rest (λ l. omega arith) beyond)
      (gap_ascends first z rest later (ascends z zs next))))
      (λ e.
      rw e
      (all_map (From z) (EndsBefore (record { low = start; high = pred z })) (λ r h. omega arith) rest later, ascends z zs next))

  -- and all numbers of a gauge that a range is on, from the cut on, are in them.
  covers
      : (start : ℕ) (zs : List ℕ) → At ws start zs → (w : Range) → Mem w ws → (y : ℕ) → gauge_of w.low ≡ gauge_of y → start ≤ y
      → (r : Range) × Mem r (gauged_from quiet start zs) × Contains r y
  covers start [] at w m y e h =
      let o = all_at OneGauge m one in
      let over : suc w.high ≤ start = elim (le_or_lt (suc w.high) start) [
        | inl p ↦ p
        | inr p ↦ absurd (mem_none (at.others (suc w.high) (wanted_cut m (suc w.high) (inr refl)) p))
      ] in
      gap_has start (gauge_end start) [] y h (omega (arith, o.0, o.1))
  covers start (z ∷ zs) at w m y e h =
      elim (le_or_lt z y) [
        | inl p ↦ behind (covers z zs (at_next ws start z zs at) w m y e p)
        | inr p ↦ by_test (quiet start) (λ q. rw q (gap q p)) (λ q. rw q (own p))
      ]
    where
      o : OneGauge w
      o = all_at OneGauge m one

      rest : List Range
      rest = gauged_from quiet z zs

      end : ℕ
      end = min z (gauge_end start)

      first : ℕ
      first = max (gauge_end start) (gauge_first z)

      behind : (r : Range) × Mem r rest × Contains r y → (r : Range) × Mem r (gauged_from quiet start (z ∷ zs)) × Contains r y
      behind r =
          by_test (quiet start) (λ q. rw q (r.0, gap_rest start end (gap_range first z rest) (gap_rest first z rest r.1), r.2))
          (λ q. rw q (r.0, there r.1, r.2))

      own : y < z → (r : Range) × Mem r (record { low = start; high = pred z } ∷ rest) × Contains r y
      own p = (record { low = start; high = pred z }, here, (h, omega arith))

      -- No range has the numbers up to the next cut: one on the gauge is over before, or begins behind.
      gap : quiet start ≡ true → y < z → (r : Range) × Mem r (gap_range start end (gap_range first z rest)) × Contains r y
      gap q p =
          elim (le_or_lt (suc w.high) start) [
            | inl over ↦ gap_has start end (gap_range first z rest) y h (omega (arith, o.0, o.1))
            | inr goes ↦ elim (le_or_lt w.low start) [
              | inl begun ↦ absurd (still start q w m (begun, omega arith))
              | inr later ↦ (let cut = at.others w.low (wanted_cut m w.low (inl refl)) later in
                  let above = next_lowest ws z zs at.ascend.1 w.low cut in
                  elim (le_or_lt (gauge_end start) y) [
                    | inr u ↦ gap_has start end (gap_range first z rest) y h (omega arith)
                    | inl u ↦ (let k = gap_has first z rest y (omega arith) p in
                        (k.0, gap_rest start end (gap_range first z rest) k.1, k.2))
                  ])
            ]
          ]

  -- Where no range has a cut, none has what lies before the next one,
  none_has : (y : ℕ) → ((w : Range) → Mem w ws → Contains w y → ⊥) → quiet y ≡ true
  none_has y f = by_test (quiet y) (λ e. e) (λ e. let w = loud y e in absurd (f w.0 w.1 w.2))

  steady : (start : ℕ) (zs : List ℕ) → At ws start zs → Steady quiet start zs
  steady start [] at =
      none_has start
      (λ w m k. mem_none (at.others (suc w.high) (wanted_cut m (suc w.high) (inr refl)) (omega (arith, k.1))))
  steady start (z ∷ zs) at = (
    at.ascend.0.0,
    λ e l. none_has (max (gauge_end start) (gauge_first z))
        (λ w m k.
        still start e w m (
          elim (le_or_lt w.low start) [
            | inl p ↦ p
            | inr p ↦ (let cut = at.others w.low (wanted_cut m w.low (inl refl)) p in
                absurd (omega (arith, k.0, next_lowest ws z zs at.ascend.1 w.low cut)))
          ],
          omega (arith, k.1),
        )),
    steady z zs (at_next ws start z zs at),
  )

  -- So it is with all cuts: before the first one is what comes on its gauge.
  at_first : (z : ℕ) (zs : List ℕ) → cuts ws ≡ z ∷ zs → At ws z zs
  at_first z zs e =
      let own : AscendingBy ◌<◌ (z ∷ zs) = subst (AscendingBy ◌<◌) e (cuts_ascend ws) in
      let back : (x : ℕ) → Mem x (z ∷ zs) → Mem x (cuts ws) = λ x m. subst (Mem x) (sym e) m in
      record {
        cut = back z here;
        ascend = own;
        listed = all_from (λ (x : ℕ). Mem x (cuts ws)) zs (λ x m. back x (there m));
        others = λ x m h. elim (mem_cases (subst (Mem x) e m)) [ inl d ↦ absurd (omega arith) | inr k ↦ k ];
      }

  before_first : (z : ℕ) (zs : List ℕ) → cuts ws ≡ z ∷ zs → (c : ℕ) → Mem c (cuts ws) → z ≤ c
  before_first z zs e c m = next_lowest ws z zs (at_first z zs e).ascend c (subst (Mem c) e m)

  all_sound_lem : (zs : List ℕ) → cuts ws ≡ zs → All (IsRun ws one) (gauged_runs quiet zs)
  all_sound_lem [] e = tt
  all_sound_lem (z ∷ zs) e =
      let at = at_first z zs e in
      gap_all (IsRun ws one) (gauge_first z) z (gauged_from quiet z zs)
      (λ l.
      opening ws one (gauge_first z) z at.cut refl l
      (all_from (Uncut (record { low = gauge_first z; high = pred z })) (cuts ws)
      (λ c m. inr (omega (arith, before_first z zs e c m)))))
      (sound z zs at)

  all_ascend : (zs : List ℕ) → cuts ws ≡ zs → AscendingBy EndsBefore (gauged_runs quiet zs)
  all_ascend [] e = tt
  all_ascend (z ∷ zs) e =
      let at = at_first z zs e in gap_ascends (gauge_first z) z (gauged_from quiet z zs) (lows z zs at) (ascends z zs at)

  all_cover : (zs : List ℕ) → cuts ws ≡ zs → (w : Range) → Mem w ws → (y : ℕ) → gauge_of w.low ≡ gauge_of y
      → (r : Range) × Mem r (gauged_runs quiet zs) × Contains r y
  all_cover [] e w m y d = absurd (mem_none (subst (Mem w.low) e (wanted_cut m w.low (inl refl))))
  all_cover (z ∷ zs) e w m y d =
      let rest = gauged_from quiet z zs in
      let first = before_first z zs e w.low (wanted_cut m w.low (inl refl)) in
      elim (le_or_lt z y) [
        | inl p ↦ (let r = covers z zs (at_first z zs e) w m y d p in (r.0, gap_rest (gauge_first z) z rest r.1, r.2))
        | inr p ↦ gap_has (gauge_first z) z rest y (omega arith) p
      ]

  pub all_steady : AllSteady quiet (cuts ws)
  all_steady = go (cuts ws) refl
    where
      go : (zs : List ℕ) → cuts ws ≡ zs → AllSteady quiet zs
      go [] e = tt
      go (z ∷ zs) e = (
        λ l. none_has (gauge_first z)
            (λ w m k. omega (arith, k.0, before_first z zs e w.low (wanted_cut m w.low (inl refl)))),
        steady z zs (at_first z zs e),
      )

  -- The pass leaves the runs of the gauges that ranges are on.
  pub gauged_are : gauged_runs quiet (cuts ws) ≡ gauge_runs ws
  gauged_are =
      let passed = gauged_runs quiet (cuts ws) in
      let runs = all_sound_lem (cuts ws) refl in
      let own = gauge_runs_ascend ws one in
      let filled : (r : Range) → Mem r (gauge_runs ws) → Filled r = λ r m. (gauge_run_on ws one r m).0 in
      same_members range_order passed (gauge_runs ws)
      (in_order_lem passed (all_map (IsRun ws one) Filled filled passed runs) (all_ascend (cuts ws) refl))
      (in_order_lem (gauge_runs ws) (all_from Filled (gauge_runs ws) filled) own)
      (λ r m. all_at (IsRun ws one) m runs)
      (λ r m.
      let w = (gauge_listed ws (gauge_of r.low)).0 ((gauge_run ws one r).0 m).0 in
      let s = all_cover (cuts ws) refl w.0 w.1 r.low w.2 in
      let same = in_one_only (gauge_runs ws) own s.0 r r.low (all_at (IsRun ws one) s.1 runs) m s.2 (omega arith, filled r m) in
      subst (λ (q : Range). Mem q passed) same s.1)
