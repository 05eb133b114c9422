-- All numbers from a base up to a top, cut into runs by ranges that lie between the two (document 02, request 4). Each number is in
-- one run; a range has all numbers of a run or none; the runs are the maximal ones accepted by the same set of the ranges.
use Prim.Native.Nat.{ℕ, suc, pred, ◌*◌, ◌≤◌, ◌<◌}
use mathlib.Core.Path.{◌≡◌, refl, subst}
use mathlib.Core.Logic.Iff
use mathlib.Core.Logic.{◌↔◌, ◌⊎◌, inl, inr}
use mathlib.Core.List.{List}
use native.Mathlib.Omega.{arith}
use lib.Dec.{T, ltb}
use lib.ListN.{length}
use Rattle.basics.specs.Lists.{Mem, All}
use Rattle.basics.specs.Order.{insert_by}
use Rattle.basics.proofs.ListLaws.{all_at, all_map}
use Rattle.basics.proofs.Sorted.{AscendingBy as Ascending}
use Rattle.terms.specs.RuleTests.{Range}
use Rattle.decision.specs.Runs.{cuts, covers, frame, framed}
use Rattle.decision.proofs.cases.Insertion.{number_inserted}
use Rattle.decision.proofs.cases.Intervals.{Contains, EndsBefore, Uncut, Between, Ends, same_ends}
use Rattle.decision.proofs.cases.Intervals.{between_cuts, between_ascends, between_covers, between_length, in_one_only}
use Rattle.decision.proofs.cases.RangeRuns.{cuts_ascend, cuts_length, cut_wanted, wanted_cut, meets}
use Rattle.decision.proofs.cases.RangeRuns.{uncut_covers, uncut_meets, Parted, cut_parted}
use Rattle.decision.proofs.cases.RangeOrder.{Filled}

module _ (base top : ℕ) (ws : List Range) where
  -- A number of the frame is its base, its top or a cut of a range.
  pub in_frame : (z : ℕ) → Mem z (frame base top ws) ↔ ((z ≡ base) ⊎ ((z ≡ top) ⊎ Mem z (cuts ws)))
  in_frame z =
      let first = (number_inserted base (insert_by ltb top (cuts ws))).members z in
      let last = (number_inserted top (cuts ws)).members z in (
        λ m. elim (first.0 m) [ inl e ↦ inl e | inr k ↦ inr (last.0 k) ],
        λ d. first.1 (elim d [ inl e ↦ inl e | inr k ↦ inr (last.1 k) ]),
      )

  -- The cuts of the frame ascend.
  pub frame_ascends : Ascending ◌<◌ (frame base top ws)
  frame_ascends =
      (number_inserted base (insert_by ltb top (cuts ws))).ascends ((number_inserted top (cuts ws)).ascends (cuts_ascend ws))

  -- A run lies between two cuts of the frame,
  pub framed_between : (r : Range) → Mem r (framed base top ws) → Between (frame base top ws) r
  framed_between r m = all_at (Between (frame base top ws)) m (between_cuts (frame base top ws) frame_ascends)

  pub framed_filled : All Filled (framed base top ws)
  framed_filled =
      all_map (Between (frame base top ws)) Filled (λ r b. b.ordered) (framed base top ws)
      (between_cuts (frame base top ws) frame_ascends)

  -- the runs ascend and do not overlap,
  pub framed_ascends : Ascending EndsBefore (framed base top ws)
  framed_ascends = between_ascends (frame base top ws) frame_ascends

  -- each number from base up to top lies in a run,
  pub framed_covers : (v : ℕ) → base ≤ v → v < top → (r : Range) × Mem r (framed base top ws) × Contains r v
  framed_covers v h k =
      between_covers (frame base top ws) frame_ascends base top v ((in_frame base).1 (inl refl)) h
      ((in_frame top).1 (inr (inl refl))) k

  -- and in one only.
  pub framed_one
      : (r s : Range) (v : ℕ) → Mem r (framed base top ws) → Mem s (framed base top ws) → Contains r v → Contains s v → r ≡ s
  framed_one r s v m n h k = in_one_only (framed base top ws) framed_ascends r s v m n h k

  -- There is at most one run more than twice as many as ranges.
  pub framed_few : length (framed base top ws) ≤ suc (2 * length ws)
  framed_few =
      let first = (number_inserted base (insert_by ltb top (cuts ws))).longer in
      let last = (number_inserted top (cuts ws)).longer in
      omega (arith, between_length (frame base top ws), cuts_length ws)

  module _ (r w : Range) (m : Mem r (framed base top ws)) (n : Mem w ws) where
    -- No range cuts a run.
    pub low_uncut : Uncut r w.low
    low_uncut =
        let cut = wanted_cut n w.low (inl refl) in
        all_at (Uncut r) ((in_frame w.low).1 (inr (inr cut))) (framed_between r m).uncut

    pub high_uncut : Uncut r (suc w.high)
    high_uncut =
        let cut = wanted_cut n (suc w.high) (inr refl) in
        all_at (Uncut r) ((in_frame (suc w.high)).1 (inr (inr cut))) (framed_between r m).uncut

    -- A range that has one number of a run has all of them.
    pub framed_uncut : (v : ℕ) → Contains r v → T (covers w r) ↔ Contains w v
    framed_uncut v h = uncut_covers r w v low_uncut high_uncut h

    pub framed_meets : (v : ℕ) → Contains r v → T (meets w r) ↔ Contains w v
    framed_meets v h = uncut_meets r w v low_uncut high_uncut h

-- The range lies from base up to top.
abbrev pub InFrame : ℕ → ℕ → Range → Type 0
InFrame base top w = (base ≤ w.low) × Filled w × (w.high < top)

-- The same of the ranges accept the one number and the other.
abbrev pub SameRanges : List Range → ℕ → ℕ → Type 0
SameRanges ws u v = (w : Range) → Mem w ws → Contains w u ↔ Contains w v

-- They are not the same where some range accepts one of the two and not the other.
pub parted_other : (ws : List Range) (u v : ℕ) → Parted ws u v → SameRanges ws u v → ⊥
parted_other ws u v (w, m, d) same = elim d [ inl p ↦ p.1 ((same w m).0 p.0) | inr p ↦ p.1 ((same w m).1 p.0) ]

-- The numbers of r are a maximal run, from base up to top, accepted by the same set of the ranges.
pub record MaximalIn (base top : ℕ) (ws : List Range) (r : Range) : Type 0 where
  pub inside : InFrame base top r
  pub same_set : (u v : ℕ) → Contains r u → Contains r v → SameRanges ws u v
  pub maximal_below : base < r.low → SameRanges ws (pred r.low) r.low → ⊥
  pub maximal_above : suc r.high < top → SameRanges ws r.high (suc r.high) → ⊥

module _ (base top : ℕ) (ws : List Range) (o : base ≤ top) (wanted : All (InFrame base top) ws) where
  -- A cut of the frame is from base to top.
  cut_bounds : (z : ℕ) → Mem z (frame base top ws) → (base ≤ z) × (z ≤ top)
  cut_bounds z m =
      elim ((in_frame base top ws z).0 m) [
        | inl e ↦ (omega arith, omega arith)
        | inr d ↦ elim d [
          | inl e ↦ (omega arith, omega arith)
          | inr k ↦ (let c = cut_wanted ws z k in
              let w = all_at (InFrame base top) c.1 wanted in
              elim c.2 [
                | inl e ↦ (omega (arith, w.0), omega (arith, w.1, w.2))
                | inr e ↦ (omega (arith, w.0, w.1), omega (arith, w.2))
              ])
        ]
      ]

  -- A run lies from base up to top.
  pub framed_inside : (r : Range) → Mem r (framed base top ws) → InFrame base top r
  framed_inside r m =
      let b = framed_between base top ws r m in
      let low = cut_bounds r.low b.begins in
      let high = cut_bounds (suc r.high) b.ends in
      (low.0, b.ordered, omega (arith, high.1))

  -- At a cut between base and top another set of the ranges accepts than just before it.
  inner_parted : (z : ℕ) → Mem z (frame base top ws) → base < z → z < top → SameRanges ws (pred z) z → ⊥
  inner_parted z m above below =
      elim ((in_frame base top ws z).0 m) [
        | inl e ↦ (λ same. omega arith)
        | inr d ↦ elim d [
          | inl e ↦ (λ same. omega arith)
          | inr k ↦ (let filled = all_map (InFrame base top) Filled (λ w h. h.1) ws wanted in
              parted_other ws (pred z) z (cut_parted ws filled z (omega arith) k))
        ]
      ]

  -- Each run is maximal,
  framed_maximal : (r : Range) → Mem r (framed base top ws) → MaximalIn base top ws r
  framed_maximal r m =
      let b = framed_between base top ws r m in
      let within = framed_inside r m in
      record {
        inside = within;
        same_set = λ u v h k w n.
            Iff.trans (Iff.symm (framed_uncut base top ws r w m n u h)) (framed_uncut base top ws r w m n v k);
        maximal_below = λ h. inner_parted r.low b.begins h (omega (arith, within.1, within.2));
        maximal_above = λ h. inner_parted (suc r.high) b.ends (omega (arith, within.0, within.1)) h;
      }

  -- and ends where another set of the ranges accepts,
  ends_there : (r s : Range) → MaximalIn base top ws r → MaximalIn base top ws s → Ends (SameRanges ws) r s
  ends_there r s a b = record {
    same_set = a.same_set;
    below = λ d. a.maximal_below (omega (arith, b.inside.0));
    above = λ d. a.maximal_above (omega (arith, b.inside.2));
  }

  -- so that the runs are the maximal ones.
  pub framed_are : (r : Range) → Mem r (framed base top ws) ↔ MaximalIn base top ws r
  framed_are r = (framed_maximal r, own)
    where
      own : MaximalIn base top ws r → Mem r (framed base top ws)
      own a =
          let within = a.inside in
          let s = framed_covers base top ws r.low within.0 (omega (arith, within.1, within.2)) in
          let b = framed_maximal s.0 s.1 in
          let has : Contains r r.low = (omega arith, within.1) in
          let same = same_ends (SameRanges ws) s.0 r r.low (ends_there s.0 r b a) (ends_there r s.0 a b) s.2 has in
          subst (λ (q : Range). Mem q (framed base top ws)) same s.1
