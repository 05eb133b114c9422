-- The pairs of a first and a last run (document 02, request 4): one range for each, from the low of the first to the high of the
-- last. Which of the ranges that cut the runs have a number of a pair, and which have all of them, is as it is with any span that
-- begins in its first run and ends in its last.
use Prim.Native.Nat.{ℕ, suc, ◌+◌, ◌*◌, ◌≤◌, max}
use mathlib.Core.Path.{◌≡◌, refl, ap, sym, subst, ◌∙◌}
use mathlib.Core.Logic.{◌↔◌, ◌⊎◌, inl, inr}
use mathlib.Core.List.{List, [], ◌∷◌, map}
use native.Mathlib.Nat.{suc-mul, mul-suc, mul-le-mul}
use native.Mathlib.Omega.{arith}
use lib.Dec.{T}
use lib.ListN.{length, length-append, length-map}
use Rattle.basics.specs.Lists.{Mem, here, there, All}
use Rattle.basics.proofs.ListLaws.{all_at, all_from, mem_cases, mem_join, mem_none}
use Rattle.basics.proofs.Filters.{mem_left, mem_right, mem_map, map_mem, all_mapped}
use Rattle.basics.proofs.Ascent.{ascending_map, ascending_join, ascending_two}
use Rattle.basics.proofs.Sorted.{AscendingBy, Ascending, before_pair}
use Rattle.basics.proofs.Numbers.{both_le}
use Rattle.terms.specs.RuleTests.{Range}
use Rattle.decision.specs.Runs.{covers, framed, from_to, run_pairs}
use Rattle.decision.proofs.cases.Intervals.{Contains, EndsBefore}
use Rattle.decision.proofs.cases.RangeRuns.{meets}
use Rattle.decision.proofs.cases.RangeOrder.{ascending_imply, range_before, Filled, begins_below, ends_above}
use Rattle.decision.proofs.cases.FramedRuns.{InFrame, framed_filled, framed_ascends, framed_covers}
use Rattle.decision.proofs.cases.FramedRuns.{framed_inside, low_uncut, high_uncut, framed_meets}

-- The last run is the first or comes after it.
abbrev pub InTurn : Range → Range → Type 0
InTurn r s = (r ≡ s) ⊎ EndsBefore r s

-- There are n (n + 1) / 2 pairs of n runs.
pub pairs_count : (rs : List Range) → length (run_pairs rs) * 2 ≡ length rs * suc (length rs)
pairs_count [] = refl
pairs_count (r ∷ rs) =
    let n = length rs in
    let row = length-map (r ∷ rs) (from_to r) in
    let all = length-append (map (from_to r) (r ∷ rs)) (run_pairs rs) in
    let wide : suc n * suc (suc n) ≡ n * suc (suc n) + suc (suc n) = suc-mul n (suc (suc n)) in
    let high : n * suc (suc n) ≡ n * suc n + n = mul-suc n (suc n) in
    omega (arith, pairs_count rs)

pub pairs_few : (rs : List Range) (most : ℕ) → length rs ≤ most → length (run_pairs rs) * 2 ≤ most * suc most
pairs_few rs most h =
    let room : length rs * suc (length rs) ≤ most * suc most =
    mul-le-mul {n₁ = length rs} {m₁ = suc (length rs)} {n₂ = most} {m₂ = suc most} h (omega arith) in
    omega (arith, pairs_count rs)

-- Each pair is one of two runs in turn,
pub pair_runs
    : (rs : List Range) → AscendingBy EndsBefore rs → (x : Range) → Mem x (run_pairs rs)
    → (r s : Range) × Mem r rs × Mem s rs × InTurn r s × (x ≡ from_to r s)
pair_runs [] a x m = absurd (mem_none m)
pair_runs (q ∷ qs) a x m =
    elim (mem_join (map (from_to q) (q ∷ qs)) (run_pairs qs) m) [
      | inl k ↦ (let s = map_mem (from_to q) (q ∷ qs) k in
          let turn : InTurn q s.0 =
          elim (mem_cases s.1) [ inl e ↦ inl (sym e) | inr n ↦ inr (all_at (EndsBefore q) n a.0) ] in
          (q, s.0, here, s.1, turn, s.2))
      | inr k ↦ (let p = pair_runs qs a.1 x k in (p.0, p.1, there p.2, there p.3, p.4, p.5))
    ]

-- and two runs in turn have a pair.
pub runs_pair
    : (rs : List Range) → All Filled rs → AscendingBy EndsBefore rs → (r s : Range) → Mem r rs → Mem s rs → InTurn r s
    → Mem (from_to r s) (run_pairs rs)
runs_pair [] f a r s m n turn = absurd (mem_none m)
runs_pair (q ∷ qs) f a r s m n turn =
    elim (mem_cases m) [
      | inl e ↦ first e
      | inr k ↦ elim (mem_cases n) [
        | inl e ↦ elim turn [
          | inl d ↦ first (d ∙ e)
          | inr d ↦ (let own : Filled r = all_at Filled k f.1 in
              let after : EndsBefore q r = all_at (EndsBefore q) k a.0 in
              let low : s.low ≡ q.low = ap (λ (x : Range). x.low) e in
              let never : ⊥ = omega (arith, f.0) in
              absurd never)
        ]
        | inr l ↦ mem_right (map (from_to q) (q ∷ qs)) (runs_pair qs f.1 a.1 r s k l turn)
      ]
    ]
  where
    first : r ≡ q → Mem (from_to r s) (run_pairs (q ∷ qs))
    first e =
        subst (λ (x : Range). Mem (from_to x s) (run_pairs (q ∷ qs))) (sym e) (mem_left (run_pairs qs) (mem_map (from_to q) n))

-- The low of a pair is at most its high.
pub pair_filled : (r s : Range) → Filled r → Filled s → InTurn r s → Filled (from_to r s)
pair_filled r s f g (inl e) = omega (arith, ap (λ (x : Range). x.high) e)
pair_filled r s f g (inr h) = omega arith

-- Pairs ascend by their lows, then by their highs.
pub pairs_ascend_lem : (rs : List Range) → All Filled rs → AscendingBy EndsBefore rs → Ascending range_before (run_pairs rs)
pairs_ascend_lem [] f a = tt
pairs_ascend_lem (q ∷ qs) f a =
    let Before : Range → Range → Type 0 = λ r s. T (range_before r s) in
    let row =
    ascending_map Before (from_to q) (q ∷ qs)
    (ascending_imply Filled EndsBefore (λ (r : Range) (s : Range). Before (from_to q r) (from_to q s))
    (λ r s g h k. before_pair q.low r.high q.low s.high (inr (refl, omega arith))) (q ∷ qs) f a) in
    let later : (x : Range) → Mem x (run_pairs qs) → (s : Range) → Before (from_to q s) x =
    λ x m s.
    (let p = pair_runs qs a.1 x m in
    let after : EndsBefore q p.0 = all_at (EndsBefore q) p.2 a.0 in
    let low : x.low ≡ p.0.low = ap (λ (y : Range). y.low) p.5 in
    before_pair q.low s.high x.low x.high (inl (omega (arith, f.0)))) in
    ascending_join Before (map (from_to q) (q ∷ qs)) (run_pairs qs) row (pairs_ascend_lem qs f.1 a.1)
    (all_mapped (λ (y : Range). All (Before y) (run_pairs qs)) (from_to q) (q ∷ qs)
    (all_from (λ (s : Range). All (Before (from_to q s)) (run_pairs qs)) (q ∷ qs)
    (λ s m. all_from (Before (from_to q s)) (run_pairs qs) (λ x k. later x k s))))

-- "Whose range has a number that this case takes, from its low to its high."
pub meets_number : (w x : Range) → Filled w → Filled x → T (meets w x) ↔ ((v : ℕ) × Contains x v × Contains w v)
meets_number w x f g = (
  λ t. let s = (both_le w.low x.high x.low w.high).0 t in
      (max x.low w.low, (omega arith, omega (arith, s.0)), (omega arith, omega (arith, s.1))),
  λ h. (both_le w.low x.high x.low w.high).1
      (omega (arith, h.1.0, h.1.1, h.2.0, h.2.1), omega (arith, h.1.0, h.1.1, h.2.0, h.2.1)),
)

module _ (base top : ℕ) (ws : List Range) where
  abbrev all : List Range
  all = framed base top ws

  -- Of two runs, the one of a number and the one of a number that is not lower, the second is not before the first.
  pub span_turn
      : (r s : Range) (a b : ℕ) → Mem r all → Mem s all → Contains r a → Contains s b → a ≤ b → InTurn r s
  span_turn r s a b m n h k o =
      elim (ascending_two EndsBefore r s all (framed_ascends base top ws) m n) [
        | inl e ↦ inl e
        | inr d ↦ elim d [ inl p ↦ inr p | inr p ↦ (let never : ⊥ = omega (arith, h.0, k.1) in absurd never) ]
      ]

  module _ (r s w : Range) (a b : ℕ) (m : Mem r all) (n : Mem s all) (k : Mem w ws) (ha : Contains r a) (hb : Contains s b) where
    -- A range has all numbers of the pair of a's run and b's exactly when it has those from a to b,
    pub pair_covers : T (covers w (from_to r s)) ↔ ((w.low ≤ a) × (b ≤ w.high))
    pair_covers = (
      λ t. let c = (both_le w.low r.low s.high w.high).0 t in
          (omega (arith, c.0, ha.0), omega (arith, c.1, hb.1)),
      λ c. (both_le w.low r.low s.high w.high).1 (
        elim (low_uncut base top ws r w m k) [ inl p ↦ p | inr p ↦ omega (arith, c.0, ha.1) ],
        elim (high_uncut base top ws s w n k) [ inl p ↦ omega (arith, c.1, hb.0) | inr p ↦ omega arith ],
      ),
    )

    -- and one of them exactly when it has one from a to b.
    pub pair_meets : T (meets w (from_to r s)) ↔ ((w.low ≤ b) × (a ≤ w.high))
    pair_meets = (
      λ t. let c = (both_le w.low s.high r.low w.high).0 t in (
        elim (low_uncut base top ws s w n k) [ inl p ↦ omega (arith, hb.0) | inr p ↦ omega (arith, c.0) ],
        elim (high_uncut base top ws r w m k) [ inl p ↦ omega (arith, c.1) | inr p ↦ omega (arith, ha.1) ],
      ),
      λ c. (both_le w.low s.high r.low w.high).1
          (omega (arith, c.0, hb.1), omega (arith, c.1, ha.0)),
    )

  -- The ranges that have a number of a pair are those that have one of a run from its first to its last.
  pub pair_meets_run
      : base ≤ top → All (InFrame base top) ws → (r s w : Range) → Mem r all → Mem s all → InTurn r s → Mem w ws
      → T (meets w (from_to r s)) ↔ ((t : Range) × Mem t all × (r.low ≤ t.low) × (t.high ≤ s.high) × T (meets w t))
  pair_meets_run o wanted r s w m n turn k =
      let filled = framed_filled base top ws in
      let ascend = framed_ascends base top ws in
      let first = framed_inside base top ws o wanted r m in
      let last = framed_inside base top ws o wanted s n in
      let own = all_at (InFrame base top) k wanted in
      let some : Filled (from_to r s) = pair_filled r s first.1 last.1 turn in
      let common = meets_number w (from_to r s) own.1 some in (
        λ t. let v = common.0 t in
            let run = framed_covers base top ws v.0 (omega (arith, first.0, v.1.0)) (omega (arith, last.2, v.1.1)) in (
              run.0,
              run.1,
              begins_below all filled ascend run.0 r v.0 run.1 m run.2 v.1.0,
              ends_above all filled ascend run.0 s v.0 run.1 n run.2 v.1.1,
              (framed_meets base top ws run.0 w run.1 k v.0 run.2).1 v.2,
            ),
        λ t. let c = (both_le w.low t.0.high t.0.low w.high).0 t.4 in
            (both_le w.low s.high r.low w.high).1 (omega (arith, c.0, t.3), omega (arith, c.1, t.2)),
      )
