-- Ranges on gauges (document 02, request 7): which gauges a list of ranges is on, and which of the ranges are on a gauge.
use Prim.Native.Nat.{ℕ, suc, ◌≤◌, ◌<◌}
use mathlib.Core.Path.{◌≡◌, refl, sym}
use mathlib.Core.Logic.{◌↔◌, inl, inr}
use mathlib.Core.List.{List, [], ◌∷◌}
use native.Mathlib.Omega.{arith}
use lib.Dec.{eqb→eq}
use Rattle.basics.specs.Lists.{Mem, here, there, All, filter}
use Rattle.basics.proofs.ListLaws.{all_at, all_from, mem_cases, mem_none}
use Rattle.basics.proofs.Filters.{mem_filter, filter_mem}
use Rattle.basics.proofs.Numbers.{eq_true}
use Rattle.basics.proofs.Sorted.{AscendingBy as Ascending}
use Rattle.terms.specs.Term.{on_gauge, gauge_of}
use Rattle.terms.specs.RuleTests.{Range}
use Rattle.decision.specs.Runs.{gauges_of, is_on}
use Rattle.decision.proofs.cases.Insertion.{number_inserted}
use Rattle.decision.proofs.cases.RangeOrder.{Filled}
use Rattle.decision.proofs.cases.FramedRuns.{InFrame}

-- The range has a number, and all of its numbers are on one gauge.
abbrev pub OneGauge : Range → Type 0
OneGauge w = Filled w × (gauge_of w.low ≡ gauge_of w.high)

-- It is on gauge g: from the first number of the gauge up to that of the next.
abbrev pub OnGauge : ℕ → Range → Type 0
OnGauge g w = InFrame (on_gauge g 0) (on_gauge (suc g) 0) w

pub gauge_order : (g : ℕ) → on_gauge g 0 ≤ on_gauge (suc g) 0
gauge_order g = omega arith

-- It is on the gauge of its low, which is that of its high.
pub on_gauge_lem : (g : ℕ) (w : Range) → OnGauge g w ↔ (OneGauge w × (gauge_of w.low ≡ g))
on_gauge_lem g w = (
  λ k. ((k.1, omega (arith, k.0, k.1, k.2)), omega (arith, k.0, k.1, k.2)),
  λ k. (omega (arith, k.1), k.0.0, omega (arith, k.0.1, k.1)),
)

-- Two such ranges with a common number are on one gauge.
pub common_gauge
    : (v w : Range) → OneGauge v → OneGauge w → v.low ≤ w.high → w.low ≤ v.high → gauge_of v.low ≡ gauge_of w.low
common_gauge v w a b h k = omega (arith, a.0, a.1, b.0, b.1)

-- A number is on a gauge exactly when it lies from its first number up to the next gauge's.
pub number_on : (g v : ℕ) → (gauge_of v ≡ g) ↔ ((on_gauge g 0 ≤ v) × (v < on_gauge (suc g) 0))
number_on g v = (λ e. (omega arith, omega arith), λ k. omega (arith, k.0, k.1))

-- A gauge is one of the list exactly when a range is on it,
pub gauge_listed : (ws : List Range) (g : ℕ) → Mem g (gauges_of ws) ↔ ((w : Range) × Mem w ws × (gauge_of w.low ≡ g))
gauge_listed [] g = (λ m. absurd (mem_none m), λ k. absurd (mem_none k.1))
gauge_listed (v ∷ ws) g =
    let first = (number_inserted (gauge_of v.low) (gauges_of ws)).members g in
    let others = gauge_listed ws g in (
      λ m. elim (first.0 m) [
        | inl e ↦ (v, here, sym e)
        | inr k ↦ (let own = others.0 k in (own.0, there own.1, own.2))
      ],
      λ k. first.1 (elim (mem_cases k.1) [
        | inl e ↦ inl (rw (← k.2, e) refl)
        | inr m ↦ inr (others.1 (k.0, m, k.2))
      ]),
    )

-- and the gauges ascend.
pub gauges_ascend : (ws : List Range) → Ascending ◌<◌ (gauges_of ws)
gauges_ascend [] = tt
gauges_ascend (w ∷ ws) = (number_inserted (gauge_of w.low) (gauges_of ws)).ascends (gauges_ascend ws)

module _ (ws : List Range) (g : ℕ) where
  -- The ranges on gauge g.
  abbrev pub ranges_on : List Range
  ranges_on = filter (is_on g) ws

  pub range_on_lem : (w : Range) → Mem w ranges_on ↔ (Mem w ws × (gauge_of w.low ≡ g))
  range_on_lem w = (
    λ m. let k = filter_mem (is_on g) ws m in (k.0, eqb→eq (gauge_of w.low) g k.1),
    λ k. mem_filter (is_on g) k.0 (eq_true (gauge_of w.low) g k.1),
  )

  pub ranges_on_lem : All OneGauge ws → All (OnGauge g) ranges_on
  ranges_on_lem one =
      all_from (OnGauge g) ranges_on
      (λ w m. let k = (range_on_lem w).0 m in (on_gauge_lem g w).1 (all_at OneGauge k.0 one, k.1))
