-- Numbers on gauges (document 02, request 7): "Two numbers are now equal only if gauge and value are both equal. Pattern 22 accepts
-- gauge 0, pattern 27 (gauge, wide low, wide high) the one it names." "A span and a number on another gauge differ."
use Prim.Native.Nat.{ℕ, ◌≤◌, ◌<◌}
use mathlib.Core.Path.{◌≡◌, refl}
use mathlib.Core.Logic.{◌↔◌, inl, inr}
use native.Mathlib.Omega.{arith}
use Rattle.basics.proofs.Numbers.{le_or_lt}
use Rattle.terms.specs.Term.{number, numbers, Wide, Gauged, on_gauge, gauge_of, value_of}
use Rattle.terms.specs.RuleTests.{a_number}
use Rattle.terms.specs.Outcome.{Holds, Contradicted, fits, compare}
use Rattle.terms.specs.Filling.{WellFormed}
use Rattle.terms.proofs.Spans.{range_holds_at, range_contradicted_at, spans_equal, spans_differ}

-- A number is its value on its gauge,
pub gauge_and_value : (n : ℕ) → on_gauge (gauge_of n) (value_of n) ≡ n
gauge_and_value n = omega arith

-- and has no other gauge, and no other value there.
pub gauge_of_number : (g v : ℕ) → Wide v → gauge_of (on_gauge g v) ≡ g
gauge_of_number g v wide = omega arith

pub value_of_number : (g v : ℕ) → Wide v → value_of (on_gauge g v) ≡ v
value_of_number g v wide = omega arith

pub same_number : (g h v w : ℕ) → Wide v → Wide w → (on_gauge g v ≡ on_gauge h w) ↔ ((g ≡ h) × (v ≡ w))
same_number g h v w p q = (
  λ e. let gauge : g ≡ h = omega arith in (gauge, omega arith),
  λ k. omega (arith, k.0, k.1),
)

-- "Record 32 means gauge 0."
pub on_gauge_0 : (v : ℕ) → on_gauge 0 v ≡ v
on_gauge_0 v = omega arith

-- A byte names a gauge, and a wide field a value.
pub gauged_number : (g v : ℕ) → g < 256 → Wide v → Gauged (on_gauge g v)
gauged_number g v p q = omega arith

-- "Equal only if gauge and value are both equal."
pub equal_numbers
    : (g h v w : ℕ) → Wide v → Wide w → Holds (compare (number (on_gauge g v)) (number (on_gauge h w))) ↔ ((g ≡ h) × (v ≡ w))
equal_numbers g h v w p q =
    let one = on_gauge g v in
    let other = on_gauge h w in
    let same = same_number g h v w p q in
    (λ k. same.0 ((spans_equal one one other other).0 k).2, λ k. (spans_equal one one other other).1 (refl, refl, same.1 k))

-- Otherwise they differ.
pub unequal_numbers
    : (g h v w : ℕ) → Wide v → Wide w → ((g ≡ h) × (v ≡ w) → ⊥)
    → Contradicted (compare (number (on_gauge g v)) (number (on_gauge h w)))
unequal_numbers g h v w p q f =
    let one = on_gauge g v in
    let other = on_gauge h w in
    let differ = (spans_differ one one other other).1 in
    elim (le_or_lt other one) [
      | inr less ↦ differ (inl less)
      | inl more ↦ elim (le_or_lt one other) [
        | inr less ↦ differ (inr less)
        | inl same ↦ absurd (f ((same_number g h v w p q).0 (omega arith)))
      ]
    ]

-- "Pattern 27 .. the one it names": of that gauge the values from low to high.
pub gauge_fits
    : (g k l h v : ℕ) → Wide h → Wide v
    → Holds (fits (a_number (on_gauge g l) (on_gauge g h)) (number (on_gauge k v))) ↔ ((g ≡ k) × (l ≤ v) × (v ≤ h))
gauge_fits g k l h v p q =
    let holds_at = range_holds_at (on_gauge g l) (on_gauge g h) (on_gauge k v) (on_gauge k v) in (
      λ t. let s = holds_at.0 t in
          let gauge : g ≡ k = omega (arith, s.0, s.1) in
          (gauge, omega (arith, s.0), omega (arith, s.1)),
      λ t. holds_at.1 (omega (arith, t.0, t.1), omega (arith, t.0, t.2)),
    )

-- Everything else contradicts it.
pub gauge_misfits
    : (g k l h v : ℕ) → Wide h → Wide v → ((g ≡ k) × (l ≤ v) × (v ≤ h) → ⊥)
    → Contradicted (fits (a_number (on_gauge g l) (on_gauge g h)) (number (on_gauge k v)))
gauge_misfits g k l h v p q f =
    let low = on_gauge g l in
    let high = on_gauge g h in
    let n = on_gauge k v in
    let out = (range_contradicted_at low high n n (omega arith)).1 in
    elim (le_or_lt low n) [
      | inr below ↦ out (inl below)
      | inl above ↦ elim (le_or_lt n high) [
        | inr beyond ↦ out (inr beyond)
        | inl within ↦ absurd (f ((gauge_fits g k l h v p q).0 ((range_holds_at low high n n).1 (above, within))))
      ]
    ]

-- "A span and a number on another gauge differ."
pub other_gauge_differs : (a b g v : ℕ) → Wide b → 1 ≤ g → Contradicted (compare (numbers a b) (number (on_gauge g v)))
other_gauge_differs a b g v p q = (spans_differ a b (on_gauge g v) (on_gauge g v)).1 (inl (omega arith))

-- A well-formed number or span is on one gauge.
pub one_gauge : (a b : ℕ) → WellFormed (numbers a b) → gauge_of a ≡ gauge_of b
one_gauge a b ok = elim ok.2 [ inl e ↦ omega arith | inr w ↦ omega (arith, ok.0) ]

-- "Ranges on variables .. keep to gauge 0": a number on another gauge contradicts one.
pub other_gauge_contradicts
    : (l h g v : ℕ) → Wide h → 1 ≤ g → Contradicted (fits (a_number l h) (number (on_gauge g v)))
other_gauge_contradicts l h g v p q = (range_contradicted_at l h (on_gauge g v) (on_gauge g v) (omega arith)).1 (inr (omega arith))
