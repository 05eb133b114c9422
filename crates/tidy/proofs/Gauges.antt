-- A range on a gauge and its tidy form (document 02, request 7): "Pattern 22 accepts gauge 0, pattern 27 (gauge, wide low, wide
-- high) the one it names; gauge 0 is tidied to 22."
use Prim.Native.Nat.{ℕ, ◌≤◌}
use mathlib.Core.Path.{◌≡◌, refl}
use native.Mathlib.Omega.{arith}
use lib.Dec.{eqb, eqb→eq}
use Rattle.basics.proofs.Booleans.{cond_false, cond_by}
use Rattle.terms.specs.Term.{Wide, on_gauge, gauge_of, value_of}
use Rattle.terms.specs.Pattern.{Pattern, the_range, the_gauged}
use Rattle.terms.proofs.Gauges.{gauge_of_number, value_of_number}
use Rattle.tidy.specs.TidyRule.{tidy_gauged}

-- On gauge 0 it becomes a range,
pub tidy_gauge_0 : (l h : ℕ) → tidy_gauged 0 l h ≡ the_range l h
tidy_gauge_0 l h = refl

-- and on another gauge it stays.
pub other_gauge_stays : (g l h : ℕ) → (g ≡ 0 → ⊥) → tidy_gauged g l h ≡ the_gauged g l h
other_gauge_stays g l h other = cond_false (eqb g 0) (the_range l h) (the_gauged g l h) (λ t. other (eqb→eq g 0 t))

-- What is the same of a range and of that range on gauge 0 is the same of a range on a gauge and its tidy form.
pub gauge_kept
    : {A : Type 0} (f : Pattern → A) (g l h : ℕ) → (g ≡ 0 → f (the_range l h) ≡ f (the_gauged g l h))
    → f (tidy_gauged g l h) ≡ f (the_gauged g l h)
gauge_kept f g l h same =
    cond_by (λ (p : Pattern). f p ≡ f (the_gauged g l h)) (eqb g 0) (λ t. same (eqb→eq g 0 t)) (λ t. refl)

-- The tidy form that accepts the numbers from l to h, which are on one gauge: by their gauge and their values.
abbrev pub range_on : ℕ → ℕ → Pattern
range_on l h = tidy_gauged (gauge_of l) (value_of l) (value_of h)

-- That of a range,
pub range_on_0 : (l h : ℕ) → l ≤ h → Wide h → range_on l h ≡ the_range l h
range_on_0 l h ordered wide =
    let gauge : gauge_of l ≡ 0 = omega arith in
    let low : value_of l ≡ l = omega arith in
    let high : value_of h ≡ h = omega arith in
    λ i. tidy_gauged (gauge i) (low i) (high i)

-- and of a range on a gauge.
pub range_on_lem : (g l h : ℕ) → l ≤ h → Wide h → range_on (on_gauge g l) (on_gauge g h) ≡ tidy_gauged g l h
range_on_lem g l h ordered wide =
    let low : Wide l = omega arith in
    λ i. tidy_gauged (gauge_of_number g l low i) (value_of_number g l low i) (value_of_number g h wide i)
