-- "Record 46 becomes (gauge, wide low, wide high, wide node)" (document 02, request 7): the record of a case of numbers on a gauge.
use Prim.Native.Nat.{ℕ}
use mathlib.Core.Path.{◌≡◌}
use mathlib.Core.List.{[], ◌∷◌}
use Rattle.records.specs.Fields.{wide_then}
use Rattle.terms.specs.Term.{Wide, on_gauge, gauge_of, value_of}
use Rattle.terms.proofs.Gauges.{gauge_and_value, gauge_of_number, value_of_number}
use Rattle.decision.specs.Cases.{numbers_case}
use Rattle.decision.specs.GraphBytes.{case_bytes}

-- The bytes are those of the gauge and of the values.
pub gauged_bytes
    : (g l h n : ℕ) → Wide l → Wide h
    → case_bytes (numbers_case (on_gauge g l) (on_gauge g h)) n ≡ 0x46 ∷ g ∷ wide_then l (wide_then h (wide_then n []))
gauged_bytes g l h n p q =
    let gauge = gauge_of_number g l p in
    let low = value_of_number g l p in
    let high = value_of_number g h q in
    λ i. 0x46 ∷ gauge i ∷ wide_then (low i) (wide_then (high i) (wide_then n []))

-- The case of the gauge and of the values is the case, where both ends are on the gauge.
pub gauged_case
    : (l h : ℕ) → gauge_of l ≡ gauge_of h → numbers_case (on_gauge (gauge_of l) (value_of l)) (on_gauge (gauge_of l) (value_of h)) ≡ numbers_case l h
gauged_case l h e =
    let low = gauge_and_value l in
    let high : on_gauge (gauge_of l) (value_of h) ≡ h = rw e (gauge_and_value h) in
    λ i. numbers_case (low i) (high i)
