-- What the test of a series says of a symbol: "Pattern 26 (wide low, wide high) accepts every symbol with an id from low to high."
use Prim.Native.Nat.{ℕ, ◌≤◌}
use mathlib.Core.Bool.{◌&&◌}
use mathlib.Core.Logic.{◌↔◌}
use lib.Dec.{leb}
use Rattle.basics.proofs.Numbers.{both_le}
use Rattle.terms.specs.Term.{symbol}
use Rattle.terms.specs.RuleTests.{a_symbol}
use Rattle.terms.specs.Outcome.{Holds, Contradicted, fits}
use Rattle.terms.proofs.Outcomes.{true_holds}
use Rattle.terms.proofs.KnownTests.{holds_true, contradicted_false, false_contradicted}

-- It holds at a symbol with an id from low to high,
pub series_holds_at : (l h a : ℕ) → Holds (fits (a_symbol l h) (symbol a)) ↔ ((l ≤ a) × (a ≤ h))
series_holds_at l h a =
    let both = leb l a && leb a h in
    (λ k. (both_le l a a h).0 (holds_true both k), λ k. true_holds both ((both_le l a a h).1 k))

-- and is contradicted at every other symbol.
pub series_contradicted_at : (l h a : ℕ) → Contradicted (fits (a_symbol l h) (symbol a)) ↔ ((l ≤ a) × (a ≤ h) → ⊥)
series_contradicted_at l h a =
    let both = leb l a && leb a h in (
      λ c k. contradicted_false both c ((both_le l a a h).1 k),
      λ out. false_contradicted both (λ k. out ((both_le l a a h).0 k)),
    )
