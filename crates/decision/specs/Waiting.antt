-- What the wait sentence starts from (document 02, request 8): "while each listed place keeps what it held and each listed pair is
-- still not known, a piece filled in further suspends". It "now speaks of built graphs only, as another maker's cases may cut
-- inside a range, and asks that listed places keep the unknown or span that they held" (request 4).
use Rattle.std.specs.Prelude.{ℕ, ◌<◌, ◌≡◌, List, T, length}
use Rattle.masks.specs.Mask.{has}
use Rattle.terms.specs.Term.{Terms}
use Rattle.terms.specs.Pattern.{Patterns}
use Rattle.terms.specs.RuleTests.{both}
use Rattle.terms.specs.Lookup.{term_at}
use Rattle.terms.specs.Outcome.{NotKnown, pair_outcome}
use Rattle.sheet_tests.specs.SheetTests.{Test, place, pair, sheet_tests}
use Rattle.decision.specs.Rules.{test_at}

-- t is the number of a test: "The sheet's tests are its distinct tested places ascending, then its distinct pairs ascending by p,
-- then q, numbered from 0."
abbrev pub IsTest : List Patterns → ℕ → Type 0
IsTest rules t = t < length (sheet_tests rules)

-- "Listed places keep the unknown or span that they held", a "pair is still not known".
abbrev pub Kept : Terms → Terms → Test → Type 0
Kept piece further (place n) = term_at further n ≡ term_at piece n
Kept piece further (pair p q) = NotKnown (pair_outcome further (both p q))

-- "Each listed place keeps what it held and each listed pair is still not known", "test t being bit t of 64".
abbrev pub ListedKept : List Patterns → ℕ → Terms → Terms → Type 0
ListedKept rules waits piece further = (t : ℕ) → IsTest rules t → T (has waits t) → Kept piece further (test_at rules t)
