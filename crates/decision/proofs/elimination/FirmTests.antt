-- What the elimination asks of a sheet and a piece, over the numbers of rules and tests, both from 0: a firm test is
-- one of the rule's; a dead rule has a firm test; a test whose place is missing has a firm one that must be asked
-- before it.
use Prim.Native.Nat.{ℕ, suc, ◌<◌}
use mathlib.Core.Path.{◌≡◌}
use mathlib.Core.List.{List}
use lib.Dec.{T}
use lib.ListN.{length}
use Rattle.basics.specs.Lists.{All}
use Rattle.terms.specs.Term.{Terms}
use Rattle.terms.specs.Pattern.{Patterns}
use Rattle.terms.specs.Accepted.{AcceptedRule, AcceptedPiece}
use Rattle.terms.specs.Answer.{rule_at}
use Rattle.sheet_tests.specs.SheetTests.{Test, sheet_tests}
use Rattle.decision.specs.Rules.{test_at, has_test}
use Rattle.decision.specs.AskingOrder.{MustPrecede}
use Rattle.decision.proofs.rules.TestNumbers.{test_number_lem}
use Rattle.decision.proofs.elimination.LocalFacts.{Firm, Dead, Missing, firm_has, dead_firm, missing_firm}
use Rattle.decision.proofs.rules.SoundWants.{rule_accepted}

-- i counts a rule of the sheet from 0.
abbrev pub IsIndex : List Patterns → ℕ → Type 0
IsIndex rules i = i < length rules

module _ (rules : List Patterns) (piece : Terms) where
  -- The rule is dead,
  abbrev pub DeadRule : ℕ → Type 0
  DeadRule i = Dead (rule_at rules (suc i)) piece

  -- and the sheet's test t is firm for it.
  abbrev pub FirmTest : ℕ → ℕ → Type 0
  FirmTest i t = (t < length (sheet_tests rules)) × Firm (rule_at rules (suc i)) piece (test_at rules t)

  -- A firm test is one of the rule's.
  pub firm_own : (i t : ℕ) → FirmTest i t → T (has_test rules i t)
  firm_own i t f = firm_has (rule_at rules (suc i)) piece (test_at rules t) f.1

module _ (arity : ℕ) (rules : List Patterns) (piece : Terms)
    (accepted : All (AcceptedRule arity) rules) (ok : AcceptedPiece arity piece) where
  -- A firm test of a rule has a number.
  firm_number
      : (i : ℕ) → IsIndex rules i → (t : Test) → Firm (rule_at rules (suc i)) piece t
      → (u : ℕ) × FirmTest rules piece i u × (test_at rules u ≡ t)
  firm_number i l t f =
      let n = test_number_lem rules i l t (firm_has (rule_at rules (suc i)) piece t f) in
      (n.0, (n.1, rw n.2 f), n.2)

  -- A dead rule has a firm test.
  pub dead_test
      : (i : ℕ) → IsIndex rules i → DeadRule rules piece i
      → (t : ℕ) × T (has_test rules i t) × FirmTest rules piece i t
  dead_test i l d =
      let f = dead_firm arity (rule_at rules (suc i)) piece (rule_accepted arity rules accepted i l) ok d in
      let n = firm_number i l f.0 f.1 in
      (n.0, firm_own rules piece i n.0 n.1, n.1)

  -- A test whose place is missing has a firm one that must be asked before it.
  pub missing_test
      : (i t : ℕ) → IsIndex rules i → T (has_test rules i t) → Missing piece (test_at rules t)
      → (u : ℕ) × FirmTest rules piece i u × MustPrecede (test_at rules u) (test_at rules t)
  missing_test i t l h m =
      let f = missing_firm arity (rule_at rules (suc i)) piece (rule_accepted arity rules accepted i l) ok (test_at rules t) h m in
      let n = firm_number i l f.0 f.1 in
      (n.0, n.1, rw n.2 f.2)
