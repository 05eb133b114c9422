-- What is kept in a piece filled in further, and what that does to the rules: where a right walk suspends and each test that it
-- met not known, for a rule that is open or whatever a rule wants, is kept, a rule that is settled there stays open. Each test of
-- it was met, or is hidden below an unknown that was met: none that was met becomes contradicted, and none below an unknown is
-- firm.
use Prim.Native.Nat.{ℕ, suc, ◌<◌}
use mathlib.Core.Path.{◌≡◌, ap, sym, subst}
use mathlib.Core.Logic.{◌⊎◌, inl, inr}
use mathlib.Core.List.{List}
use mathlib.Core.Option.{Option}
use native.Mathlib.Omega.{arith}
use lib.Dec.{T}
use lib.ListN.{length}
use Rattle.basics.specs.Lists.{All}
use Rattle.basics.proofs.ListLaws.{all_at}
use Rattle.terms.specs.Term.{Terms, unknown, never, symbol, numbers, compound}
use Rattle.terms.specs.Pattern.{Patterns}
use Rattle.terms.specs.RuleTests.{Want, PlaceTest, PairTest, at, both, place_tests}
use Rattle.terms.specs.Lookup.{Found, lacking, found, term_at}
use Rattle.terms.specs.Outcome.{Outcome, holds, not_known, contradicted, NotKnown, Contradicted}
use Rattle.terms.specs.Outcome.{fits, at_place, place_outcome, pair_outcome, rule_outcome}
use Rattle.terms.specs.Filling.{FilledFurther}
use Rattle.terms.specs.Accepted.{AcceptedRule, AcceptedPiece}
use Rattle.terms.specs.Answer.{rule_at}
use Rattle.terms.specs.Answer as answers
use Rattle.terms.specs.Right.{Right}
use Rattle.terms.proofs.Unknown.{IsUnknown}
use Rattle.terms.proofs.Outcomes.{Open, open_or_contradicted, holds_contradicted, Stays}
use Rattle.terms.proofs.RuleOutcomes.{NoneContradicted, outcome_open}
use Rattle.terms.proofs.Stays.{place_stays, pair_stays}
use Rattle.terms.proofs.Plain.{rules_say}
use Rattle.terms.proofs.Verdict.{right_suspend}
use Rattle.sheet_tests.specs.SheetTests.{Test, place, pair}
use Rattle.decision.specs.Rules.{test_at, has_test}
use Rattle.decision.specs.Key.{suspend_node, leaf}
use Rattle.decision.specs.Walk.{is_unknown, test_not_known, want_outcome, test_outcome}
use Rattle.decision.specs.Waiting.{Kept}
use Rattle.decision.proofs.rules.TestsOfRules.{want_test, has_pair_lem}
use Rattle.decision.proofs.keys.Vertices.{Settled}
use Rattle.decision.proofs.elimination.LocalFacts.{Firm, differ_contradicted, settled_not_firm}
use Rattle.decision.proofs.elimination.FirmTests.{dead_test}
use Rattle.decision.proofs.elimination.SeenTests.{Accounted}
use Rattle.decision.proofs.elimination.RightKeys.{RightVertex}
use Rattle.decision.proofs.elimination.RightLeaves.{settled_open}

-- What is unknown passes the walk's test for it.
pub is_unknown_lem : (x : Found) → IsUnknown x → T (is_unknown x)
is_unknown_lem lacking h = h
is_unknown_lem (found unknown) h = h
is_unknown_lem (found never) h = h
is_unknown_lem (found (symbol a)) h = h
is_unknown_lem (found (numbers a b)) h = h
is_unknown_lem (found (compound a ts)) h = h

-- No outcome is not known and contradicted.
not_both : (x : Outcome) → NotKnown x → Contradicted x → ⊥
not_both holds u c = u
not_both not_known u c = c
not_both contradicted u c = u

-- What stays and is open is not contradicted afterwards, unless it was not known.
open_stays : (x y : Outcome) → Stays x y → Open x → (NotKnown x → Contradicted y → ⊥) → Contradicted y → ⊥
open_stays holds y s o unsure c = holds_contradicted y s c
open_stays not_known y s o unsure c = unsure tt c
open_stays contradicted y s o unsure c = o

module _ (rules : List Patterns) (piece : Terms) where
  -- Test t is not known for a rule that is open.
  abbrev pub NotKnownFor : ℕ → Type 0
  NotKnownFor t =
      (i : ℕ) × (i < length rules) × Open (rule_outcome (rule_at rules (suc i)) piece) × T (has_test rules i t)
      × NotKnown (test_outcome rules piece i (test_at rules t))

  -- It is so, or the test is not known whatever a rule wants.
  abbrev pub Unsure : ℕ → Type 0
  Unsure t = T (test_not_known piece (test_at rules t)) ⊎ NotKnownFor t

module _ (rules : List Patterns) {piece further : Terms} (more : FilledFurther piece further) where
  -- A test of a rule that is open is not firm afterwards, if it is kept where it was not known.
  kept_not_firm
      : (i : ℕ) → NoneContradicted (rule_at rules (suc i)) piece → (t : Test)
      → (NotKnown (test_outcome rules piece i t) → Kept piece further t) → Firm (rule_at rules (suc i)) further t → ⊥
  kept_not_firm i free (place n) kept (w, wants, against) =
      let x = at n w in
      let own = want_test (place_tests (rule_at rules (suc i))) n w wants in
      let outcome = ap (λ (o : Option Want). want_outcome o (term_at piece n)) wants in
      open_stays (place_outcome piece x) (place_outcome further x) (place_stays more x)
      (all_at (λ (y : PlaceTest). Open (place_outcome piece y)) own free.0)
      (λ unsure c.
      let same = kept (subst NotKnown (sym outcome) unsure) in
      not_both (place_outcome piece x) unsure (subst (λ (f : Found). Contradicted (at_place (fits w) f)) same c)) against
  kept_not_firm i free (pair p q) kept (own, differ) =
      let x = both p q in
      open_stays (pair_outcome piece x) (pair_outcome further x) (pair_stays more x)
      (all_at (λ (y : PairTest). Open (pair_outcome piece y)) (has_pair_lem (rule_at rules (suc i)) p q own) free.1)
      (λ unsure. not_both (pair_outcome further x) (kept unsure))
      (differ_contradicted (term_at further p) (term_at further q) differ)

  -- A place that was unknown is unknown, if it is kept.
  kept_unknown
      : (t : Test) (n : ℕ) → t ≡ place n → (T (test_not_known piece t) → Kept piece further t) → IsUnknown (term_at piece n)
      → IsUnknown (term_at further n)
  kept_unknown t n asks kept hides =
      let here : T (test_not_known piece (place n)) → Kept piece further (place n) =
      subst (λ (u : Test). T (test_not_known piece u) → Kept piece further u) asks kept in
      subst IsUnknown (sym (here (is_unknown_lem (term_at piece n) hides))) hides

module _ (arity : ℕ) (rules : List Patterns) (piece further : Terms) (accepted : All (AcceptedRule arity) rules)
    (ok : AcceptedPiece arity piece) (okFurther : AcceptedPiece arity further) (more : FilledFurther piece further)
    {Met : ℕ → Type 0} (end : RightVertex rules piece Met (leaf suspend_node))
    (kept : (t : ℕ) → Met t → Unsure rules piece t → Kept piece further (test_at rules t)) where
  -- A test accounted for, of a rule that is open, is not firm afterwards.
  accounted_not_firm
      : (i t : ℕ) → i < length rules → Open (rule_outcome (rule_at rules (suc i)) piece) → T (has_test rules i t)
      → Accounted rules piece Met t → Firm (rule_at rules (suc i)) further (test_at rules t) → ⊥
  accounted_not_firm i t l may own (inl met) firm =
      kept_not_firm rules more i ((outcome_open (rule_at rules (suc i)) piece).0 may) (test_at rules t)
      (λ unsure. kept t met (inr (i, l, may, own, unsure))) firm
  accounted_not_firm i t l may own (inr h) firm =
      let hides =
      kept_unknown rules more (test_at rules h.above) h.spot h.asks (λ u. kept h.above h.seen (inl u)) h.unknown in
      settled_not_firm (rule_at rules (suc i)) further h.spot (test_at rules t) hides h.settles firm

  -- So a rule that is settled at the end stays open.
  settled_still : (i : ℕ) → i < length rules → Settled rules end.key i → Open (rule_outcome (rule_at rules (suc i)) further)
  settled_still i l settled =
      elim (open_or_contradicted (rule_outcome rule further)) [
        | inl o ↦ o
        | inr d ↦
            let (t, own, firm) = dead_test arity rules further accepted okFurther i l d in
            elim (end.right.account i t settled.0 firm.0 own) [
              | inl p ↦ absurd (settled.1 t firm.0 p own)
              | inr a ↦ absurd (accounted_not_firm i t l may own a firm.1)
            ]
      ]
    where
      rule : Patterns
      rule = rule_at rules (suc i)

      may : Open (rule_outcome rule piece)
      may = settled_open arity rules piece accepted ok end.key end.right i settled

  -- Two rules are settled where the walk suspends, so suspend is right for the piece filled in further.
  pub suspend_still : Right rules further answers.suspend
  suspend_still =
      let two = end.means in
      right_suspend rules further okFurther.well_formed (rules_say arity rules further accepted okFurther)
      (suc two.lower) (suc two.higher) (omega arith, omega arith) (omega arith, omega arith) (λ e. omega arith)
      (settled_still two.lower (omega arith) two.at_lower) (settled_still two.higher two.below two.at_higher)
