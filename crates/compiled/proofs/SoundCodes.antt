-- What the rules of an accepted sheet want is sound for codes.
use Prim.Native.Nat.{ℕ, suc, ◌<◌}
use mathlib.Core.Path.{◌≡◌, sym, ap, ◌∙◌}
use mathlib.Core.List.{List, [], ◌∷◌}
use mathlib.Core.Logic.{by_cases}
use mathlib.Core.Option.{some}
use native.Mathlib.Decide.{dec_lt}
use native.Mathlib.Omega.{arith}
use lib.ListN.{length, get_or-eq_default}
use Rattle.basics.specs.Lists.{All}
use Rattle.basics.proofs.Clash.{clash}
use Rattle.basics.proofs.ListLaws.{all_at}
use Rattle.terms.specs.Pattern.{Patterns, pnil}
use Rattle.terms.specs.RuleTests.{Want, place_tests}
use Rattle.terms.specs.Answer.{rule_at}
use Rattle.terms.specs.Accepted.{AcceptedRule}
use Rattle.decision.specs.Rules.{want_at}
use Rattle.decision.proofs.rules.TestsOfRules.{want_test}
use Rattle.decision.proofs.rules.SoundWants.{SoundTest, rule_tests_sound, rule_accepted}
use Rattle.codes.specs.views.Codes.{SoundWant}

-- What a rule wants is sound; beyond the rules nothing is wanted.
pub rules_sound
    : (arity : ℕ) (rules : List Patterns) → All (AcceptedRule arity) rules → (i n : ℕ) (w : Want) → want_at rules i n ≡ some w
    → SoundWant w
rules_sound arity rules accepted i n w e =
    let rule = rule_at rules (suc i) in
    by_cases (dec_lt i (length rules))
    (λ (h : i < length rules).
    let sound = rule_tests_sound rule (rule_accepted arity rules accepted i h) in
    all_at SoundTest (want_test (place_tests rule) n w e) sound)
    (λ (h : i < length rules → ⊥).
    let empty : rule ≡ pnil = get_or-eq_default rules pnil (omega arith) in
    let d : want_at (pnil ∷ []) 0 n ≡ some w = sym (ap (λ (r : Patterns). want_at (r ∷ []) 0 n) empty) ∙ e in
    clash (cc))
