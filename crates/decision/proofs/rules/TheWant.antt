-- What a rule wants at a place: a rule of an accepted sheet has at most one place test for each place, and `want_in` finds
-- it, or none where the rule tests nothing there.
use Prim.Native.Nat.{ℕ, suc, ◌<◌}
use mathlib.Core.Path.{◌≡◌, refl, sym, subst}
use mathlib.Core.Bool.{Bool, true, false, not}
use mathlib.Core.Logic.{◌↔◌}
use mathlib.Core.List.{List}
use mathlib.Core.Option.{Option, some, none}
use lib.Dec.{T}
use lib.ListN.{length}
use Rattle.basics.specs.Lists.{Mem, All}
use Rattle.basics.proofs.Clash.{clash}
use Rattle.terms.specs.Pattern.{Patterns}
use Rattle.terms.specs.RuleTests.{Want, at, place_tests}
use Rattle.terms.specs.Accepted.{AcceptedRule}
use Rattle.terms.specs.Answer.{rule_at}
use Rattle.sheet_tests.specs.SheetTests.{place}
use Rattle.decision.specs.Rules.{want_in, test_at, has_test, want_at}
use Rattle.decision.proofs.cases.SwitchEdges.{wants_nothing}
use Rattle.decision.proofs.rules.TestsOfRules.{HasTest, want_test, place_wanted, want_has, has_want}
use Rattle.decision.proofs.rules.SoundWants.{rule_accepted}

module _ {arity : ℕ} {rule : Patterns} (ok : AcceptedRule arity rule) (n : ℕ) where
  -- A rule wants w at a place exactly when it has the place test for w there,
  pub the_want : (w : Want) → (want_in (place_tests rule) n ≡ some w) ↔ Mem (at n w) (place_tests rule)
  the_want w = (want_test (place_tests rule) n w, λ m. place_wanted rule ok.sound (at n w) m)

  -- and nothing exactly when it has no place test there.
  pub no_want : (want_in (place_tests rule) n ≡ none) ↔ ((w : Want) → Mem (at n w) (place_tests rule) → ⊥)
  no_want = (λ e w m. untested e w ((the_want w).1 m), λ free. unwanted free (want_in (place_tests rule) n) refl)
    where
      untested : want_in (place_tests rule) n ≡ none → (w : Want) → want_in (place_tests rule) n ≡ some w → ⊥
      untested e w d = clash (cc)

      unwanted
          : ((w : Want) → Mem (at n w) (place_tests rule) → ⊥) → (x : Option Want) → want_in (place_tests rule) n ≡ x
          → want_in (place_tests rule) n ≡ none
      unwanted free none e = e
      unwanted free (some w) e = absurd (free w ((the_want w).0 e))

-- A rule wants nothing at a place exactly if it does not have the place's test.
pub without_want
    : (arity : ℕ) (rules : List Patterns) → All (AcceptedRule arity) rules → (t n : ℕ) → test_at rules t ≡ place n → (i : ℕ)
    → i < length rules → not (has_test rules i t) ≡ wants_nothing (want_at rules i n)
without_want arity rules accepted t n is i l = go (has_test rules i t) (want_at rules i n) refl refl
  where
    rule : Patterns
    rule = rule_at rules (suc i)

    go : (b : Bool) (x : Option Want) → has_test rules i t ≡ b → want_at rules i n ≡ x → not b ≡ wants_nothing x
    go true none d e =
        let owned : HasTest rule (place n) = subst (HasTest rule) is (subst T (sym d) tt) in
        let w = has_want rule (rule_accepted arity rules accepted i l).sound n owned in
        clash (cc w.1)
    go true (some w) d e = refl
    go false none d e = refl
    go false (some w) d e = absurd (subst T d (subst (HasTest rule) (sym is) (want_has rule n w e)))
