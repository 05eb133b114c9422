-- Two accepted rules have one tidy form exactly when they have the same tests, and tidying again changes nothing.
use Prim.Native.Nat.{ℕ, ◌+◌}
use mathlib.Core.Path.{◌≡◌, refl, sym, ap, subst, ◌∙◌}
use mathlib.Core.Logic.{◌↔◌}
use mathlib.Core.List.{List, [], ◌∷◌, map}
use Rattle.basics.specs.Lists.{Mem, All}
use Rattle.basics.proofs.Clash.{clash}
use Rattle.basics.proofs.Sorted.{same_members}
use Rattle.terms.specs.Pattern.{Patterns, count_patterns}
use Rattle.terms.specs.RuleTests.{patterns_range}
use Rattle.terms.specs.RuleTests.{place_tests, pair_tests, rule_variables}
use Rattle.terms.specs.Accepted.{AcceptedRule}
use Rattle.terms.proofs.TermPlaces.{extent}
use Rattle.terms.proofs.PairTests.{all_variables_ascend}
use Rattle.terms.proofs.PreorderTests.{test_place, all_tests_ascend}
use Rattle.tidy.specs.TidyRule.{tidy_rule}
use Rattle.tidy.specs.TidySheet.{SameTests, AllSameTests}
use Rattle.tidy.proofs.PairOrder.{pair_order, pairs_ascend_lem}
use Rattle.tidy.proofs.TidyTests.{tidy_tests}
use Rattle.tidy.proofs.TidyAccepted.{tidy_accepted}
use Rattle.tidy.proofs.ByPlace.{same_places}
use Rattle.tidy.proofs.Rebuild.{rebuild, rebuild_tidy}

-- The same members, both ways, of equal lists.
equal_members : {A : Type 0} {xs ys : List A} → xs ≡ ys → (x : A) → Mem x xs ↔ Mem x ys
equal_members {A} e x = (λ m. subst (λ (l : List A). Mem x l) e m, λ m. subst (λ (l : List A). Mem x l) (sym e) m)

module _ (arity : ℕ) (rule other : Patterns) (accepted : AcceptedRule arity rule) (also : AcceptedRule arity other) where
  -- The same tests as sets are the same as lists: both kinds ascend.
  pub same_lists : SameTests rule other → (place_tests rule ≡ place_tests other) × (pair_tests rule ≡ pair_tests other)
  same_lists same = (
    same_places test_place 0 (end rule) 0 (end other) (place_tests rule) (place_tests other)
        (all_tests_ascend (patterns_range rule) rule 4 0 accepted.sound)
        (all_tests_ascend (patterns_range other) other 4 0 also.sound)
        (λ x. (same.0 x).0) (λ x. (same.0 x).1),
    same_members pair_order (pair_tests rule) (pair_tests other)
        (pairs_ascend_lem 0 (end rule) (rule_variables rule) (all_variables_ascend rule 4 0 accepted.sound))
        (pairs_ascend_lem 0 (end other) (rule_variables other) (all_variables_ascend other 4 0 also.sound))
        (λ x. (same.1 x).0) (λ x. (same.1 x).1),
  )
    where
      end : Patterns → ℕ
      end r = 0 + extent (count_patterns r) 4

  -- "Equal .. exactly when they have .. the same tests", of a rule.
  pub tidy_rule_exactly : (tidy_rule rule ≡ tidy_rule other) ↔ SameTests rule other
  tidy_rule_exactly = (forth, back)
    where
      forth : tidy_rule rule ≡ tidy_rule other → SameTests rule other
      forth e =
          let (places, pairs) = tidy_tests arity rule accepted in
          let (others, twos) = tidy_tests arity other also in
          (equal_members (sym places ∙ ap place_tests e ∙ others), equal_members (sym pairs ∙ ap pair_tests e ∙ twos))

      back : SameTests rule other → tidy_rule rule ≡ tidy_rule other
      back same =
          let (places, pairs) = same_lists same in
          sym (rebuild_tidy arity rule accepted) ∙ (λ i. rebuild arity (places i) (pairs i)) ∙ rebuild_tidy arity other also

-- "Tidying a tidy sheet changes no byte", of a rule.
pub tidy_rule_twice : (arity : ℕ) (rule : Patterns) → AcceptedRule arity rule → tidy_rule (tidy_rule rule) ≡ tidy_rule rule
tidy_rule_twice arity rule accepted =
    let (places, pairs) = tidy_tests arity rule accepted in
    sym (rebuild_tidy arity (tidy_rule rule) (tidy_accepted arity rule accepted))
    ∙ (λ i. rebuild arity (places i) (pairs i))
    ∙ rebuild_tidy arity rule accepted

-- The same, rule for rule:
pub tidy_rules_exactly
    : (arity : ℕ) (rules others : List Patterns) → All (AcceptedRule arity) rules → All (AcceptedRule arity) others
    → (map tidy_rule rules ≡ map tidy_rule others) ↔ AllSameTests rules others
tidy_rules_exactly arity rules others accepted also = (forth rules others accepted also, back rules others accepted also)
  where
    forth
        : (rs qs : List Patterns) → All (AcceptedRule arity) rs → All (AcceptedRule arity) qs
        → map tidy_rule rs ≡ map tidy_rule qs → AllSameTests rs qs
    forth [] [] a b e = tt
    forth [] (q ∷ qs) a b e = clash cc
    forth (r ∷ rs) [] a b e = clash cc
    forth (r ∷ rs) (q ∷ qs) a b e =
        let first : tidy_rule r ≡ tidy_rule q = cc in
        let rest : map tidy_rule rs ≡ map tidy_rule qs = cc in
        ((tidy_rule_exactly arity r q a.0 b.0).0 first, forth rs qs a.1 b.1 rest)

    back
        : (rs qs : List Patterns) → All (AcceptedRule arity) rs → All (AcceptedRule arity) qs
        → AllSameTests rs qs → map tidy_rule rs ≡ map tidy_rule qs
    back [] [] a b same = refl
    back [] (q ∷ qs) a b same = absurd same
    back (r ∷ rs) [] a b same = absurd same
    back (r ∷ rs) (q ∷ qs) a b same =
        let first = (tidy_rule_exactly arity r q a.0 b.0).1 same.0 in
        let rest = back rs qs a.1 b.1 same.1 in
        λ i. first i ∷ rest i

-- tidy rules are accepted,
pub tidy_rules_accepted
    : (arity : ℕ) (rules : List Patterns) → All (AcceptedRule arity) rules → All (AcceptedRule arity) (map tidy_rule rules)
tidy_rules_accepted arity [] a = tt
tidy_rules_accepted arity (r ∷ rs) a = (tidy_accepted arity r a.0, tidy_rules_accepted arity rs a.1)

-- are their own tidy forms,
pub tidy_rules_twice
    : (arity : ℕ) (rules : List Patterns) → All (AcceptedRule arity) rules → map tidy_rule (map tidy_rule rules) ≡ map tidy_rule rules
tidy_rules_twice arity [] a = refl
tidy_rules_twice arity (r ∷ rs) a =
    let first = tidy_rule_twice arity r a.0 in
    let rest = tidy_rules_twice arity rs a.1 in
    λ i. first i ∷ rest i

-- and have the old tests.
pub tidy_rules_tests
    : (arity : ℕ) (rules : List Patterns) → All (AcceptedRule arity) rules
    → (map place_tests (map tidy_rule rules) ≡ map place_tests rules) × (map pair_tests (map tidy_rule rules) ≡ map pair_tests rules)
tidy_rules_tests arity [] a = (refl, refl)
tidy_rules_tests arity (r ∷ rs) a =
    let (places, pairs) = tidy_tests arity r a.0 in
    let (more, others) = tidy_rules_tests arity rs a.1 in
    (λ i. places i ∷ more i, λ i. pairs i ∷ others i)
