-- The number of a test in a list.
use Prim.Native.Nat.{ℕ, zero, suc, ◌<◌}
use mathlib.Core.Path.{◌≡◌, refl, sym, subst, ◌∙◌}
use mathlib.Core.Bool.{Bool, true, false, cond}
use mathlib.Core.Logic.{inl, inr}
use mathlib.Core.List.{List, [], ◌∷◌}
use native.Mathlib.Omega.{arith}
use borrow.Author.Tests.{eq-eqb, ne_eqb}
use lib.Dec.{T, eqb, eqb-suc-suc}
use lib.ListN.{length, get_or}
use Rattle.basics.specs.Lists.{Mem}
use Rattle.basics.proofs.ListLaws.{mem_cases, mem_none, all_at, all_map}
use Rattle.basics.proofs.Sorted.{Ascending}
use Rattle.sheet_tests.specs.SheetTests.{Test, before, sheet_tests, all_tests}
use Rattle.sheet_tests.proofs.TestOrder.{before_order, ascending_ascends}
use Rattle.terms.specs.Pattern.{Patterns}
use Rattle.decision.specs.Rules.{same_test}
use Rattle.decision.proofs.rules.TestsOfRules.{same_test_lem, test_same}
use Rattle.rule_masks.specs.views.TestNumbers.{test_number, Once}
use Rattle.basics.proofs.Positions.{mem_at}

-- A choice by cases, with what the test said.
by_choice : {A : Type 0} (Q : A → Type 0) (b : Bool) {x y : A} → (b ≡ true → Q x) → (b ≡ false → Q y) → Q (cond b x y)
by_choice Q true f g = f refl
by_choice Q false f g = g refl

module _ (t : Test) where
  same_mem : (u : Test) (us : List Test) → Mem t (u ∷ us) → same_test u t ≡ false → Mem t us
  same_mem u us m f =
      elim (mem_cases m) [
        | inl e ↦ absurd (subst T f (subst (λ (v : Test). T (same_test v t)) e (test_same t)))
        | inr k ↦ k
      ]

  -- A test that stands in a list has a number there,
  pub number_there : (ts : List Test) → Mem t ts → test_number ts t < length ts
  number_there [] m = absurd (mem_none m)
  number_there (u ∷ us) m =
      by_choice (λ (k : ℕ). k < suc (length us)) (same_test u t) (λ e. omega arith)
      (λ e. omega (arith, number_there us (same_mem u us m e)))

  module _ (d : Test) where
    -- which, where each test stands in the list once, is the number of that test and of no other.
    pub number_at
        : (ts : List Test) → Once ts → Mem t ts → (i : ℕ) → i < length ts → eqb (test_number ts t) i ≡ same_test (get_or ts i d) t
    number_at [] once m i h = absurd (mem_none m)
    number_at (u ∷ us) once m zero h =
        by_choice (λ (k : ℕ). eqb k 0 ≡ same_test u t) (same_test u t) (λ e. eq-eqb 0 0 refl ∙ sym e)
        (λ e. ne_eqb (suc (test_number us t)) 0 (λ k. omega arith) ∙ sym e)
    number_at (u ∷ us) once m (suc i) h =
        by_choice (λ (k : ℕ). eqb k (suc i) ≡ same_test (get_or us i d) t) (same_test u t)
        (λ e. ne_eqb 0 (suc i) (λ k. omega arith) ∙ sym (other (same_test (get_or us i d) t) refl (same_test_lem u t (subst T (sym e) tt))))
        (λ e. eqb-suc-suc (test_number us t) i ∙ number_at us once.1 (same_mem u us m e) i (omega arith))
      where
        other : (b : Bool) → same_test (get_or us i d) t ≡ b → u ≡ t → b ≡ false
        other true e is =
            let same = same_test_lem (get_or us i d) t (subst T (sym e) tt) in
            absurd (all_at (λ (v : Test). u ≡ v → ⊥) (mem_at d us i (omega arith)) once.0 (is ∙ sym same))
        other false e is = refl

-- The tests of a sheet stand in their list once.
ascending_once : (ts : List Test) → Ascending before ts → Once ts
ascending_once [] a = tt
ascending_once (t ∷ ts) a = (
  all_map (λ (u : Test). T (before t u)) (λ (u : Test). t ≡ u → ⊥)
      (λ u h e. before_order.irreflexive t (subst (λ (v : Test). T (before t v)) (sym e) h)) ts a.0,
  ascending_once ts a.1,
)

pub sheet_once : (rules : List Patterns) → Once (sheet_tests rules)
sheet_once rules = ascending_once (sheet_tests rules) (ascending_ascends (all_tests rules))
