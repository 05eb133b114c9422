-- Outcomes gathered one after another.
use mathlib.Core.Path.{◌≡◌, refl, sym, ap, ◌∙◌}
use mathlib.Core.List.{List, [], ◌∷◌, ◌++◌}
use Rattle.basics.specs.Lists.{All}
use Rattle.terms.specs.Outcome.{Outcome, holds, not_known, contradicted, ◌and◌, together}
use Rattle.outcomes.proofs.HeldTerms.{with_contradicted}

-- Three outcomes together, taken in either order.
pub and_assoc : (x y z : Outcome) → ◌and◌ (◌and◌ x y) z ≡ ◌and◌ x (◌and◌ y z)
and_assoc holds y z = refl
and_assoc not_known holds z = refl
and_assoc not_known not_known holds = refl
and_assoc not_known not_known not_known = refl
and_assoc not_known not_known contradicted = refl
and_assoc not_known contradicted z = refl
and_assoc contradicted y z = refl

-- One that holds adds nothing.
pub and_holds : (x : Outcome) → ◌and◌ x holds ≡ x
and_holds holds = refl
and_holds not_known = refl
and_holds contradicted = refl

-- The outcomes of two lists of tests.
pub together_append
    : {A : Type 0} (f : A → Outcome) (xs ys : List A) → together f (xs ++ ys) ≡ ◌and◌ (together f xs) (together f ys)
together_append f [] ys = refl
together_append f (x ∷ xs) ys =
    ap (◌and◌ (f x)) (together_append f xs ys) ∙ sym (and_assoc (f x) (together f xs) (together f ys))

-- Tests that have the same outcomes have it together.
pub together_same
    : {A : Type 0} (f g : A → Outcome) (xs : List A) → All (λ (x : A). f x ≡ g x) xs → together f xs ≡ together g xs
together_same f g [] h = refl
together_same f g (x ∷ xs) h = λ i. ◌and◌ (h.0 i) (together_same f g xs h.1 i)

-- What is gathered, x next and the rest left make up all.
module _ (gathered x rest : Outcome) {all : Outcome} (left : ◌and◌ gathered (◌and◌ x rest) ≡ all) where
  -- With x gathered the rest is left.
  pub gathered_more : ◌and◌ (◌and◌ gathered x) rest ≡ all
  gathered_more = and_assoc gathered x rest ∙ left

  -- A contradicted x is the outcome of all.
  pub gathered_stops : x ≡ contradicted → x ≡ all
  gathered_stops e =
      e ∙ sym (ap (λ y. ◌and◌ gathered (◌and◌ y rest)) e ∙ with_contradicted gathered) ∙ left

-- Where nothing is left, all is gathered.
pub gathered_all : (gathered rest : Outcome) {all : Outcome} → rest ≡ holds → ◌and◌ gathered rest ≡ all → gathered ≡ all
gathered_all gathered rest none left = sym (ap (◌and◌ gathered) none ∙ and_holds gathered) ∙ left
