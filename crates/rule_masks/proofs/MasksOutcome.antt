-- The outcome of all tests made, off the masks.
use Prim.Native.Nat.{ℕ, ◌<◌}
use mathlib.Core.Path.{◌≡◌, refl, sym, ap, ◌∙◌}
use mathlib.Core.Bool.{Bool, true, false, ◌||◌, or-true, cond}
use mathlib.Core.List.{List, [], ◌∷◌, map}
use native.Mathlib.Omega.{arith}
use borrow.Author.Tests.{eq-eqb, ne_eqb}
use lib.Dec.{eqb}
use Rattle.masks.specs.Mask.{has}
use Rattle.masks.proofs.Membership.{has_pos}
use Rattle.masks.proofs.Extensionality.{has_mask_of}
use Rattle.basics.specs.Lists.{All}
use Rattle.terms.specs.Outcome.{Outcome, holds, not_known, contradicted, ◌and◌, together}
use Rattle.sheet_tests.specs.SheetTests.{Test}
use Rattle.plain.proofs.Gathering.{and_assoc, and_holds}
use Rattle.rule_masks.specs.declared.Masks.{Masks}
use Rattle.rule_masks.specs.views.TestNumbers.{with_if}
use Rattle.rule_masks.specs.views.RuleMasks.{Made, made, with_made, after_all}
use Rattle.rule_masks.proofs.OneMask.{number}

-- "One contradicted gives fail, all holding gives commit i, else execute i."
abbrev pub masks_outcome : Masks → Outcome
masks_outcome m = cond (eqb m.contradicted 0) (cond (eqb m.unknown 0) holds not_known) contradicted

-- A set with a test is not empty.
some_test : (set t : ℕ) → t < 64 → eqb (with_if true set t) 0 ≡ false
some_test set t h =
    let there : has (with_if true set t) t ≡ true =
    has_mask_of 64 (λ (j : ℕ). has set j || eqb t j) t h
    ∙ ap (λ (b : Bool). has set t || b) (eq-eqb t t refl)
    ∙ or-true (has set t) in
    ne_eqb (with_if true set t) 0 (λ e. let z : ⊥ = omega (arith, e, has_pos (with_if true set t) t there) in z)

and_contradicted : (x : Outcome) → contradicted ≡ ◌and◌ x contradicted
and_contradicted holds = refl
and_contradicted not_known = refl
and_contradicted contradicted = refl

not_known_more : (a b : Bool) → cond a not_known contradicted ≡ ◌and◌ (cond a (cond b holds not_known) contradicted) not_known
not_known_more true true = refl
not_known_more true false = refl
not_known_more false b = refl

module _ (tests : List Test) where
  -- One test more,
  outcome_more
      : (m : Masks) (x : Made) → number tests x < 64 → masks_outcome (with_made tests m x) ≡ ◌and◌ (masks_outcome m) x.outcome
  outcome_more m x h = go x.outcome
    where
      go : (o : Outcome) → masks_outcome (with_made tests m (made x.code o)) ≡ ◌and◌ (masks_outcome m) o
      go holds = sym (and_holds (masks_outcome m))
      go not_known =
          ap (λ (b : Bool). cond (eqb m.contradicted 0) (cond b holds not_known) contradicted)
          (some_test m.unknown (number tests x) h)
          ∙ not_known_more (eqb m.contradicted 0) (eqb m.unknown 0)
      go contradicted =
          ap (λ (b : Bool). cond b (cond (eqb m.unknown 0) holds not_known) contradicted)
          (some_test m.contradicted (number tests x) h)
          ∙ and_contradicted (masks_outcome m)

  -- and those of a list.
  pub outcome_after
      : (xs : List Made) (m : Masks) → All (λ (x : Made). number tests x < 64) xs
      → masks_outcome (after_all tests xs m) ≡ ◌and◌ (masks_outcome m) (together (λ (x : Made). x.outcome) xs)
  outcome_after [] m a = sym (and_holds (masks_outcome m))
  outcome_after (x ∷ xs) m a =
      let rest = together (λ (y : Made). y.outcome) xs in
      outcome_after xs (with_made tests m x) a.1
      ∙ ap (λ (o : Outcome). ◌and◌ o rest) (outcome_more m x a.0)
      ∙ and_assoc (masks_outcome m) x.outcome rest

-- The outcome of things that are made tests.
pub together_map
    : {A : Type 0} (f : A → Made) (xs : List A)
    → together (λ (x : Made). x.outcome) (map f xs) ≡ together (λ (x : A). (f x).outcome) xs
together_map f [] = refl
together_map f (x ∷ xs) = ap (◌and◌ (f x).outcome) (together_map f xs)
