-- What a rule adds along the numbers of the tests met, as a truth value for each test: while no test of it before is contradicted,
-- those that are not known.
use Prim.Native.Nat.{ℕ, ◌≤◌, ◌<◌}
use mathlib.Core.Path.{◌≡◌, refl, sym, ap, subst, ◌∙◌}
use mathlib.Core.Bool.{Bool, true, false, not, ◌&&◌, ◌||◌, cond, and-false, or-false}
use mathlib.Core.List.{List, [], ◌∷◌}
use native.Mathlib.Omega.{arith}
use borrow.Author.Tests.{ne_eqb}
use lib.Dec.{T, eqb}
use lib.ListN.{length, get_or}
use Rattle.masks.specs.Mask.{has}
use Rattle.masks.proofs.Extensionality.{has_mask_of}
use Rattle.basics.specs.Lists.{All, any_of, any_below}
use Rattle.basics.proofs.Booleans.{same_truth}
use Rattle.basics.proofs.Filters.{mem_any, any_mem}
use Rattle.basics.proofs.Positions.{number_of_lem, mem_at}
use Rattle.terms.specs.Pattern.{Patterns}
use Rattle.sheet.specs.views.Noted.{rule_notes}
use Rattle.sheet_tests.specs.SheetTests.{Test}
use Rattle.decision.proofs.keys.Sets.{in_any, any_in}
use Rattle.rule_masks.specs.declared.Masks.{Masks}
use Rattle.rule_masks.specs.views.TestNumbers.{with_if}
use Rattle.rule_masks.specs.views.RuleMasks.{notes_masks}
use Rattle.waiting.specs.views.SpanTests.{with_rule, with_rules}

or_join : (a b c : Bool) → (a || b) || c ≡ a || (b || c)
or_join true b c = refl
or_join false b c = refl

abbrev pub along : (ℕ → Bool) → (ℕ → Bool) → List ℕ → ℕ → Bool
along against unsure [] j = false
along against unsure (t ∷ ts) j = not (against t) && ((unsure t && eqb t j) || along against unsure ts j)

-- It goes by what is said of the numbers in the list,
pub along_same
    : (f g against unsure : ℕ → Bool) (ns : List ℕ) → All (λ t. (f t ≡ against t) × (g t ≡ unsure t)) ns → (j : ℕ)
    → along f g ns j ≡ along against unsure ns j
along_same f g against unsure [] all j = refl
along_same f g against unsure (t ∷ ts) all j =
    λ i. not (all.0.0 i) && ((all.0.1 i && eqb t j) || along_same f g against unsure ts all.1 j i)

-- and lists no other.
pub along_none
    : (against unsure : ℕ → Bool) (n : ℕ) (ns : List ℕ) → All (λ t. t < n) ns → (j : ℕ) → n ≤ j
    → along against unsure ns j ≡ false
along_none against unsure n [] all j h = refl
along_none against unsure n (t ∷ ts) all j h =
    let other : eqb t j ≡ false = ne_eqb t j (λ e. let z : ⊥ = omega (arith, e, h, all.0) in z) in
    ap (λ (b : Bool). not (against t) && b)
    ((λ i. (unsure t && other i) || along_none against unsure n ts all.1 j h i)
    ∙ ap (λ (b : Bool). b || false) (and-false (unsure t)))
    ∙ and-false (not (against t))

-- One test more.
with_has : (b : Bool) (set n t : ℕ) → t < 64 → has (with_if b set n) t ≡ has set t || (b && eqb n t)
with_has true set n t h = has_mask_of 64 (λ (k : ℕ). has set k || eqb n k) t h
with_has false set n t h = sym (or-false (has set t))

-- The set with what a rule adds has what it had, and that,
has_rule
    : (m : Masks) (ns : List ℕ) (set j : ℕ) → j < 64
    → has (with_rule m ns set) j ≡ has set j || along (has m.contradicted) (has m.unknown) ns j
has_rule m [] set j h = sym (or-false (has set j))
has_rule m (t ∷ ts) set j h =
    go (has m.contradicted t) (has_rule m ts (with_if (has m.unknown t) set t) j h)
  where
    rest : Bool
    rest = along (has m.contradicted) (has m.unknown) ts j

    go
        : (b : Bool)
        → has (with_rule m ts (with_if (has m.unknown t) set t)) j ≡ has (with_if (has m.unknown t) set t) j || rest
        → has (cond b set (with_rule m ts (with_if (has m.unknown t) set t))) j
        ≡ has set j || (not b && ((has m.unknown t && eqb t j) || rest))
    go true e = sym (or-false (has set j))
    go false e =
        e
        ∙ ap (λ (b : Bool). b || rest) (with_has (has m.unknown t) set t j h)
        ∙ or_join (has set j) (has m.unknown t && eqb t j) rest

module _ (tests : List Test) (cells ns : List ℕ) where
  abbrev pub adds : ℕ → Patterns → Bool
  adds j r =
      along (has (notes_masks tests cells (rule_notes r)).contradicted) (has (notes_masks tests cells (rule_notes r)).unknown) ns j

  -- and so for all rules.
  pub has_rules
      : (rs : List Patterns) (set j : ℕ) → j < 64 → has (with_rules tests cells ns rs set) j ≡ has set j || any_of (adds j) rs
  has_rules [] set j h = sym (or-false (has set j))
  has_rules (r ∷ rs) set j h =
      let m = notes_masks tests cells (rule_notes r) in
      has_rules rs (with_rule m ns set) j h
      ∙ ap (λ (b : Bool). b || any_of (adds j) rs) (has_rule m ns set j h)
      ∙ or_join (has set j) (adds j r) (any_of (adds j) rs)

-- Some thing of a list is one with a number.
pub any_numbered
    : {A : Type 0} (d : A) (f : A → Bool) (xs : List A) → any_of f xs ≡ any_below (length xs) (λ i. f (get_or xs i d))
any_numbered {A} d f xs =
    same_truth (any_of f xs) (any_below (length xs) (λ i. f (get_or xs i d)))
    (λ h. let m = any_mem f xs h in
    let n = number_of_lem d xs m.1 in
    in_any (length xs) n.0 (λ i. f (get_or xs i d)) n.1 (subst (λ (y : A). T (f y)) (sym n.2) m.2))
    (λ h. let r = any_in (length xs) (λ i. f (get_or xs i d)) h in mem_any f (mem_at d xs r.0 r.1) r.2)
