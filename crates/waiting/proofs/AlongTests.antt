-- Loops along the first things of a list: is a span met, what a rule adds, and the numbers of the tests.
use Prim.Native.Nat.{ℕ, suc, ◌+◌, ◌/◌, ◌%◌, ◌≤◌, ◌<◌}
use mathlib.Core.Path.{◌≡◌, refl, sym, ap, subst, ◌∙◌}
use mathlib.Core.Bool.{Bool, true, false, ◌||◌, cond}
use mathlib.Core.List.{List, [], ◌∷◌, ◌++◌, map}
use native.Mathlib.Numerals.{add-one}
use native.Mathlib.Decide.{ℕ_discrete}
use native.Mathlib.Omega.{arith}
use lib.ListN.{length, get_or, take, drop, set, drop_of_length-le, length-set}
use lib.Seq.{drop-cons, length-take-le, get_or-take, take-suc, take-suc-set, get_or-set_other}
use Rattle.masks.specs.Mask.{has}
use Rattle.basics.specs.Lists.{All, any_of}
use Rattle.basics.proofs.ListLaws.{all_at}
use Rattle.basics.proofs.Filters.{map_join}
use Rattle.basics.proofs.Positions.{mem_at}
use Rattle.rule_masks.specs.declared.Masks.{Masks}
use Rattle.sheet_tests.specs.SheetTests.{Test}
use Rattle.decision.specs.Rules.{same_test}
use Rattle.rule_masks.specs.views.TestNumbers.{test_number, code_test, NearTest, with_if}
use Rattle.rule_masks.proofs.CodeNumbers.{code_place_lem, code_pair_lem}
use Rattle.waiting.specs.views.SpanTests.{with_rule}

module _ (xs : List ℕ) (n : ℕ) (room : n ≤ length xs) where
  abbrev front : List ℕ
  front = take n xs

  -- None of them is left,
  pub front_done : (i : ℕ) → n ≤ i → drop i front ≡ []
  front_done i done = drop_of_length-le front {i = i} (omega (arith, length-take-le n xs room))

  module _ (i : ℕ) (more : i < n) where
    -- or one, and those behind it.
    pub front_next : drop i front ≡ get_or xs i 0 ∷ drop (i + 1) front
    front_next =
        drop-cons front i 0 (omega (arith, length-take-le n xs room))
        ∙ (λ j. get_or-take n xs i 0 more j ∷ drop (sym (add-one i) j) front)

    -- What is said of each is said of it.
    pub front_at_lem : (Q : ℕ → Type 0) → All Q front → Q (get_or xs i 0)
    front_at_lem Q all =
        subst Q (get_or-take n xs i 0 more) (all_at Q (mem_at 0 front i (omega (arith, length-take-le n xs room))) all)

    -- It is one that is sought, or that is behind it.
    pub sought_here : (f : ℕ → Bool) → f (get_or xs i 0) ≡ true → true ≡ any_of f (drop i front)
    sought_here f e = sym (ap (any_of f) front_next ∙ ap (λ (b : Bool). b || any_of f (drop (i + 1) front)) e)

    pub sought_on : (f : ℕ → Bool) → f (get_or xs i 0) ≡ false → any_of f (drop i front) ≡ any_of f (drop (i + 1) front)
    sought_on f e = ap (any_of f) front_next ∙ ap (λ (b : Bool). b || any_of f (drop (i + 1) front)) e

    -- The rule is no longer live, or it is, and the test is listed where it is not known.
    module _ (m : Masks) (set : ℕ) {t : ℕ} (here : t ≡ get_or xs i 0) where
      abbrev later : ℕ
      later = with_rule m (drop (i + 1) front) (with_if (has m.unknown t) set t)

      goes_on : with_rule m (drop i front) set ≡ cond (has m.contradicted t) set later
      goes_on =
          ap (λ (l : List ℕ). with_rule m l set) (front_next ∙ (λ j. sym here j ∷ drop (i + 1) front))

      pub rule_out : has m.contradicted t ≡ true → set ≡ with_rule m (drop i front) set
      rule_out e = sym (goes_on ∙ ap (λ (b : Bool). cond b set later) e)

      pub rule_on
          : has m.contradicted t ≡ false → (b : Bool) → has m.unknown t ≡ b → (new : ℕ) → new ≡ with_if b set t
          → with_rule m (drop (i + 1) front) new ≡ with_rule m (drop i front) set
      rule_on e b f new g =
          ap (with_rule m (drop (i + 1) front)) (g ∙ ap (λ (c : Bool). with_if c set t) (sym f))
          ∙ sym (goes_on ∙ ap (λ (c : Bool). cond c set later) e)

-- The first things of a list are changed one after another.
pub record Changed (f : ℕ → ℕ) (old : List ℕ) (i : ℕ) (xs : List ℕ) : Type 0 where
  pub entries : length xs ≡ length old
  pub changed : take i xs ≡ map f (take i old)
  pub others : (k : ℕ) → i ≤ k → get_or xs k 0 ≡ get_or old k 0

pub changed_none : (f : ℕ → ℕ) (old : List ℕ) → Changed f old 0 old
changed_none f old = record { entries = refl; changed = refl; others = λ k h. refl }

pub changed_more
    : (f : ℕ → ℕ) (old : List ℕ) (i : ℕ) (xs : List ℕ) → Changed f old i xs → i < length old → (x : ℕ) → x ≡ f (get_or xs i 0)
    → Changed f old (i + 1) (set xs i x)
changed_more f old i xs c inside x e = record {
  entries = length-set xs i x ∙ c.entries;
  changed =
      ap (λ (k : ℕ). take k (set xs i x)) (add-one i)
      ∙ take-suc-set xs i x (omega (arith, c.entries))
      ∙ (λ j. c.changed j ++ (e ∙ ap f (c.others i (omega arith))) j ∷ [])
      ∙ sym (map_join f (take i old) (get_or old i 0 ∷ []))
      ∙ ap (map f) (sym (take-suc old i 0 inside))
      ∙ ap (λ (k : ℕ). map f (take k old)) (sym (add-one i));
  others = λ k h.
      let apart : k ≡ i → ⊥ = λ same. omega (arith, same, h) in get_or-set_other xs i k x 0 apart ∙ c.others k (omega (arith, h));
}

-- The first place of a near test is its code's first half.
pub code_first_lem : (code : ℕ) → NearTest (code_test code) → code / 0x1_0000 < 680
code_first_lem code near =
    elim (ℕ_discrete (code / 0x1_0000) (code % 0x1_0000)) [
      | yes e ↦ subst NearTest (code_place_lem code e) near
      | no ne ↦ (subst NearTest (code_pair_lem code ne) near).0
    ]

-- No number in a list of tests is above their count.
pub number_most : (tests : List Test) (t : Test) → test_number tests t ≤ length tests
number_most [] t = omega arith
number_most (u ∷ us) t = go (same_test u t) (number_most us t)
  where
    go : (b : Bool) → test_number us t ≤ length us → cond b 0 (suc (test_number us t)) ≤ suc (length us)
    go true less = omega arith
    go false less = omega arith
