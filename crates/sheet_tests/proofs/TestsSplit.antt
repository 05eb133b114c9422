-- The tests of a sheet are its tested places, ascending, then its pairs, ascending.
use Prim.Native.Nat.{ℕ, ◌+◌, ◌/◌, ◌%◌, ◌<◌}
use mathlib.Core.Path.{◌≡◌, refl, sym, ap, ◌∙◌, subst}
use mathlib.Core.Bool.{Bool}
use mathlib.Core.Logic.{◌⊎◌, inl, inr, by_cases}
use mathlib.Core.List.{List, [], ◌∷◌, ◌++◌, map}
use native.Mathlib.Decide.{dec_lt}
use native.Mathlib.Omega.{arith}
use lib.Dec.{T, ltb, ltb→lt}
use lib.ListN.{length, length-append, length-map}
use Rattle.basics.specs.Lists.{Mem, here, there, All}
use Rattle.terms.specs.Pattern.{Patterns}
use Rattle.terms.specs.RuleTests.{PlaceTest, PairTest, place_tests, pair_tests}
use Rattle.basics.proofs.ListLaws.{mem_cases, mem_none, all_join, all_map, all-always}
use Rattle.basics.proofs.Sorted.{Ascending, same_members, before_pair}
use Rattle.sheet_tests.specs.SheetTests.{Test, place, pair, before, rule_tests, all_tests, sheet_tests}
use Rattle.sheet_tests.specs.views.TestedPlaces.{insert_all}
use Rattle.pairs.specs.views.KeptPairs.{pair_code}
use Rattle.sheet_tests.specs.views.KeptPairs.{code_pair}
use Rattle.pairs.specs.views.NoteVariables.{pair_codes}
use Rattle.sheet_tests.specs.views.Gathered.{rule_places, rule_codes, sheet_places, sheet_codes}
use Rattle.sheet_tests.proofs.TestOrder.{before_order, ascending_ascends, ascending_has, ascending_mem}
use Rattle.sheet_tests.proofs.NumberLists.{all_insert_has, all_insert_mem, all_insert_ascends}

module _ {A : Type 0} where
  -- What stands in a list stands in the joined list.
  mem_left : {x : A} (xs ys : List A) → Mem x xs → Mem x (xs ++ ys)
  mem_left [] ys m = absurd (mem_none m)
  mem_left {x} (y ∷ xs) ys m =
      elim (mem_cases m) [
        | inl e ↦ subst (λ (z : A). Mem z (y ∷ (xs ++ ys))) (sym e) here
        | inr k ↦ there (mem_left xs ys k)
      ]

  mem_right : {x : A} (xs ys : List A) → Mem x ys → Mem x (xs ++ ys)
  mem_right [] ys m = m
  mem_right (y ∷ xs) ys m = there (mem_right xs ys m)

  -- What stands in the joined list stands in one of the two.
  mem_either : {x : A} (xs ys : List A) → Mem x (xs ++ ys) → Mem x xs ⊎ Mem x ys
  mem_either [] ys m = inr m
  mem_either {x} (y ∷ xs) ys m =
      elim (mem_cases m) [
        | inl e ↦ inl (subst (λ (z : A). Mem z (y ∷ xs)) (sym e) here)
        | inr k ↦ elim (mem_either xs ys k) [ inl l ↦ inl (there l) | inr l ↦ inr l ]
      ]

  -- Two ascending lists of which each thing of the first comes before each of the second ascend when joined.
  append_ascends
      : (before : A → A → Bool) (xs ys : List A) → Ascending before xs → Ascending before ys
      → All (λ (x : A). All (λ (y : A). T (before x y)) ys) xs → Ascending before (xs ++ ys)
  append_ascends before [] ys a b h = b
  append_ascends before (x ∷ xs) ys a b h =
      (all_join (λ (y : A). T (before x y)) xs ys a.0 h.0, append_ascends before xs ys a.1 b h.1)

module _ {A B : Type 0} (f : A → B) where
  -- The image of a thing of the list stands in the list of images, and nothing else does.
  mem_map : {x : A} (xs : List A) → Mem x xs → Mem (f x) (map f xs)
  mem_map [] m = absurd (mem_none m)
  mem_map {x} (y ∷ xs) m =
      elim (mem_cases m) [
        | inl e ↦ subst (λ (z : A). Mem (f z) (f y ∷ map f xs)) (sym e) here
        | inr k ↦ there (mem_map xs k)
      ]

  map_mem : {y : B} (xs : List A) → Mem y (map f xs) → (x : A) × Mem x xs × (y ≡ f x)
  map_mem [] m = absurd (mem_none m)
  map_mem {y} (z ∷ xs) m =
      elim (mem_cases m) [
        | inl e ↦ (z, here, e)
        | inr k ↦ let (x, l, e) = map_mem xs k in (x, there l, e)
      ]

  -- Images of a list whose members stand in another stand among the images of that.
  map_part : {y : B} (xs zs : List A) → ((x : A) → Mem x xs → Mem x zs) → Mem y (map f xs) → Mem y (map f zs)
  map_part xs zs h m =
      let (x, k, e) = map_mem xs m in subst (λ (w : B). Mem w (map f zs)) (sym e) (mem_map zs (h x k))

  map_all : (Q : B → Type 0) (xs : List A) → All (λ (x : A). Q (f x)) xs → All Q (map f xs)
  map_all Q [] h = tt
  map_all Q (x ∷ xs) h = (h.0, map_all Q xs h.1)

  -- Images of an ascending list ascend where f keeps the order.
  map_ascends
      : (before : A → A → Bool) (later : B → B → Bool) → ((x y : A) → T (before x y) → T (later (f x) (f y)))
      → (xs : List A) → Ascending before xs → Ascending later (map f xs)
  map_ascends before later h [] a = tt
  map_ascends before later h (x ∷ xs) a = (
    map_all (λ (y : B). T (later (f x) y)) xs (all_map (λ (y : A). T (before x y)) (λ (y : A). T (later (f x) (f y))) (h x) xs a.0),
    map_ascends before later h xs a.1,
  )

-- Numbers of pairs ascend as pairs do.
code_before : (c d : ℕ) → T (ltb c d) → T (before (code_pair c) (code_pair d))
code_before c d h =
    let l = ltb→lt c d h in
    before_pair (c / 0x1_0000) (c % 0x1_0000) (d / 0x1_0000) (d % 0x1_0000)
    (by_cases (dec_lt (c / 0x1_0000) (d / 0x1_0000)) (λ (k : c / 0x1_0000 < d / 0x1_0000). inl k)
    (λ (k : c / 0x1_0000 < d / 0x1_0000 → ⊥). inr (omega arith, omega arith)))

places_first : (ps cs : List ℕ) → All (λ (x : Test). All (λ (y : Test). T (before x y)) (map code_pair cs)) (map place ps)
places_first [] cs = tt
places_first (p ∷ ps) cs = (map_all code_pair (λ (y : Test). T (before (place p) y)) cs (all-always (λ (c : ℕ). T (before (place p) (code_pair c))) (λ c. tt) cs), places_first ps cs)

-- The second place of a pair fits its part of the pair's number.
abbrev pub Small : PairTest → Type 0
Small x = x.second < 0x1_0000

-- The pair of a pair's number.
code_back : (p q : ℕ) → q < 0x1_0000 → pair p q ≡ code_pair (pair_code p q)
code_back p q h =
    let first : p ≡ pair_code p q / 0x1_0000 = omega arith in
    let second : q ≡ pair_code p q % 0x1_0000 = omega arith in
    λ i. pair (first i) (second i)

rule_pairs
    : (xs : List PairTest) → All Small xs
    → map (λ (x : PairTest). pair x.first x.second) xs ≡ map code_pair (pair_codes xs)
rule_pairs [] h = refl
rule_pairs (x ∷ xs) h = λ i. code_back x.first x.second h.0 i ∷ rule_pairs xs h.1 i

rule_places_lem
    : (xs : List PlaceTest)
    → map (λ (x : PlaceTest). place x.place) xs ≡ map place (map (λ (x : PlaceTest). x.place) xs)
rule_places_lem [] = refl
rule_places_lem (x ∷ xs) = ap (λ (l : List Test). place x.place ∷ l) (rule_places_lem xs)

-- The tests of a rule.
rule_split : (rule : Patterns) → All Small (pair_tests rule) → rule_tests rule ≡ map place (rule_places rule) ++ map code_pair (rule_codes rule)
rule_split rule h = λ i. rule_places_lem (place_tests rule) i ++ rule_pairs (pair_tests rule) h i

-- What is asked of the rules: their pairs' places fit.
abbrev pub SmallRule : Patterns → Type 0
SmallRule rule = All Small (pair_tests rule)

All-split
    : (rules : List Patterns) → All SmallRule rules → {t : Test} → Mem t (all_tests rules)
    → Mem t (map place (sheet_places rules)) ⊎ Mem t (map code_pair (sheet_codes rules))
All-split [] h m = absurd (mem_none m)
All-split (rule ∷ rules) h {t} m =
    let one : Mem t (rule_tests rule) → Mem t (map place (rule_places rule)) ⊎ Mem t (map code_pair (rule_codes rule)) =
    λ k. mem_either (map place (rule_places rule)) (map code_pair (rule_codes rule)) (subst (Mem t) (rule_split rule h.0) k) in
    elim (mem_either (rule_tests rule) (all_tests rules) m) [
      | inl k ↦ elim (one k) [
        | inl l ↦ inl (map_part place (rule_places rule) (sheet_places (rule ∷ rules)) (λ x n. mem_left (rule_places rule) (sheet_places rules) n) l)
        | inr l ↦ inr (map_part code_pair (rule_codes rule) (sheet_codes (rule ∷ rules)) (λ x n. mem_left (rule_codes rule) (sheet_codes rules) n) l)
      ]
      | inr k ↦ elim (All-split rules h.1 k) [
        | inl l ↦ inl (map_part place (sheet_places rules) (sheet_places (rule ∷ rules)) (λ x n. mem_right (rule_places rule) (sheet_places rules) n) l)
        | inr l ↦ inr (map_part code_pair (sheet_codes rules) (sheet_codes (rule ∷ rules)) (λ x n. mem_right (rule_codes rule) (sheet_codes rules) n) l)
      ]
    ]

split_place : (rules : List Patterns) → All SmallRule rules → {n : ℕ} → Mem n (sheet_places rules) → Mem (place n) (all_tests rules)
split_place [] h m = absurd (mem_none m)
split_place (rule ∷ rules) h {n} m =
    elim (mem_either (rule_places rule) (sheet_places rules) m) [
      | inl k ↦ mem_left (rule_tests rule) (all_tests rules)
          (subst (Mem (place n)) (sym (rule_split rule h.0)) (mem_left (map place (rule_places rule)) (map code_pair (rule_codes rule)) (mem_map place (rule_places rule) k)))
      | inr k ↦ mem_right (rule_tests rule) (all_tests rules) (split_place rules h.1 k)
    ]

split_pair : (rules : List Patterns) → All SmallRule rules → {c : ℕ} → Mem c (sheet_codes rules) → Mem (code_pair c) (all_tests rules)
split_pair [] h m = absurd (mem_none m)
split_pair (rule ∷ rules) h {c} m =
    elim (mem_either (rule_codes rule) (sheet_codes rules) m) [
      | inl k ↦ mem_left (rule_tests rule) (all_tests rules)
          (subst (Mem (code_pair c)) (sym (rule_split rule h.0)) (mem_right (map place (rule_places rule)) (map code_pair (rule_codes rule)) (mem_map code_pair (rule_codes rule) k)))
      | inr k ↦ mem_right (rule_tests rule) (all_tests rules) (split_pair rules h.1 k)
    ]

module _ (rules : List Patterns) (small : All SmallRule rules) where
  abbrev places : List ℕ
  places = insert_all (sheet_places rules) []

  abbrev pairs : List ℕ
  pairs = insert_all (sheet_codes rules) []

  -- The tests of a sheet: its tested places, then its pairs.
  pub tests_split : sheet_tests rules ≡ map place places ++ map code_pair pairs
  tests_split =
      same_members before_order (sheet_tests rules) (map place places ++ map code_pair pairs) (ascending_ascends (all_tests rules))
      (append_ascends before (map place places) (map code_pair pairs)
      (map_ascends place ltb before (λ x y h. h) places (all_insert_ascends (sheet_places rules) [] tt))
      (map_ascends code_pair ltb before code_before pairs (all_insert_ascends (sheet_codes rules) [] tt))
      (places_first places pairs))
      forth back
    where
      forth : (t : Test) → Mem t (sheet_tests rules) → Mem t (map place places ++ map code_pair pairs)
      forth t m =
          elim (All-split rules small (ascending_mem (all_tests rules) m)) [
            | inl k ↦ mem_left (map place places) (map code_pair pairs)
                (map_part place (sheet_places rules) places (λ x l. all_insert_has (sheet_places rules) [] l) k)
            | inr k ↦ mem_right (map place places) (map code_pair pairs)
                (map_part code_pair (sheet_codes rules) pairs (λ x l. all_insert_has (sheet_codes rules) [] l) k)
          ]

      back : (t : Test) → Mem t (map place places ++ map code_pair pairs) → Mem t (sheet_tests rules)
      back t m =
          elim (mem_either (map place places) (map code_pair pairs) m) [
            | inl k ↦ let (n, l, e) = map_mem place places k in
                elim (all_insert_mem (sheet_places rules) [] l) [
                  | inl h ↦ ascending_has (all_tests rules) (subst (λ (x : Test). Mem x (all_tests rules)) (sym e) (split_place rules small h))
                  | inr h ↦ absurd (mem_none h)
                ]
            | inr k ↦ let (c, l, e) = map_mem code_pair pairs k in
                elim (all_insert_mem (sheet_codes rules) [] l) [
                  | inl h ↦ ascending_has (all_tests rules) (subst (λ (x : Test). Mem x (all_tests rules)) (sym e) (split_pair rules small h))
                  | inr h ↦ absurd (mem_none h)
                ]
          ]

  -- How many tests a sheet has.
  pub tests_count : length (sheet_tests rules) ≡ length places + length pairs
  tests_count =
      ap length tests_split
      ∙ length-append (map place places) (map code_pair pairs)
      ∙ (λ i. length-map places place i + length-map pairs code_pair i)
