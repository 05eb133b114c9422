-- The tests that are listed in a walk's tables are those of the sheet.
use Prim.Native.Nat.{ℕ, ◌+◌, ◌-◌, ◌/◌, ◌%◌, ◌≤◌, ◌<◌}
use mathlib.Core.Path.{◌≡◌, refl, sym, ap, subst, ◌∙◌}
use mathlib.Core.List.{List, [], ◌∷◌, ◌++◌, map, map-append}
use mathlib.Core.Logic.{by_cases}
use native.Mathlib.Decide.{dec_lt}
use native.Mathlib.Omega.{arith}
use lib.ListN.{length, get_or, take, length-map, length-append, get_or-append, get_or-map}
use lib.Seq.{length-take-le, get_or-append-add, ext_get_or}
use Rattle.basics.specs.Lists.{All, Mem}
use Rattle.basics.proofs.ListLaws.{all_map, all_from}
use Rattle.basics.proofs.Filters.{mem_left, mem_right, mem_map}
use Rattle.terms.specs.Pattern.{Patterns}
use Rattle.terms.specs.Accepted.{AcceptedRule}
use Rattle.sheet_tests.specs.SheetTests.{place, pair, sheet_tests}
use Rattle.sheet_tests.specs.views.TestedPlaces.{places_in}
use Rattle.pairs.specs.views.KeptPairs.{pair_code}
use Rattle.sheet_tests.specs.views.KeptPairs.{code_pair}
use Rattle.sheet_tests.specs.views.TestsRead.{kept_tests}
use Rattle.decision.proofs.rules.NearTests.{rules_near}
use Rattle.tables.specs.views.Planes.{tests_in}
use Rattle.test_list.specs.views.Tests.{tests_put, spot_code, Counted}
use Rattle.test_list.proofs.TestsListed.{listed_tests_lem, listed_place, listed_pair, listed_counted}
use Rattle.test_list.proofs.SameTests.{same_counted}
use Rattle.rule_masks.specs.views.TestNumbers.{code_test}
use Rattle.rule_masks.specs.views.Kept.{Arrays, listed_codes, listed_tests, TestsStay}
use Rattle.rule_masks.proofs.CodeNumbers.{code_place_lem, code_pair_lem, listed_length, listed_at}
use Rattle.rule_masks.proofs.PairsApart.{pairs_apart}

-- The codes of a place and of a pair are those of their tests.
pub spot_test : (p : ℕ) → p < 0x1_0000 → code_test (spot_code p) ≡ place p
spot_test p h =
    let half : spot_code p / 0x1_0000 ≡ p = omega arith in
    let same : spot_code p / 0x1_0000 ≡ spot_code p % 0x1_0000 = omega arith in
    code_place_lem (spot_code p) same ∙ ap place half

pub pair_test_lem : (p q : ℕ) → p < q → q < 0x1_0000 → code_test (pair_code p q) ≡ pair p q
pair_test_lem p q apart near =
    let first : pair_code p q / 0x1_0000 ≡ p = omega (arith, near) in
    let second : pair_code p q % 0x1_0000 ≡ q = omega (arith, near) in
    code_pair_lem (pair_code p q) (λ e. omega (arith, e, first, second, apart)) ∙ (λ i. pair (first i) (second i))

-- What two steps make of each thing of a list, one makes.
pub map_twice
    : {A B C : Type 0} (f : B → C) (g : A → B) (h : A → C) (xs : List A) → All (λ (x : A). f (g x) ≡ h x) xs
    → map f (map g xs) ≡ map h xs
map_twice f g h [] a = refl
map_twice f g h (x ∷ xs) a = λ i. a.0 i ∷ map_twice f g h xs a.1 i

pub map_same : {A B : Type 0} (f g : A → B) (xs : List A) → All (λ (x : A). f x ≡ g x) xs → map f xs ≡ map g xs
map_same f g [] a = refl
map_same f g (x ∷ xs) a = λ i. a.0 i ∷ map_same f g xs a.1 i

-- Tables with listed places and pairs list their codes.
module _ (ps cs s : List ℕ) (entries : length s ≡ 324) (few : length ps + length cs ≤ 64) where
  abbrev put : List ℕ
  put = tests_put ps cs s

  pub listed_codes_lem : listed_codes put ≡ map spot_code ps ++ cs
  listed_codes_lem =
      let spots = map spot_code ps in
      let counted = listed_counted ps cs s entries few in
      let spots-length : length spots ≡ length ps = length-map ps spot_code in
      let size : length (spots ++ cs) ≡ length spots + length cs = length-append spots cs in
      let own : length (listed_codes put) ≡ tests_in put = listed_length put counted in
      let many : tests_in put ≡ length ps + length cs = listed_tests_lem ps cs s entries few in
      ext_get_or 0 (listed_codes put) (spots ++ cs) (omega (arith, own, many, size, spots-length))
      (λ k h.
      listed_at put counted k (omega (arith, own, h))
      ∙ by_cases (dec_lt k (length ps))
      (λ (l : k < length ps).
      listed_place ps cs s entries few k l
      ∙ sym (get_or-append spots cs 0 k (omega (arith, l, spots-length)) ∙ get_or-map spot_code ps k 0))
      (λ (l : k < length ps → ⊥).
      let j = k - length ps in
      let back : k ≡ length spots + j = omega (arith, l, spots-length) in
      listed_pair ps cs s entries few j (4 + k) (omega (arith, l, own, many, h)) (omega (arith, l))
      ∙ sym (ap (λ (n : ℕ). get_or (spots ++ cs) n 0) back ∙ get_or-append-add spots cs j 0)))

  -- The places are near and the two of a pair apart, so they list their tests.
  pub listed_are
      : All (λ (p : ℕ). p < 0x1_0000) ps → All (λ (c : ℕ). c / 0x1_0000 < c % 0x1_0000) cs
      → listed_tests put ≡ map place ps ++ map code_pair cs
  listed_are near apart =
      ap (map code_test) listed_codes_lem
      ∙ map-append code_test (map spot_code ps) cs
      ∙ (λ i.
      map_twice code_test spot_code place ps
      (all_map (λ (p : ℕ). p < 0x1_0000) (λ (p : ℕ). code_test (spot_code p) ≡ place p) spot_test ps near) i
      ++ map_same code_test code_pair cs
      (all_map (λ (c : ℕ). c / 0x1_0000 < c % 0x1_0000) (λ (c : ℕ). code_test c ≡ code_pair c)
      (λ c h. code_pair_lem c (λ e. omega (arith, e, h))) cs apart) i)

-- Tables with the same tests list the same.
module _ (kept others : List ℕ) (counted : Counted kept) (stay : TestsStay kept others) where
  pub stay_counted : Counted others
  stay_counted = same_counted kept others (stay.entries ∙ sym counted.entries) stay.same counted

  pub stay_listed : listed_tests others ≡ listed_tests kept
  stay_listed =
      let own = listed_length others stay_counted in
      let before = listed_length kept counted in
      let many : tests_in others ≡ tests_in kept = stay.same 1 (omega arith) in
      ap (map code_test)
      (ext_get_or 0 (listed_codes others) (listed_codes kept) (own ∙ many ∙ sym before)
      (λ k h.
      let inside : k < tests_in kept = omega (arith, own, many, h) in
      listed_at others stay_counted k (omega (arith, inside, many))
      ∙ stay.same (4 + k) (omega (arith, inside, counted.few))
      ∙ sym (listed_at kept counted k inside)))

-- The tests that arrays hold are few.
pub arrays_fit
    : (words codes : List ℕ) (pairs : ℕ) → Arrays words codes pairs → length (places_in words) + length (take pairs codes) ≤ 64
arrays_fit words codes pairs arrays =
    omega (arith, arrays.few_tests, length-take-le pairs codes (omega (arith, arrays.few_tests, arrays.all_codes)))

-- So the tests of an accepted sheet are listed.
module _ (arity : ℕ) (rules : List Patterns) (few : arity ≤ 8) (accepted : All (AcceptedRule arity) rules) (words codes : List ℕ)
    (pairs : ℕ) (tests : sheet_tests rules ≡ kept_tests words codes pairs) (arrays : Arrays words codes pairs) (s : List ℕ)
    (entries : length s ≡ 324) where
  fit : length (places_in words) + length (take pairs codes) ≤ 64
  fit = arrays_fit words codes pairs arrays

  pub kept_counted : Counted (tests_put (places_in words) (take pairs codes) s)
  kept_counted = listed_counted (places_in words) (take pairs codes) s entries fit

  pub kept_are : listed_tests (tests_put (places_in words) (take pairs codes) s) ≡ sheet_tests rules
  kept_are =
      listed_are (places_in words) (take pairs codes) s entries fit
      (all_from (λ (p : ℕ). p < 0x1_0000) (places_in words)
      (λ p m.
      let own = subst (Mem (place p)) (sym tests) (mem_left (map code_pair (take pairs codes)) (mem_map place m)) in
      let near : p < 680 = rules_near arity rules few accepted (place p) own in
      omega (arith, near)))
      (all_from (λ (c : ℕ). c / 0x1_0000 < c % 0x1_0000) (take pairs codes)
      (λ c m.
      pairs_apart arity rules accepted (c / 0x1_0000) (c % 0x1_0000)
      (subst (Mem (code_pair c)) (sym tests) (mem_right (map place (places_in words)) (mem_map code_pair m)))))
      ∙ sym tests
