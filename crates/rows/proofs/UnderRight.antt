-- What an unknown settles, by the tests in the tables, is what it settles by the sheet's tests.
use Prim.Native.Nat.{ℕ, ◌+◌, ◌*◌, ◌%◌, ◌≤◌, ◌<◌}
use mathlib.Core.Path.{◌≡◌, refl, sym, ap, ◌∙◌, subst}
use mathlib.Core.Bool.{Bool, ◌&&◌, false}
use mathlib.Core.List.{List}
use mathlib.Core.Logic.{by_cases}
use native.Mathlib.Decide.{dec_lt}
use native.Mathlib.Omega.{arith}
use borrow.Author.Tests.{le-leb, lt-leb, lt-ltb, le-ltb}
use lib.Dec.{T, leb, ltb, ltb→lt}
use lib.ListN.{length}
use Rattle.basics.proofs.Clash.{clash}
use Rattle.masks.proofs.Extensionality.{mask_of_same}
use Rattle.masks.proofs.Loops.{turns_short}
use Rattle.places.specs.Numbering.{stride, levels_at, at_or_below}
use Rattle.terms.specs.Pattern.{Patterns}
use Rattle.sheet_tests.specs.SheetTests.{Test, place, pair, before, all_tests, sheet_tests}
use Rattle.sheet_tests.proofs.TestOrder.{before_order, ascending_ascends}
use Rattle.decision.specs.Rules.{test_at, tests_where}
use Rattle.decision.specs.Edges.{settled_by_unknown}
use Rattle.tables.specs.views.Planes.{place_tests_in, test_in}
use Rattle.tables.specs.views.TablesOf.{is_place, test_code, Near}
use Rattle.test_list.specs.views.Tests.{is_settled, settled_below}
use Rattle.rows.proofs.AscendingLists.{ascends_at}

-- The code of a place test has its place,
place_below : (n : ℕ) (x : Test) → Near x → T (is_place x) → at_or_below n (test_code x % 0x1_0000) ≡ settled_by_unknown n x
place_below n (place m) near h =
    let own : (m * 0x1_0000 + m) % 0x1_0000 ≡ m = omega arith in
    ap (at_or_below n) own
place_below n (pair p q) near h = absurd h

-- and no pair is settled.
pair_left : (n : ℕ) (x : Test) → is_place x ≡ false → settled_by_unknown n x ≡ false
pair_left n (place m) h = clash (cc)
pair_left n (pair p q) h = refl

-- A test before that of place n is at no place at or below n.
not_below : (n : ℕ) (x : Test) → T (before x (place n)) → settled_by_unknown n x ≡ false
not_below n (place m) h =
    ap (λ (b : Bool). b && ltb m (n + stride (levels_at n))) (lt-leb n m (ltb→lt m n h))
not_below n (pair p q) h = absurd h

module _ (rules : List Patterns) (s : List ℕ) where
  abbrev all : ℕ
  all = length (sheet_tests rules)

  -- Unknown settles what it settles.
  pub under_right
      : place_tests_in s ≤ all → ((u : ℕ) → u < all → Near (test_at rules u))
      → ((u : ℕ) → u < all → test_in s u ≡ test_code (test_at rules u))
      → ((u : ℕ) → u < all → is_place (test_at rules u) ≡ ltb u (place_tests_in s)) → (t n : ℕ) → t < all → test_at rules t ≡ place n
      → settled_below s t ≡ tests_where rules (λ u. settled_by_unknown n (test_at rules u))
  unfolding settled_below
  under_right many near codes split t n h is =
      let small : n < 680 = subst Near is (near t h) in
      let own : test_in s t ≡ n * 0x1_0000 + n = codes t h ∙ ap test_code is in
      let spot : test_in s t % 0x1_0000 ≡ n = omega arith in
      let settles : ℕ → Bool = λ u. settled_by_unknown n (test_at rules u) in
      turns_short all (place_tests_in s) settles
      (mask_of_same (place_tests_in s) (is_settled s t) settles
      (λ u l.
      let inside : u < all = omega arith in
      let below : ℕ → Bool = λ (c : ℕ). at_or_below n (c % 0x1_0000) in
      (λ j. leb t u && at_or_below (spot j) (codes u inside j % 0x1_0000))
      ∙ by_cases (dec_lt u t)
      (λ (k : u < t).
      ap (λ (b : Bool). b && below (test_code (test_at rules u))) (lt-leb t u k)
      ∙ sym
      (not_below n (test_at rules u)
      (subst (λ (x : Test). T (before (test_at rules u) x)) is
      (ascends_at before_order (place 0) (sheet_tests rules) (ascending_ascends (all_tests rules)) u t k h))))
      (λ (k : u < t → ⊥).
      ap (λ (b : Bool). b && below (test_code (test_at rules u))) (le-leb t u (omega arith))
      ∙ place_below n (test_at rules u) (near u inside)
      (subst T (sym (split u inside ∙ lt-ltb u (place_tests_in s) l)) tt))))
      many (λ u l k. pair_left n (test_at rules u) (split u k ∙ le-ltb u (place_tests_in s) l))
