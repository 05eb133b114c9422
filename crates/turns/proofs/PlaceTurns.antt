-- Where the places of a list have asked their tests, each test is asked before those of the places behind its own.
use Prim.Native.Nat.{ℕ, ◌+◌, ◌%◌, ◌≤◌, ◌<◌}
use mathlib.Core.Path.{◌≡◌, refl, sym, ap, subst, ◌∙◌}
use mathlib.Core.Bool.{Bool, true, false, ◌||◌, true≢false}
use mathlib.Core.Logic.{◌⊎◌, inl, inr}
use mathlib.Core.List.{List, [], ◌∷◌}
use native.Mathlib.Omega.{arith}
use lib.Dec.{eqb, ltb}
use lib.ListN.{length, get_or, set, length-set}
use lib.Seq.{get_or-set_same, get_or-set_other}
use borrow.Author.Tests.{eq-eqb, ne_eqb, eqb-true, ltb-true, lt-ltb}
use Rattle.basics.specs.Lists.{Mem, here, there, All}
use Rattle.basics.proofs.Booleans.{by_test, and_both, cond_by, is_true, true_is}
use Rattle.basics.proofs.ListLaws.{mem_cases, mem_none, all_from, all_at}
use Rattle.basics.proofs.Sorted.{AscendingBy}
use Rattle.masks.specs.Mask.{has}
use Rattle.masks.proofs.Extensionality.{mask_of_lt, has_mask_of}
use Rattle.masks.proofs.Membership.{has_empty, has_lt}
use Rattle.terms.specs.Pattern.{Patterns}
use Rattle.terms.specs.Accepted.{AcceptedRule}
use Rattle.sheet_tests.specs.SheetTests.{place, sheet_tests}
use Rattle.decision.specs.Rules.{test_at}
use Rattle.decision.proofs.keys.OrderByPlaces.{Differ, Apart}
use Rattle.tables.specs.views.Planes.{place_tests_in, test_in, before_in}
use Rattle.tables.specs.views.TablesOf.{test_code, Near}
use Rattle.tables.specs.views.Turns.{Asks}
use Rattle.rows.specs.views.TestsOf.{TestsOf}
use Rattle.rows.proofs.TestNumbers.{tests_number, place_number, number_place, one_test}
use Rattle.rows.proofs.TestsRight.{tests_near, tests_coded, test_numbered}
use Rattle.turns.specs.views.Turned.{with_asked, is_test_of, turned_by}
use Rattle.turns.proofs.SameListed.{Same, same_then}

-- A set with test t has t besides what it has.
asked_has : (asked t u : ℕ) → u < 64 → has (with_asked asked t) u ≡ has asked u || eqb t u
unfolding with_asked
asked_has asked t u h = has_mask_of 64 (λ v. has asked v || eqb t v) u h

asked_within : (asked t u : ℕ) → has (with_asked asked t) u ≡ true → u < 64
unfolding with_asked
asked_within asked t u h = has_lt 64 _ u (mask_of_lt 64 (λ v. has asked v || eqb t v)) h

or_true : (x : Bool) → x || true ≡ true
or_true true = refl
or_true false = refl

either : (a b : Bool) → a || b ≡ true → (a ≡ true) ⊎ (b ≡ true)
either true b e = inl refl
either false b e = inr e

module _ (arity : ℕ) (rules : List Patterns) (few : arity ≤ 8) (accepted : All (AcceptedRule arity) rules) (numbers s₀ : List ℕ)
    (l : TestsOf rules numbers s₀) where
  abbrev count : ℕ
  count = length (sheet_tests rules)

  small : count ≤ 64
  small = omega (arith, tests_number rules l.places l.pairs l.tests, l.few)

  -- Test t is place p.
  abbrev pub IsAt : ℕ → ℕ → Type 0
  IsAt p t = (t < count) × (test_at rules t ≡ place p)

  first_places : (p t : ℕ) → IsAt p t → t < place_tests_in s₀
  first_places p t (h, is) =
      omega (arith, (number_place rules l.places l.pairs l.tests t p h is).0, l.places_are)

  only_one : (p r t u : ℕ) → IsAt p t → IsAt r u → p ≡ r → t ≡ u
  only_one p r t u a b e = one_test rules t u a.0 b.0 (a.1 ∙ ap place e ∙ sym b.1)

  differ_at : (p r t u : ℕ) → IsAt p t → IsAt r u → (p ≡ r → ⊥) → t ≡ u → ⊥
  differ_at p r t u a b d e = let same : p ≡ r = cc (a.1, b.1, e) in d same

  module _ (s : List ℕ) (same : Same s₀ s) where
    places_are_lem : place_tests_in s ≡ place_tests_in s₀
    places_are_lem = same.below 2 (omega arith)

    -- A place test has the place's number.
    place_code : (p t : ℕ) → IsAt p t → test_in s t % 0x1_0000 ≡ p
    place_code p t (h, is) =
        let near = subst Near is (tests_near arity rules few accepted numbers s₀ l t h) in
        let code = same.below (4 + t) (omega (arith, small)) ∙ tests_coded arity rules few accepted numbers s₀ l t h ∙ ap test_code is in
        omega (arith, code, near)

    -- The number of a tested place is its test's,
    tested : (p t : ℕ) → IsAt p t → (get_or numbers p 0 ≡ t) × (is_test_of s t p ≡ true)
    tested p t at = (
      test_numbered arity rules few accepted numbers s₀ l t p at.0 at.1,
      rw (lt-ltb t (place_tests_in s) (omega (arith, first_places p t at, places_are_lem)), eq-eqb _ p (place_code p t at)) refl,
    )

    -- and no other place has a test.
    tested_at : (p t : ℕ) → is_test_of s t p ≡ true → IsAt p t
    tested_at p t e =
        let both = and_both (ltb t (place_tests_in s)) (eqb (test_in s t % 0x1_0000) p) e in
        let first : t < length l.places = omega (arith, ltb-true t (place_tests_in s) both.0, places_are_lem, l.places_are) in
        let known : t < count = omega (arith, tests_number rules l.places l.pairs l.tests) in
        let is = place_number rules l.places l.pairs l.tests t first in
        (known, is ∙ ap place (sym (place_code (get_or l.places t 0) t (known, is)) ∙ eqb-true (test_in s t % 0x1_0000) p both.1))

  -- Of each two places of the list the tests are asked in this order.
  abbrev pub InTurn : List ℕ → ℕ → ℕ → Type 0
  InTurn s p r = (t u : ℕ) → IsAt p t → IsAt r u → Asks s t u

  -- No test of the places is among those asked, and those asked are places.
  record Before (places : List ℕ) (asked : ℕ) : Type 0 where
    fresh : (p u : ℕ) → Mem p places → IsAt p u → has asked u ≡ false
    placed : (u : ℕ) → has asked u ≡ true → u < place_tests_in s₀

  -- What is so after the places have asked their tests.
  pub record After (places : List ℕ) (asked : ℕ) (s u : List ℕ) : Type 0 where
    pub same : Same s u
    pub kept : (t : ℕ) → ((p : ℕ) → Mem p places → IsAt p t → ⊥) → before_in u t ≡ before_in s t
    pub more : (p t : ℕ) → Mem p places → IsAt p t → (v : ℕ) → has asked v ≡ true → has (before_in u t) v ≡ true
    pub own : (p t : ℕ) → Mem p places → IsAt p t → has (before_in u t) t ≡ false
    pub only : (p t : ℕ) → Mem p places → IsAt p t → (v : ℕ) → place_tests_in s₀ ≤ v → has (before_in u t) v ≡ false
    pub in_turn : AscendingBy (InTurn u) places

  -- A place that is not tested asks nothing,
  after_none
      : (p : ℕ) (places : List ℕ) (asked : ℕ) (s u : List ℕ) → ((t : ℕ) → IsAt p t → ⊥) → After places asked s u
      → After (p ∷ places) asked s u
  after_none p places asked s u none h = record {
    same = h.same;
    kept = λ t apart. h.kept t (λ q m. apart q (there m));
    more = λ q t m at. elim (mem_cases m) [
      | inl e ↦ absurd (none t (subst (λ (x : ℕ). IsAt x t) e at))
      | inr k ↦ h.more q t k at
    ];
    own = λ q t m at. elim (mem_cases m) [
      | inl e ↦ absurd (none t (subst (λ (x : ℕ). IsAt x t) e at))
      | inr k ↦ h.own q t k at
    ];
    only = λ q t m at. elim (mem_cases m) [
      | inl e ↦ absurd (none t (subst (λ (x : ℕ). IsAt x t) e at))
      | inr k ↦ h.only q t k at
    ];
    in_turn = (all_from (InTurn u p) places (λ r m t v at. absurd (none t at)), h.in_turn);
  }

  -- and one that is asks its test after those before it.
  module _ (p : ℕ) (places : List ℕ) (asked t : ℕ) (at : IsAt p t) (apart : Apart (p ∷ places)) (b : Before (p ∷ places) asked) where
    there_not : (r v : ℕ) → Mem r places → IsAt r v → t ≡ v → ⊥
    there_not r v m is = differ_at p r t v at is (all_at (Differ p) m apart.0)

    asked_too : (v : ℕ) → has asked v ≡ true → has (with_asked asked t) v ≡ true
    asked_too v e =
        asked_has asked t v (omega (arith, b.placed v e, l.places_are, l.few)) ∙ ap (λ (x : Bool). x || eqb t v) e

    asked_self : has (with_asked asked t) t ≡ true
    asked_self = asked_has asked t t (omega (arith, at.0, small)) ∙ rw (eq-eqb t t refl) (or_true (has asked t))

    -- Before the others too none of theirs is asked.
    before_others : Before places (with_asked asked t)
    before_others = record {
      fresh = λ r v m is.
          asked_has asked t v (omega (arith, is.0, small))
          ∙ rw (b.fresh r v (there m) is, ne_eqb t v (there_not r v m is)) refl;
      placed = λ v e. elim (either (has asked v) (eqb t v) (sym (asked_has asked t v (asked_within asked t v e)) ∙ e)) [
        | inl old ↦ b.placed v old
        | inr same ↦ omega (arith, eqb-true t v same, first_places p t at)
      ];
    }

    module _ (s u : List ℕ) (long : length s ≡ 324) where
      set_same : Same s (set s (260 + t) asked)
      set_same = record {
        entries = length-set s (260 + t) asked;
        below = λ k less. get_or-set_other s (260 + t) k asked 0 (λ e. let z : ⊥ = omega arith in z);
      }

      module _ (h : After places (with_asked asked t) (set s (260 + t) asked) u) where
        entry : before_in u t ≡ asked
        entry =
            h.kept t (λ r m is. there_not r t m is refl)
            ∙ get_or-set_same s (260 + t) asked 0 (omega (arith, at.0, small))

        after_one : After (p ∷ places) asked s u
        after_one = record {
          same = same_then set_same h.same;
          kept = λ v none.
              h.kept v (λ q m. none q (there m))
              ∙ get_or-set_other s (260 + t) (260 + v) asked 0
              (λ e. let same : v ≡ t = omega arith in none p here (subst (IsAt p) (sym same) at));
          more = λ q v m is w e. elim (mem_cases m) [
            | inl same ↦
                let one = only_one p q t v at is (sym same) in
                subst (λ (x : ℕ). has (before_in u x) w ≡ true) one (ap (λ (x : ℕ). has x w) entry ∙ e)
            | inr k ↦ h.more q v k is w (asked_too w e)
          ];
          own = λ q v m is. elim (mem_cases m) [
            | inl same ↦
                let one = only_one p q t v at is (sym same) in
                subst (λ (x : ℕ). has (before_in u x) x ≡ false) one (ap (λ (x : ℕ). has x t) entry ∙ b.fresh p t here at)
            | inr k ↦ h.own q v k is
          ];
          only = λ q v m is w late. elim (mem_cases m) [
            | inl same ↦
                let one = only_one p q t v at is (sym same) in
                subst (λ (x : ℕ). has (before_in u x) w ≡ false) one
                (ap (λ (x : ℕ). has x w) entry
                ∙ by_test (has asked w) (λ e. absurd (omega (arith, b.placed w e))) (λ e. e))
            | inr k ↦ h.only q v k is w late
          ];
          in_turn = (
            all_from (InTurn u p) places
                (λ r m t' v at' is.
                let one = only_one p p t t' at at' refl in
                subst (λ (x : ℕ). Asks u x v) one
                (h.more r v m is t asked_self, ap (λ (x : ℕ). has x v) entry ∙ b.fresh r v (there m) is)),
            h.in_turn,
          );
        }

  -- The places of a list, of which none stands twice.
  turned
      : (places : List ℕ) (asked : ℕ) (s : List ℕ) → Apart places → Same s₀ s → Before places asked
      → After places asked s (turned_by numbers places asked s)
  unfolding turned_by
  turned [] asked s apart same b = record {
    same = record { entries = refl; below = λ k h. refl };
    kept = λ t none. refl;
    more = λ p t m. absurd (mem_none m);
    own = λ p t m. absurd (mem_none m);
    only = λ p t m. absurd (mem_none m);
    in_turn = tt;
  }
  turned (p ∷ places) asked s apart same b =
      let t = get_or numbers p 0 in
      cond_by (After (p ∷ places) asked s) (is_test_of s t p)
      (λ k.
      let at = tested_at s same p t (true_is (is_test_of s t p) k) in
      let long : length s ≡ 324 = same.entries ∙ l.counted.entries in
      after_one p places asked t at apart b s _ long
      (turned places (with_asked asked t) (set s (260 + t) asked) apart.1
      (same_then same (set_same p places asked t at apart b s s long)) (before_others p places asked t at apart b)))
      (λ k.
      after_none p places asked s _
      (λ u at.
      let known = tested s same p u at in
      k (is_true (ap (λ (x : ℕ). is_test_of s x p) known.0 ∙ known.1)))
      (turned places asked s apart.1 same (record { fresh = λ q v m. b.fresh q v (there m); placed = b.placed })))

  -- At first nothing is asked.
  pub places_turned
      : (places : List ℕ) → Apart places → After places 0 s₀ (turned_by numbers places 0 s₀)
  places_turned places apart =
      turned places 0 s₀ apart (record { entries = refl; below = λ k h. refl })
      (record { fresh = λ p u m at. has_empty u; placed = λ u e. absurd (true≢false (sym e ∙ has_empty u)) })
