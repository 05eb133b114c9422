-- Laws of where rules begin: none is noted, one more is, and the search for a rule starts there.
use Prim.Native.Nat.{ℕ, pred, ◌+◌, ◌-◌, ◌≤◌, ◌<◌}
use mathlib.Core.Path.{◌≡◌, refl, sym, ap, subst, ◌∙◌}
use mathlib.Core.Bool.{Bool, true, false, cond}
use mathlib.Core.List.{List}
use native.Mathlib.Omega.{arith}
use lib.Dec.{eqb, ltb}
use lib.ListN.{length, get_or, set, take, replicate, length-replicate}
use lib.Seq.{get_or-set_same, get_or-set_other}
use borrow.Author.Tests.{eqb-true, eqb-false, ltb-true, lt-ltb}
use Rattle.terms.specs.Pattern.{pnil}
use Rattle.sheet.specs.ReadSheet.{read_rule, read_rules}
use Rattle.graph.specs.views.Rewriting.{IsTook}
use Rattle.sheet_tests.specs.views.TestedPlaces.{places_in}
use Rattle.test_list.specs.views.Tests.{tests_put}
use Rattle.test_list.proofs.TestsListed.{listed_other}
use Rattle.rows.proofs.SheetRows.{zeros}
use Rattle.rule_masks.specs.views.Kept.{Arrays, TestsStay}
use Rattle.rule_masks.proofs.ListedTests.{arrays_fit}
use Rattle.leaves.specs.views.Seeking.{Seeking, BeginAt, Begins, begin_of, noted_in, passed_by}
use Rattle.leaves.proofs.RulesLeft.{seeking_starts}

module _ (s : List ℕ) (arity count : ℕ) where
  -- None is noted.
  pub begins_none : (kept : List ℕ) → ((k : ℕ) → 68 ≤ k → get_or kept k 0 ≡ 0) → Begins s arity count kept
  begins_none kept h rule first last some = absurd (some (none (ltb rule 65)))
    where
      none : (b : Bool) → cond b (get_or kept (67 + rule) 0) 0 ≡ 0
      none true = h (67 + rule) (omega (arith, first))
      none false = refl

  module _ (kept : List ℕ) (i at : ℕ) (long : length kept ≡ 324) (begin : Begins s arity count kept)
      (here : Seeking (read_rule arity) pnil s count i at i) where
    -- One more is noted: the begin of its own rule,
    own
        : (rule : ℕ) → 1 ≤ rule → i < 64 → 67 + rule ≡ 68 + i → BeginAt s arity count rule (begin_of (set kept (68 + i) at) rule)
    own rule first few same some =
        let inside : rule < 65 = omega (arith, few, same, first) in
        let there : at ≡ begin_of (set kept (68 + i) at) rule =
        sym
        (ap (λ (b : Bool). cond b (get_or (set kept (68 + i) at) (67 + rule) 0) 0) (lt-ltb rule 65 inside)
        ∙ ap (λ (k : ℕ). get_or (set kept (68 + i) at) k 0) same
        ∙ get_or-set_same kept (68 + i) at 0 (omega (arith, few, long))) in
        let this : i ≡ pred rule = omega (arith, same, first) in
        subst (λ (k : ℕ). Seeking (read_rule arity) pnil s count k (begin_of (set kept (68 + i) at) rule) k) this
        (subst (λ (a : ℕ). Seeking (read_rule arity) pnil s count i a i) there here)

    -- and those of the others stay.
    others
        : (rule : ℕ) → 1 ≤ rule → rule ≤ count → (67 + rule ≡ 68 + i → ⊥)
        → BeginAt s arity count rule (begin_of (set kept (68 + i) at) rule)
    others rule first last other =
        let stays : begin_of kept rule ≡ begin_of (set kept (68 + i) at) rule =
        ap (λ (k : ℕ). cond (ltb rule 65) k 0) (sym (get_or-set_other kept (68 + i) (67 + rule) at 0 other)) in
        subst (BeginAt s arity count rule) stays (begin rule first last)

    set_begins : i < 64 → Begins s arity count (set kept (68 + i) at)
    set_begins few rule first last = go (eqb (67 + rule) (68 + i)) refl
      where
        go : (b : Bool) → eqb (67 + rule) (68 + i) ≡ b → BeginAt s arity count rule (begin_of (set kept (68 + i) at) rule)
        go true e = own rule first few (eqb-true (67 + rule) (68 + i) e)
        go false e = others rule first last (eqb-false (67 + rule) (68 + i) e)

    pub begins_noted : Begins s arity count (noted_in kept i at)
    begins_noted = go (ltb i 64) refl
      where
        go : (b : Bool) → ltb i 64 ≡ b → Begins s arity count (cond b (set kept (68 + i) at) kept)
        go true e = set_begins (ltb-true i 64 e)
        go false e = begin

  -- The search for a rule starts at its begin, or with the first.
  pub seeking_from
      : (rule begin : ℕ) → pred rule < count → IsTook (read_rules arity count s) → BeginAt s arity count rule begin
      → 1 ≤ rule → Seeking (read_rule arity) pnil s count (pred rule) begin (passed_by begin rule)
  seeking_from rule begin among read noted first = go (eqb begin 0) refl
    where
      go
          : (b : Bool) → eqb begin 0 ≡ b
          → Seeking (read_rule arity) pnil s count (pred rule) begin (cond b 0 (rule - 1))
      go true e =
          subst (λ (a : ℕ). Seeking (read_rule arity) pnil s count (pred rule) a 0) (sym (eqb-true begin 0 e))
          (seeking_starts (read_rule arity) pnil s count (pred rule) among read)
      go false e =
          let before : pred rule ≡ rule - 1 = omega (arith, first) in
          subst (λ (k : ℕ). Seeking (read_rule arity) pnil s count (pred rule) begin k) before (noted (eqb-false begin 0 e))

-- The tests stay where no begin was noted yet, and where one more is.
pub tests_start : (kept : List ℕ) → length kept ≡ 324 → TestsStay kept kept
tests_start kept long = record { entries = long; same = λ k h. refl }

pub tests_stay
    : (kept others : List ℕ) (i at : ℕ) {next : List ℕ} → TestsStay kept others → next ≡ noted_in others i at → length next ≡ 324
    → TestsStay kept next
tests_stay kept others i at {next} stay e long = record {
  entries = long;
  same = λ k h. ap (λ (l : List ℕ). get_or l k 0) e ∙ go (ltb i 64) k h ∙ stay.same k h;
}
  where
    go : (b : Bool) (k : ℕ) → k < 68 → get_or (cond b (set others (68 + i) at) others) k 0 ≡ get_or others k 0
    go true k h = get_or-set_other others (68 + i) k at 0 (λ d. let z : ⊥ = omega (arith, d, h) in z)
    go false k h = refl

-- In new tables with the tests of arrays none is noted.
pub none_noted
    : (words codes : List ℕ) (pairs : ℕ) → Arrays words codes pairs → (s : List ℕ) (arity count : ℕ)
    → Begins s arity count (tests_put (places_in words) (take pairs codes) (replicate 324 0))
none_noted words codes pairs arrays s arity count =
    let ps = places_in words in
    let cs = take pairs codes in
    begins_none s arity count (tests_put ps cs (replicate 324 0))
    (λ k h.
    listed_other ps cs (replicate 324 0) (length-replicate {A = ℕ} 324 0) (arrays_fit words codes pairs arrays) k h ∙ zeros 324 k)
