-- The parts of the list of a suspended piece: what is not known alone, or with what the rules add.
use Prim.Native.Nat.{ℕ, ◌^◌, ◌≤◌, ◌<◌}
use mathlib.Core.Path.{◌≡◌, sym, ap, ◌∙◌}
use mathlib.Core.Bool.{Bool, true, false, ◌||◌, cond}
use mathlib.Core.List.{List}
use native.Mathlib.Omega.{arith}
use lib.Bits.{bit_or}
use lib.ListN.{length}
use Rattle.masks.specs.Mask.{has, mask_of}
use Rattle.masks.proofs.Operations.{union_is}
use Rattle.basics.specs.Lists.{All, any_of}
use Rattle.basics.proofs.ListLaws.{all_map}
use Rattle.basics.proofs.Filters.{all_mapped}
use Rattle.terms.specs.Pattern.{Patterns}
use Rattle.sheet_tests.specs.SheetTests.{Test}
use Rattle.rule_masks.specs.views.TestNumbers.{test_number, code_test, KeptCode}
use Rattle.rule_masks.proofs.Numbers.{number_there}
use Rattle.waiting.specs.views.OpenTests.{met_waits}
use Rattle.waiting.specs.views.SpanTests.{span_at, met_numbers, with_rules, span_list}

-- The tests met have numbers below their count.
pub numbers_below
    : (tests : List Test) (met : List ℕ) → All (KeptCode tests) met → All (λ t. t < length tests) (met_numbers tests met)
numbers_below tests met kept =
    all_mapped (λ t. t < length tests) (λ c. test_number tests (code_test c)) met
    (all_map (KeptCode tests) (λ c. test_number tests (code_test c) < length tests)
    (λ c k. number_there (code_test c) tests k.1) met kept)

pub numbers_few
    : (tests : List Test) → length tests ≤ 64 → (met : List ℕ) → All (KeptCode tests) met
    → All (λ t. t < 64) (met_numbers tests met)
numbers_few tests few met kept =
    all_map (λ t. t < length tests) (λ t. t < 64) (λ t h. omega arith) (met_numbers tests met) (numbers_below tests met kept)

module _ (tests : List Test) (cells : List ℕ) (rules : List Patterns) (met : List ℕ) where
  abbrev not_known : ℕ
  not_known = met_waits tests cells met

  abbrev both : ℕ
  both = mask_of 64 (λ t. has not_known t || has (with_rules tests cells (met_numbers tests met) rules 0) t)

  -- No span is met,
  pub list_short : any_of (span_at cells) met ≡ false → not_known ≡ span_list tests cells rules met
  unfolding span_list
  list_short e = sym (ap (λ (b : Bool). cond b both not_known) e)

  -- or one is.
  pub list_long : any_of (span_at cells) met ≡ true → span_list tests cells rules met ≡ both
  unfolding span_list
  list_long e = ap (λ (b : Bool). cond b both not_known) e

  pub list_both
      : {a b : ℕ} → a < 2 ^ 64 → b < 2 ^ 64 → a ≡ not_known → {numbers : List ℕ} → numbers ≡ met_numbers tests met
      → b ≡ with_rules tests cells numbers rules 0 → any_of (span_at cells) met ≡ true → bit_or a b ≡ span_list tests cells rules met
  list_both {a} {b} fits fit first are second e =
      union_is 64 a b fits fit
      ∙ (λ j. mask_of 64 (λ t. has (first j) t || has ((second ∙ ap (λ (ns : List ℕ). with_rules tests cells ns rules 0) are) j) t))
      ∙ sym (list_long e)
