-- The list of a suspended piece where places hold spans (document 02, request 4), as the piece's cells tell it: "a place met is
-- also listed if its span lies partly inside and partly outside the range of a rule live there".
use Rattle.std.specs.Prelude.{ℕ, ◌/◌, Bool, false, ◌||◌, cond, List, [], ◌∷◌, map, eqb, leb, get_or}
use Rattle.masks.specs.Mask.{has, mask_of}
use Rattle.basics.specs.Lists.{any_of}
use Rattle.terms.specs.Pattern.{Patterns}
use Rattle.sheet.specs.views.Noted.{rule_notes}
use Rattle.sheet_tests.specs.SheetTests.{Test}
use Rattle.codes.specs.views.Codes.{unknown_run}
use Rattle.rule_masks.specs.declared.Masks.{Masks}
use Rattle.rule_masks.specs.views.TestNumbers.{test_number, code_test, with_if}
use Rattle.rule_masks.specs.views.RuleMasks.{notes_masks}
use Rattle.waiting.specs.views.OpenTests.{met_waits}

-- A run of several codes, but not of all: a span.
abbrev pub is_span : ℕ → Bool
is_span run = cond (eqb run unknown_run) false (leb 0x100000000 run)

-- The test with a code has a span at its place, or at the first of its two.
abbrev pub span_at : List ℕ → ℕ → Bool
span_at cells code = is_span (get_or cells (code / 0x1_0000) 0)

-- The numbers of the tests met.
abbrev pub met_numbers : List Test → List ℕ → List ℕ
met_numbers tests met = map (λ (c : ℕ). test_number tests (code_test c)) met

-- The set with what one rule adds: "a rule is live until a test of it met there is contradicted", and until then those of the tests
-- met, by their numbers, that are not known for it are listed.
abbrev pub with_rule : Masks → List ℕ → ℕ → ℕ
with_rule m [] set = set
with_rule m (t ∷ ts) set = cond (has m.contradicted t) set (with_rule m ts (with_if (has m.unknown t) set t))

module _ (tests : List Test) (cells : List ℕ) where
  -- With what each of the rules adds.
  abbrev pub with_rules : List ℕ → List Patterns → ℕ → ℕ
  with_rules numbers [] set = set
  with_rules numbers (r ∷ rs) set = with_rules numbers rs (with_rule (notes_masks tests cells (rule_notes r)) numbers set)

  -- The tests met that are not known and, where a span is met, those not known for a rule that is live there.
  unfoldable pub span_list : List Patterns → List ℕ → ℕ
  span_list rules met =
      cond (any_of (span_at cells) met)
      (mask_of 64 (λ t. has (met_waits tests cells met) t || has (with_rules (met_numbers tests met) rules 0) t))
      (met_waits tests cells met)
