-- Tidy sheets (document 02, request 2): "A writer gives every accepted sheet one form".
use Rattle.std.specs.Prelude.{ℕ, ◌↔◌, List, [], ◌∷◌, map}
use Rattle.basics.specs.Lists.{Mem}
use Rattle.terms.specs.Pattern.{Patterns}
use Rattle.terms.specs.RuleTests.{PlaceTest, PairTest, place_tests, pair_tests}
use Rattle.sheet.specs.Sheet.{Sheet}
use Rattle.sheet.specs.WriteSheet.{sheet_bytes}
use Rattle.tidy.specs.TidyRule.{tidy_rule}

-- "Rules keep their order."
abbrev pub tidy_sheet : Sheet → Sheet
tidy_sheet sheet = record { arity = sheet.arity; rules = map tidy_rule sheet.rules }

-- The bytes that an accepted sheet gets.
abbrev pub tidy_bytes : Sheet → List ℕ
tidy_bytes sheet = sheet_bytes (tidy_sheet sheet)

-- Two rules have "the same tests": each place test of the one, with what it wants, is one of the other, and each equality test.
abbrev pub SameTests : Patterns → Patterns → Type 0
SameTests rule other =
    ((x : PlaceTest) → Mem x (place_tests rule) ↔ Mem x (place_tests other))
    × ((x : PairTest) → Mem x (pair_tests rule) ↔ Mem x (pair_tests other))

-- Two sheets have them "rule for rule": as many rules, the first like the first, and so on.
abbrev pub AllSameTests : List Patterns → List Patterns → Type 0
AllSameTests [] [] = Unit
AllSameTests [] (other ∷ others) = ⊥
AllSameTests (rule ∷ rules) [] = ⊥
AllSameTests (rule ∷ rules) (other ∷ others) = SameTests rule other × AllSameTests rules others
