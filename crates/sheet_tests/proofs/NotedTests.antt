-- What an accepted rule tests, off its notes.
use Prim.Native.Nat.{ℕ, suc, ◌+◌, ◌*◌, ◌≤◌}
use mathlib.Core.Path.{◌≡◌, refl, ap, ◌∙◌}
use mathlib.Core.Bool.{Bool, true, false}
use mathlib.Core.List.{List, [], ◌∷◌, ◌++◌, map, map-append}
use mathlib.Core.Option.{Option, some, none}
use native.Mathlib.Omega.{arith}
use Rattle.basics.specs.Lists.{All}
use Rattle.terms.specs.Pattern.{Patterns, count_patterns}
use Rattle.terms.specs.RuleTests.{Range, PlaceTest, Occurrence, range_test, place_tests, rule_variables}
use Rattle.terms.specs.Accepted.{Sounds, AcceptedRule}
use Rattle.patterns.specs.declared.PatternRecord.{PatternRecord}
use Rattle.patterns.specs.declared.PatternRecord.TheVariants.{Anything, Symbol, Range as RangeOf, Compound, Variable, Ranged, Series, Gauged}
use Rattle.patterns.specs.views.Note.{Note}
use Rattle.sheet.specs.views.Noted.{rule_notes}
use Rattle.sheet.specs.views.NoteRanges.{range_in}
use Rattle.sheet.proofs.NotePlaces.{Ascending, ascending_wider, patterns_places}
use Rattle.sheet.proofs.NoteTests.{record_tests, tests_in, record_variables, variables_in, rule_tests_lem, rule_variables_lem}
use Rattle.pairs.specs.views.NoteVariables.{name_of, occurrence, notes_variables, Placed}
use Rattle.sheet_tests.specs.views.NoteTests.{tested_places, is_tested}
use Rattle.masks.proofs.Listed.{cons_if}

-- There is a range.
abbrev pub is_some : Option Range → Bool
is_some none = false
is_some (some x) = true

-- The place of a test.
abbrev pub test_place : PlaceTest → ℕ
test_place x = x.place

range_place : (n : ℕ) (x : Option Range) (l : List ℕ) → map test_place (range_test n x) ++ l ≡ cons_if (is_some x) n l
range_place n none l = refl
range_place n (some x) l = refl

record_place
    : (range_of : ℕ → Option Range) (n : ℕ) (r : PatternRecord) (l : List ℕ)
    → map test_place (record_tests range_of n r) ++ l ≡ cons_if (is_tested (λ v. is_some (range_of v)) r) n l
record_place range_of n Anything l = refl
record_place range_of n (Symbol a) l = refl
record_place range_of n (RangeOf a b) l = refl
record_place range_of n (Compound a k) l = refl
record_place range_of n (Variable v) l = range_place n (range_of v) l
record_place range_of n (Ranged v a b) l = range_place n (range_of v) l
record_place range_of n (Series a b) l = refl
record_place range_of n (Gauged g a b) l = refl

notes_tested
    : (range_of : ℕ → Option Range) (notes : List Note)
    → map test_place (tests_in range_of notes) ≡ tested_places (λ v. is_some (range_of v)) notes
notes_tested range_of [] = refl
notes_tested range_of (n ∷ notes) =
    map-append test_place (record_tests range_of n.place n.what) (tests_in range_of notes)
    ∙ ap (λ (l : List ℕ). map test_place (record_tests range_of n.place n.what) ++ l) (notes_tested range_of notes)
    ∙ record_place range_of n.place n.what (tested_places (λ v. is_some (range_of v)) notes)

-- The places of a rule's place tests.
pub rule_tested
    : {arity : ℕ} {rule : Patterns} → AcceptedRule arity rule
    → map test_place (place_tests rule) ≡ tested_places (λ v. is_some (range_in (rule_notes rule) v)) (rule_notes rule)
rule_tested {rule = rule} accepted =
    ap (map test_place) (rule_tests_lem accepted) ∙ notes_tested (range_in (rule_notes rule)) (rule_notes rule)

record_variable : (n : ℕ) (r : PatternRecord) (os : List Occurrence) → record_variables n r ++ os ≡ occurrence n (name_of r) os
record_variable n Anything os = refl
record_variable n (Symbol a) os = refl
record_variable n (RangeOf a b) os = refl
record_variable n (Compound a k) os = refl
record_variable n (Variable v) os = refl
record_variable n (Ranged v a b) os = refl
record_variable n (Series a b) os = refl
record_variable n (Gauged g a b) os = refl

notes_varied : (notes : List Note) → variables_in notes ≡ notes_variables notes
notes_varied [] = refl
notes_varied (n ∷ notes) =
    ap (λ (os : List Occurrence). record_variables n.place n.what ++ os) (notes_varied notes)
    ∙ record_variable n.place n.what (notes_variables notes)

-- The variables of a rule with their places.
pub rule_varied : {arity : ℕ} {rule : Patterns} → AcceptedRule arity rule → rule_variables rule ≡ notes_variables (rule_notes rule)
rule_varied {rule = rule} accepted = rule_variables_lem accepted ∙ notes_varied (rule_notes rule)

ascending_ends : (low high : ℕ) (notes : List Note) → Ascending low notes high → low ≤ high
ascending_ends low high [] h = h
ascending_ends low high (n ∷ notes) h = omega (arith, h.0, ascending_ends (suc n.place) high notes h.1)

ascending_placed : (low : ℕ) (notes : List Note) → Ascending low notes 680 → All Placed notes
ascending_placed low [] h = tt
ascending_placed low (n ∷ notes) h =
    (omega (arith, ascending_ends (suc n.place) 680 notes h.1), ascending_placed (suc n.place) notes h.1)

-- The notes of a rule of at most 8 arguments have places among the 680, once its patterns are sound.
pub sounds_placed : (rule : Patterns) → Sounds rule 4 → count_patterns rule ≤ 8 → All Placed (rule_notes rule)
sounds_placed rule sounds few =
    ascending_placed 0 (rule_notes rule)
    (ascending_wider (rule_notes rule) 0 0 (0 + count_patterns rule * 85) 680 (omega arith) (omega arith)
    (patterns_places rule 3 0 sounds))

pub rule_placed : (arity : ℕ) (rule : Patterns) → AcceptedRule arity rule → arity ≤ 8 → All Placed (rule_notes rule)
rule_placed arity rule accepted few = sounds_placed rule accepted.sound (omega (arith, accepted.arguments))
