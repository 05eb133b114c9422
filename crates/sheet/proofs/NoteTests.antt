-- The tests of a rule and the places of its variables, read off its notes.
use Prim.Native.Nat.{ℕ, zero, suc, ◌+◌}
use mathlib.Core.Path.{◌≡◌, refl, sym, ap, ◌∙◌}
use mathlib.Core.List.{List, [], ◌∷◌, ◌++◌, append-nil, append_assoc}
use mathlib.Core.Option.{Option}
use native.Mathlib.Omega.{arith}
use Rattle.places.specs.Numbering.{stride}
use Rattle.terms.specs.Term.{on_gauge}
use Rattle.terms.specs.Pattern.{Pattern, Patterns, count_patterns, anything, the_symbol, the_series, the_range, the_gauged, the_compound, variable, ranged_variable, pnil, pcons}
use Rattle.terms.specs.RuleTests.{Range, a_symbol, a_number, a_compound, PlaceTest, at, Occurrence, range_test, pattern_tests, patterns_tests, place_tests, pattern_variables, patterns_variables, rule_variables, patterns_range}
use Rattle.terms.specs.Accepted.{Sound, Sounds, AcceptedRule}
use Rattle.patterns.specs.declared.PatternRecord.{PatternRecord}
use Rattle.patterns.specs.declared.PatternRecord.TheVariants.{Anything, Symbol, Range as RangeOf, Compound, Variable, Ranged, Series, Gauged}
use Rattle.patterns.specs.views.Note.{Note}
use Rattle.sheet.specs.views.Noted.{pattern_notes, patterns_notes, rule_notes}
use Rattle.sheet.specs.views.NoteRanges.{range_in}
use Rattle.sheet.proofs.CommonRanges.{rule_range}
use Rattle.sheet.proofs.SpelledReads.{sounds_level}

-- The place tests that a record at place n gives, where range_of v is the common range of variable v.
abbrev pub record_tests : (ℕ → Option Range) → ℕ → PatternRecord → List PlaceTest
record_tests range_of n Anything = []
record_tests range_of n (Symbol a) = at n (a_symbol a a) ∷ []
record_tests range_of n (RangeOf l h) = at n (a_number l h) ∷ []
record_tests range_of n (Compound a k) = at n (a_compound a k) ∷ []
record_tests range_of n (Variable v) = range_test n (range_of v)
record_tests range_of n (Ranged v l h) = range_test n (range_of v)
record_tests range_of n (Series l h) = at n (a_symbol l h) ∷ []
record_tests range_of n (Gauged g l h) = at n (a_number (on_gauge g l) (on_gauge g h)) ∷ []

abbrev pub tests_in : (ℕ → Option Range) → List Note → List PlaceTest
tests_in range_of [] = []
tests_in range_of (n ∷ notes) = record_tests range_of n.place n.what ++ tests_in range_of notes

-- The variable that stands at place n, if the record is one.
abbrev pub record_variables : ℕ → PatternRecord → List Occurrence
record_variables n Anything = []
record_variables n (Symbol a) = []
record_variables n (RangeOf l h) = []
record_variables n (Compound a k) = []
record_variables n (Variable v) = record { place = n; name = v } ∷ []
record_variables n (Ranged v l h) = record { place = n; name = v } ∷ []
record_variables n (Series l h) = []
record_variables n (Gauged g l h) = []

abbrev pub variables_in : List Note → List Occurrence
variables_in [] = []
variables_in (n ∷ notes) = record_variables n.place n.what ++ variables_in notes

-- Both of two lists of notes are those of the first, then those of the second.
pub tests_append
    : (range_of : ℕ → Option Range) (xs ys : List Note)
    → tests_in range_of (xs ++ ys) ≡ tests_in range_of xs ++ tests_in range_of ys
tests_append range_of [] ys = refl
tests_append range_of (x ∷ xs) ys =
    let own = record_tests range_of x.place x.what in
    ap (own ++◌) (tests_append range_of xs ys) ∙ sym (append_assoc own (tests_in range_of xs) (tests_in range_of ys))

pub variables_append : (xs ys : List Note) → variables_in (xs ++ ys) ≡ variables_in xs ++ variables_in ys
variables_append [] ys = refl
variables_append (x ∷ xs) ys =
    let own = record_variables x.place x.what in
    ap (own ++◌) (variables_append xs ys) ∙ sym (append_assoc own (variables_in xs) (variables_in ys))

mutual
  -- The notes of a sound pattern give its tests, and so do those of a row.
  pattern_tests_lem
      : (range_of : ℕ → Option Range) (p : Pattern) (below b : ℕ) → Sound p (suc below)
      → tests_in range_of (pattern_notes p below b) ≡ pattern_tests range_of p (suc below) b
  pattern_tests_lem range_of anything below b sound = refl
  pattern_tests_lem range_of (the_symbol a) below b sound = refl
  pattern_tests_lem range_of (the_series l h) below b sound = refl
  pattern_tests_lem range_of (the_range l h) below b sound = refl
  pattern_tests_lem range_of (the_gauged g l h) below b sound = refl
  pattern_tests_lem range_of (the_compound a ps) zero b sound =
      absurd (omega (arith, sounds_level ps 0 sound.4 sound.2))
  pattern_tests_lem range_of (the_compound a ps) (suc below) b sound =
      ap (at b (a_compound a (count_patterns ps)) ∷◌) (patterns_tests_lem range_of ps below (suc b) sound.4)
  pattern_tests_lem range_of (variable v) below b sound = append-nil (range_test b (range_of v))
  pattern_tests_lem range_of (ranged_variable v l h) below b sound = append-nil (range_test b (range_of v))

  patterns_tests_lem
      : (range_of : ℕ → Option Range) (ps : Patterns) (below b : ℕ) → Sounds ps (suc below)
      → tests_in range_of (patterns_notes ps below b) ≡ patterns_tests range_of ps (suc below) b
  patterns_tests_lem range_of pnil below b sound = refl
  patterns_tests_lem range_of (pcons p ps) below b sound =
      let next = b + stride (suc below) in
      tests_append range_of (pattern_notes p below b) (patterns_notes ps below next)
      ∙ (λ j. pattern_tests_lem range_of p below b sound.0 j ++ patterns_tests_lem range_of ps below next sound.1 j)

mutual
  -- The notes of a sound pattern give the places of its variables, and so do those of a row.
  pattern_variables_lem
      : (p : Pattern) (below b : ℕ) → Sound p (suc below)
      → variables_in (pattern_notes p below b) ≡ pattern_variables p (suc below) b
  pattern_variables_lem anything below b sound = refl
  pattern_variables_lem (the_symbol a) below b sound = refl
  pattern_variables_lem (the_series l h) below b sound = refl
  pattern_variables_lem (the_range l h) below b sound = refl
  pattern_variables_lem (the_gauged g l h) below b sound = refl
  pattern_variables_lem (the_compound a ps) zero b sound = absurd (omega (arith, sounds_level ps 0 sound.4 sound.2))
  pattern_variables_lem (the_compound a ps) (suc below) b sound = patterns_variables_lem ps below (suc b) sound.4
  pattern_variables_lem (variable v) below b sound = refl
  pattern_variables_lem (ranged_variable v l h) below b sound = refl

  patterns_variables_lem
      : (ps : Patterns) (below b : ℕ) → Sounds ps (suc below)
      → variables_in (patterns_notes ps below b) ≡ patterns_variables ps (suc below) b
  patterns_variables_lem pnil below b sound = refl
  patterns_variables_lem (pcons p ps) below b sound =
      let next = b + stride (suc below) in
      variables_append (pattern_notes p below b) (patterns_notes ps below next)
      ∙ (λ j. pattern_variables_lem p below b sound.0 j ++ patterns_variables_lem ps below next sound.1 j)

-- The place tests of an accepted rule are those in its notes.
pub rule_tests_lem
    : {arity : ℕ} {rule : Patterns} → AcceptedRule arity rule
    → place_tests rule ≡ tests_in (range_in (rule_notes rule)) (rule_notes rule)
rule_tests_lem {rule = rule} accepted =
    sym (patterns_tests_lem (patterns_range rule) rule 3 0 accepted.sound)
    ∙ (λ j. tests_in (λ (v : ℕ). sym (rule_range rule v) j) (rule_notes rule))

-- The places of its variables are those in its notes.
pub rule_variables_lem
    : {arity : ℕ} {rule : Patterns} → AcceptedRule arity rule → rule_variables rule ≡ variables_in (rule_notes rule)
rule_variables_lem {rule = rule} accepted = sym (patterns_variables_lem rule 3 0 accepted.sound)
