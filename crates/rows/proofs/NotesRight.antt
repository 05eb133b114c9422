-- The place tests and the pairs of an accepted rule's notes are those of the rule.
use Prim.Native.Nat.{ℕ, suc, pred, ◌+◌, ◌<◌}
use mathlib.Core.Path.{◌≡◌, refl, sym, ap, ◌∙◌, subst}
use mathlib.Core.Bool.{Bool}
use mathlib.Core.List.{List, [], ◌∷◌, ◌++◌}
use mathlib.Core.Option.{Option, some, none}
use lib.ListN.{get_or}
use borrow.Author.Tests.{lt-ltb}
use Rattle.places.specs.Numbering.{stride}
use Rattle.basics.specs.Lists.{All}
use Rattle.terms.specs.Pattern.{Pattern, Patterns, anything, the_symbol, the_series, the_range, the_gauged, the_compound, variable, ranged_variable}
use Rattle.terms.specs.Pattern.{pnil, pcons}
use Rattle.terms.specs.RuleTests.{Range, PlaceTest, Occurrence, range_test, pairs_of, place_tests}
use Rattle.terms.specs.Accepted.{Sound, Sounds, AcceptedRule}
use Rattle.basics.proofs.ListLaws.{all_join}
use Rattle.terms.proofs.Ranges.{WideRange, ranges_wide}
use Rattle.patterns.specs.declared.PatternRecord.{PatternRecord}
use Rattle.patterns.specs.declared.PatternRecord.TheVariants.{Anything, Symbol, Range as RangeOf, Compound, Variable, Ranged, Series, Gauged}
use Rattle.patterns.specs.views.Note.{Note}
use Rattle.sheet.specs.views.Noted.{pattern_notes, patterns_notes, rule_notes}
use Rattle.sheet.specs.views.NoteRanges.{range_in, low_end, high_end, lows_of, highs_of}
use Rattle.sheet.proofs.CommonRanges.{rule_range}
use Rattle.sheet.proofs.RangeArrays.{variable_at}
use Rattle.sheet.proofs.NoteTests.{record_tests, tests_in, rule_tests_lem}
use Rattle.pairs.specs.views.NoteVariables.{pair_codes, notes_codes}
use Rattle.sheet_tests.specs.views.Gathered.{rule_codes}
use Rattle.sheet_tests.proofs.NotedTests.{rule_varied}
use Rattle.rows.specs.views.Wants.{number_if, range_want, record_want, test_if, notes_tests}

-- A record's variable, if it is one, is one of the 16.
abbrev Named : PatternRecord → Type 0
Named Anything = Unit
Named (Symbol a) = Unit
Named (RangeOf l h) = Unit
Named (Compound a n) = Unit
Named (Variable v) = v < 16
Named (Ranged v l h) = v < 16
Named (Series l h) = Unit
Named (Gauged g l h) = Unit

abbrev NoteNamed : Note → Type 0
NoteNamed n = Named n.what

mutual
  -- So are those of sound patterns.
  pattern_named : (p : Pattern) (r below b : ℕ) → Sound p r → All NoteNamed (pattern_notes p below b)
  pattern_named anything r below b sound = tt
  pattern_named (the_symbol a) r below b sound = (tt, tt)
  pattern_named (the_series l h) r below b sound = (tt, tt)
  pattern_named (the_range l h) r below b sound = (tt, tt)
  pattern_named (the_gauged g l h) r below b sound = (tt, tt)
  pattern_named (the_compound a ps) r below b sound = (tt, patterns_named ps (pred r) (pred below) (suc b) sound.4)
  pattern_named (variable v) r below b sound = (sound.1, tt)
  pattern_named (ranged_variable v l h) r below b sound = (sound.3, tt)

  patterns_named : (ps : Patterns) (r below b : ℕ) → Sounds ps r → All NoteNamed (patterns_notes ps below b)
  patterns_named pnil r below b sound = tt
  patterns_named (pcons p ps) r below b sound =
      let next = b + stride (suc below) in
      all_join NoteNamed (pattern_notes p below b) (patterns_notes ps below next) (pattern_named p r below b sound.0)
      (patterns_named ps r below next sound.1)

-- A common range, by its ends.
range_right
    : (n : ℕ) (x : Option Range) → WideRange x → (tests : List PlaceTest)
    → test_if n (range_want (low_end x) (high_end x)) tests ≡ range_test n x ++ tests
range_right n none wide tests = refl
range_right n (some x) wide tests =
    ap (λ (b : Bool). test_if n (number_if b x.low x.high) tests) (lt-ltb x.high 0x1_0000 wide)

module _ (range_of : ℕ → Option Range) (low high : List ℕ)
    (lows : (v : ℕ) → v < 16 → get_or low v 0 ≡ low_end (range_of v))
    (highs : (v : ℕ) → v < 16 → get_or high v 0 ≡ high_end (range_of v)) (wides : (v : ℕ) → WideRange (range_of v)) where
  variable_right
      : (n v : ℕ) → v < 16 → (tests : List PlaceTest)
      → test_if n (range_want (get_or low v 0) (get_or high v 0)) tests ≡ range_test n (range_of v) ++ tests
  variable_right n v h tests =
      (λ j. test_if n (range_want (lows v h j) (highs v h j)) tests) ∙ range_right n (range_of v) (wides v) tests

  record_right
      : (n : ℕ) (r : PatternRecord) → Named r → (tests : List PlaceTest)
      → test_if n (record_want low high r) tests ≡ record_tests range_of n r ++ tests
  record_right n Anything h tests = refl
  record_right n (Symbol a) h tests = refl
  record_right n (RangeOf l u) h tests = refl
  record_right n (Compound a k) h tests = refl
  record_right n (Variable v) h tests = variable_right n v h tests
  record_right n (Ranged v l u) h tests = variable_right n v h tests
  record_right n (Series l u) h tests = refl
  record_right n (Gauged g l u) h tests = refl

  notes_right : (notes : List Note) → All NoteNamed notes → notes_tests low high notes ≡ tests_in range_of notes
  notes_right [] h = refl
  notes_right (n ∷ notes) h =
      record_right n.place n.what h.0 (notes_tests low high notes)
      ∙ ap (λ (ts : List PlaceTest). record_tests range_of n.place n.what ++ ts) (notes_right notes h.1)

module _ {arity : ℕ} {rule : Patterns} (accepted : AcceptedRule arity rule) where
  abbrev notes : List Note
  notes = rule_notes rule

  -- What the notes want is what the rule wants,
  pub rule_wants : notes_tests (lows_of notes) (highs_of notes) notes ≡ place_tests rule
  rule_wants =
      let ranges : ℕ → Option Range = range_in notes in
      let wides : (v : ℕ) → WideRange (ranges v) =
      λ v. subst WideRange (sym (rule_range rule v)) (ranges_wide rule 4 accepted.sound v) in
      notes_right ranges (lows_of notes) (highs_of notes) (variable_at (λ (v : ℕ). low_end (ranges v)))
      (variable_at (λ (v : ℕ). high_end (ranges v))) wides notes (patterns_named rule 4 3 0 accepted.sound)
      ∙ sym (rule_tests_lem accepted)

  -- and their pairs are the rule's.
  pub rule_pairs : notes_codes notes ≡ rule_codes rule
  rule_pairs = ap (λ (os : List Occurrence). pair_codes (pairs_of os)) (sym (rule_varied accepted))
