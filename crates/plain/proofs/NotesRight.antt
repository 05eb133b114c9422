-- The outcome of a rule off its notes, in a piece laid out by place, is the outcome of the rule's tests in the piece.
use Prim.Native.Nat.{ℕ, ◌≤◌, ◌<◌}
use mathlib.Core.Path.{◌≡◌, refl, sym, ap, ◌∙◌, subst}
use mathlib.Core.Bool.{Bool}
use mathlib.Core.List.{List, [], ◌∷◌}
use mathlib.Core.Option.{Option, some, none}
use native.Mathlib.Omega.{arith}
use lib.Dec.{eqb}
use lib.ListN.{get_or}
use borrow.Author.Tests.{le-leb}
use Rattle.basics.specs.Lists.{All}
use Rattle.terms.specs.Term.{Terms, on_gauge}
use Rattle.terms.specs.Pattern.{Patterns}
use Rattle.terms.specs.RuleTests.{Range, Want, a_symbol, a_number, a_compound, at, PairTest, both, Occurrence, range_test, pairs_with, pairs_of}
use Rattle.terms.specs.Outcome.{◌and◌, together, place_outcome, rule_outcome}
use Rattle.terms.specs.Outcome as outcome
use Rattle.terms.specs.Accepted.{InCommon, AcceptedRule, AcceptedPiece}
use Rattle.basics.proofs.Booleans.{cond_holds}
use Rattle.basics.proofs.ListLaws.{all_join, all_map}
use Rattle.terms.proofs.Ranges.{WideRange, ranges_wide}
use Rattle.terms.proofs.Gauges.{gauged_number}
use Rattle.patterns.specs.declared.PatternRecord.{PatternRecord}
use Rattle.patterns.specs.declared.PatternRecord.TheVariants.{Anything, Symbol, Range as RangeOf, Compound, Variable, Ranged, Series, Gauged}
use Rattle.patterns.specs.views.Note.{Note}
use Rattle.sheet.specs.views.Noted.{rule_notes}
use Rattle.patterns.specs.views.NoteCode.{Fitting}
use Rattle.sheet.specs.views.NoteRanges.{range_in, low_end, high_end, lows_of, highs_of}
use Rattle.sheet.proofs.CommonRanges.{rule_range}
use Rattle.sheet.proofs.RangeArrays.{variable_at}
use Rattle.sheet.proofs.NoteTests.{record_tests, tests_in, rule_tests_lem}
use Rattle.std.specs.Prelude as std
use Rattle.pairs.specs.views.NoteVariables.{name_of, occurrence, notes_variables, Placed}
use Rattle.sheet_tests.proofs.NotedTests.{rule_varied}
use Rattle.piece.specs.views.LaidOut.{piece_cells}
use Rattle.codes.specs.views.Codes.{want_low, want_high}
use Rattle.codes.proofs.FitCodes.{WantFields}
use Rattle.outcomes.specs.views.CellOutcome.{place_cells}
use Rattle.outcomes.proofs.PlaceTestsAgree.{place_test_agrees}
use Rattle.outcomes.proofs.PairTestsAgree.{pair_test_agrees}
use Rattle.plain.specs.views.NotesOutcome.{tested_if, range_outcome, record_outcome, pair_test_cells, places_outcome, pairs_outcome, notes_outcome, cells_outcome}
use Rattle.plain.proofs.Gathering.{and_holds, together_append, together_same}
use Rattle.plain.proofs.SoundNotes.{NoteFits, rule_fits, rule_notes_placed}

-- A pair of places among the 680.
abbrev PairPlaced : PairTest → Type 0
PairPlaced x = (x.first < 680) × (x.second < 680)

abbrev OccurrencePlaced : Occurrence → Type 0
OccurrencePlaced o = o.place < 680

variables_placed : (notes : List Note) → All Placed notes → All OccurrencePlaced (notes_variables notes)
variables_placed [] h = tt
variables_placed (n ∷ notes) h = go (name_of n.what) (variables_placed notes h.1)
  where
    go
        : (name : std.Option ℕ) → All OccurrencePlaced (notes_variables notes)
        → All OccurrencePlaced (occurrence n.place name (notes_variables notes))
    go std.None rest = rest
    go (std.Some v) rest = (h.0, rest)

with_placed
    : (p v : ℕ) → p < 680 → (os : List Occurrence) → All OccurrencePlaced os → All PairPlaced (pairs_with p v os)
with_placed p v own [] h = tt
with_placed p v own (o ∷ os) h =
    cond_holds (All PairPlaced) (eqb v o.name) (both p o.place ∷ pairs_with p v os) (pairs_with p v os)
    ((own, h.0), with_placed p v own os h.1) (with_placed p v own os h.1)

pairs_placed : (os : List Occurrence) → All OccurrencePlaced os → All PairPlaced (pairs_of os)
pairs_placed [] h = tt
pairs_placed (o ∷ os) h =
    all_join PairPlaced (pairs_with o.place o.name os) (pairs_of os) (with_placed o.place o.name h.0 os h.1)
    (pairs_placed os h.1)

module _ {arity : ℕ} (piece : Terms) (ok : AcceptedPiece arity piece) (few : arity ≤ 8) where
  abbrev cells : List ℕ
  cells = piece_cells piece

  -- One place test.
  one_test
      : (p : ℕ) (w : Want) → p < 680 → WantFields w
      → place_cells cells p (want_low w) (want_high w) ≡ together (place_outcome piece) (at p w ∷ [])
  one_test p w h fields = place_test_agrees arity piece ok few w fields p h ∙ sym (and_holds (place_outcome piece (at p w)))

  -- The test of a common range.
  range_right
      : (p : ℕ) (x : Option Range) → p < 680 → InCommon x → WideRange x
      → range_outcome cells p (low_end x) (high_end x) ≡ together (place_outcome piece) (range_test p x)
  range_right p none h Some-number wide = refl
  range_right p (some x) h Some-number wide =
      let test = place_cells cells p (want_low (a_number x.low x.high)) (want_high (a_number x.low x.high)) in
      ap (λ (b : Bool). tested_if b test) (le-leb x.high 65535 (omega (arith, wide)))
      ∙ one_test p (a_number x.low x.high) h (omega (arith, Some-number, wide), omega (arith, wide))

  module _ (range_of : ℕ → Option Range) (low high : List ℕ)
      (lows : (v : ℕ) → v < 16 → get_or low v 0 ≡ low_end (range_of v))
      (highs : (v : ℕ) → v < 16 → get_or high v 0 ≡ high_end (range_of v))
      (commons : (v : ℕ) → InCommon (range_of v)) (wides : (v : ℕ) → WideRange (range_of v)) where
    variable_right
        : (p v : ℕ) → p < 680 → v < 16
        → range_outcome cells p (get_or low v 0) (get_or high v 0) ≡ together (place_outcome piece) (range_test p (range_of v))
    variable_right p v h small =
        (λ j. range_outcome cells p (lows v small j) (highs v small j)) ∙ range_right p (range_of v) h (commons v) (wides v)

    -- The place tests of a record.
    record_right
        : (p : ℕ) (r : PatternRecord) → p < 680 → Fitting r
        → record_outcome cells low high p r ≡ together (place_outcome piece) (record_tests range_of p r)
    record_right p Anything h fits = refl
    record_right p (Symbol a) h fits = one_test p (a_symbol a a) h (fits, fits)
    record_right p (RangeOf l u) h fits = one_test p (a_number l u) h (omega (arith, fits.0), omega (arith, fits.1))
    record_right p (Compound a k) h fits = one_test p (a_compound a k) h fits
    record_right p (Variable v) h fits = variable_right p v h fits
    record_right p (Ranged v l u) h fits = variable_right p v h fits.0
    record_right p (Series l u) h fits = one_test p (a_symbol l u) h fits
    record_right p (Gauged g l u) h fits =
        one_test p (a_number (on_gauge g l) (on_gauge g u)) h
        (gauged_number g l fits.0 fits.1, gauged_number g u fits.0 fits.2)

    -- All place tests of a list of notes.
    notes_right
        : (notes : List Note) → All Placed notes → All NoteFits notes
        → places_outcome cells low high notes ≡ together (place_outcome piece) (tests_in range_of notes)
    notes_right [] h fits = refl
    notes_right (n ∷ notes) h fits =
        let own = record_tests range_of n.place n.what in
        (λ j. ◌and◌ (record_right n.place n.what h.0 fits.0 j) (notes_right notes h.1 fits.1 j))
        ∙ sym (together_append (place_outcome piece) own (tests_in range_of notes))

  -- All equality tests of a list of notes.
  pairs_right
      : (notes : List Note) → All Placed notes
      → pairs_outcome cells notes ≡ together (outcome.pair_outcome piece) (pairs_of (notes_variables notes))
  pairs_right notes h =
      let pairs = pairs_of (notes_variables notes) in
      together_same (pair_test_cells cells) (outcome.pair_outcome piece) pairs
      (all_map PairPlaced (λ (x : PairTest). pair_test_cells cells x ≡ outcome.pair_outcome piece x)
      (λ x placed. pair_test_agrees arity piece ok few x.first x.second placed.0 placed.1) pairs
      (pairs_placed (notes_variables notes) (variables_placed notes h)))

  -- All tests of an accepted rule.
  pub rule_right
      : {rule : Patterns} → AcceptedRule arity rule → cells_outcome cells rule ≡ rule_outcome rule piece
  unfolding notes_outcome
  rule_right {rule = rule} accepted =
      let notes = rule_notes rule in
      let placed = rule_notes_placed accepted few in
      let ranges : ℕ → Option Range = range_in notes in
      let wides : (v : ℕ) → WideRange (ranges v) =
      λ v. subst WideRange (sym (rule_range rule v)) (ranges_wide rule 4 accepted.sound v) in
      let commons : (v : ℕ) → InCommon (ranges v) = λ v. subst InCommon (sym (rule_range rule v)) (accepted.common v) in
      let places =
      notes_right ranges (lows_of notes) (highs_of notes) (variable_at (λ (v : ℕ). low_end (ranges v)))
      (variable_at (λ (v : ℕ). high_end (ranges v))) commons wides notes placed (rule_fits accepted)
      ∙ ap (together (place_outcome piece)) (sym (rule_tests_lem accepted)) in
      let pairs =
      pairs_right notes placed
      ∙ ap (λ (os : List Occurrence). together (outcome.pair_outcome piece) (pairs_of os)) (sym (rule_varied accepted)) in
      λ j. ◌and◌ (places j) (pairs j)
