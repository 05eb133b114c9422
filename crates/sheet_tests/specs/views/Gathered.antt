-- What is gathered of the rules of a sheet while they are read: the places of their place tests and the numbers of their pairs.
use Rattle.std.specs.Prelude.{ℕ, ◌≤◌, ◌≡◌, List, [], ◌∷◌, ◌++◌, map, length, Result, Ok, Err}
use Rattle.records.specs.Reading.{Reading, took}
use Rattle.records.specs.Refusals.{reading_in}
use Rattle.records.specs.declared.refusal.Refusal.{Refusal}
use Rattle.terms.specs.Pattern.{Patterns}
use Rattle.terms.specs.RuleTests.{PlaceTest, place_tests, pair_tests}
use Rattle.patterns.specs.views.Note.{Note}
use Rattle.sheet.specs.views.NoteRanges.{highs_of}
use Rattle.sheet_tests.specs.views.TestedPlaces.{places_in, insert_all}
use Rattle.pairs.specs.views.KeptPairs.{KeptPairs, keep_all, pairs_in}
use Rattle.pairs.specs.views.NoteVariables.{pair_codes, notes_codes}
use Rattle.sheet_tests.specs.views.NoteTests.{tested_places, has_range}
use Rattle.sheet_tests.specs.declared.Scan.{Scan}

-- Of one rule.
abbrev pub rule_places : Patterns → List ℕ
rule_places rule = map (λ (x : PlaceTest). x.place) (place_tests rule)

abbrev pub rule_codes : Patterns → List ℕ
rule_codes rule = pair_codes (pair_tests rule)

-- Of all rules one after another.
abbrev pub sheet_places : List Patterns → List ℕ
sheet_places [] = []
sheet_places (rule ∷ rules) = rule_places rule ++ sheet_places rules

abbrev pub sheet_codes : List Patterns → List ℕ
sheet_codes [] = []
sheet_codes (rule ∷ rules) = rule_codes rule ++ sheet_codes rules

-- The places and the pairs, each ascending.
pub record Gathered : Type 0 where
  pub places : List ℕ
  pub pairs : KeptPairs

abbrev pub gathered : List ℕ → List ℕ → Gathered → Gathered
gathered ps cs g = record { places = insert_all ps g.places; pairs = keep_all cs g.pairs }

-- Those of rules besides, and those of a rule's notes.
abbrev pub gather : List Patterns → Gathered → Gathered
gather rules g = gathered (sheet_places rules) (sheet_codes rules) g

abbrev pub gather_notes : List Note → Gathered → Gathered
gather_notes notes g = gathered (tested_places (has_range (highs_of notes)) notes) (notes_codes notes) g

-- What the arrays hold.
abbrev pub held : List ℕ → List ℕ → ℕ → Gathered
held words codes count = record { places = places_in words; pairs = pairs_in codes count }

-- How reading the rules went, as what was gathered. After a refusal the arrays hold nothing of use.
abbrev pub gathered_in : List ℕ → List ℕ → Result Scan Refusal → Reading Gathered
gathered_in words codes = reading_in (λ x. took x.bytes (held words codes x.pairs))

-- The rules used at most so many bytes, there are at most 65 pairs, and the arrays have their entries.
abbrev pub scan_bytes : Result Scan Refusal → ℕ
scan_bytes (Ok x) = x.bytes
scan_bytes (Err r) = 0

abbrev pub pairs_kept : Result Scan Refusal → ℕ
pairs_kept (Ok x) = x.pairs
pairs_kept (Err r) = 0

pub record Scanned (bytes : ℕ) (words codes : List ℕ) (r : Result Scan Refusal) : Type 0 where
  pub used : scan_bytes r ≤ bytes
  pub few_pairs : pairs_kept r ≤ 65
  pub all_words : length words ≡ 11
  pub all_codes : length codes ≡ 65
