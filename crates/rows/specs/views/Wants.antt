-- The place tests of a rule, off its notes: what a record wants at its place, where low and high are the ends of the variables'
-- common ranges.
use Rattle.std.specs.Prelude as std
use Rattle.std.specs.Prelude.{Some, None, ℕ, Bool, true, false, List, [], ◌∷◌, ltb, get_or}
use Rattle.std.proofs.Math.Option.{Option, some, none}
use Rattle.terms.specs.Term.{on_gauge}
use Rattle.terms.specs.RuleTests.{Want, a_symbol, a_number, a_compound, PlaceTest, at}
use Rattle.patterns.specs.declared.PatternRecord.{PatternRecord}
use Rattle.patterns.specs.declared.PatternRecord.TheVariants.{Anything, Symbol, Range, Compound, Variable, Ranged, Series, Gauged}
use Rattle.patterns.specs.views.Note.{Note}
use Rattle.codes.specs.views.Codes.{want_low, want_high}
use Rattle.rows.specs.declared.Codes.{Codes}

-- A variable's common range is wanted where it has one. A high end over 65,535 says that it has none.
abbrev pub number_if : Bool → ℕ → ℕ → Option Want
number_if true low high = some (a_number low high)
number_if false low high = none

abbrev pub range_want : ℕ → ℕ → Option Want
range_want low high = number_if (ltb high 0x1_0000) low high

-- "one place test for each symbol, range or compound (id and arity)", "Pattern 21 is then the series of one symbol"
abbrev pub record_want : List ℕ → List ℕ → PatternRecord → Option Want
record_want low high Anything = none
record_want low high (Symbol a) = some (a_symbol a a)
record_want low high (Range l h) = some (a_number l h)
record_want low high (Compound a n) = some (a_compound a n)
record_want low high (Variable v) = range_want (get_or low v 0) (get_or high v 0)
record_want low high (Ranged v l h) = range_want (get_or low v 0) (get_or high v 0)
record_want low high (Series l h) = some (a_symbol l h)
record_want low high (Gauged g l h) = some (a_number (on_gauge g l) (on_gauge g h))

abbrev pub test_if : ℕ → Option Want → List PlaceTest → List PlaceTest
test_if n none tests = tests
test_if n (some w) tests = at n w ∷ tests

abbrev pub notes_tests : List ℕ → List ℕ → List Note → List PlaceTest
notes_tests low high [] = []
notes_tests low high (n ∷ notes) = test_if n.place (record_want low high n.what) (notes_tests low high notes)

-- What is wanted as its lowest and its highest code.
abbrev pub wanted_codes : Option Want → std.Option Codes
wanted_codes none = None
wanted_codes (some w) = Some (record { low = want_low w; high = want_high w })
