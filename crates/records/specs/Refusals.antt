-- The refusals by the numbers of their questions (document 01, "Questions at the counter"; document 02): "The first no, in order,
-- gives its number."
use Rattle.std.specs.Prelude.{ℕ, Ok, Err}
use Rattle.std.specs.Prelude as std
use Rattle.records.specs.Reading.{Reading, refused}
use Rattle.records.specs.declared.refusal.Refusal.{Refusal}
use Rattle.records.specs.declared.refusal.Refusal.TheVariants.{NotASheet, SheetArity, TooManyRules, NotAPattern, PatternTooDeep}
use Rattle.records.specs.declared.refusal.Refusal.TheVariants.{PatternArity, LowAboveHigh, NoSuchVariable, NoCommonNumber}
use Rattle.records.specs.declared.refusal.Refusal.TheVariants.{BytesAfterSheet, TooManyTests, NotAPiece, PieceArity, NotATerm}
use Rattle.records.specs.declared.refusal.Refusal.TheVariants.{TermTooDeep, TermArity, BytesAfterPiece, TooManyNodes, GraphTooLong}
use Rattle.records.specs.declared.refusal.Refusal.TheVariants.{AritiesDiffer, NotAGraph, NotANode, OutOfRange, NotAscending}
use Rattle.records.specs.declared.refusal.Refusal.TheVariants.{BytesAfterGraph, TooManyEdges, PlaceMissing, TableLength}
use Rattle.records.specs.declared.refusal.Refusal.TheVariants.{TablePlaces, ParentBehind, TidyTooLong, SpanLowAboveHigh}
use Rattle.records.specs.declared.refusal.Refusal.TheVariants.{NoSuchAnswer, PositionsLength, OrderTooLong}

-- A sheet's questions, a piece's, those of building and walking, of a reading order, of tidying, of spans, of a window, of a track
-- drawing.
abbrev pub number : Refusal → ℕ
number NotASheet = 1
number SheetArity = 2
number TooManyRules = 3
number NotAPattern = 4
number PatternTooDeep = 5
number PatternArity = 6
number LowAboveHigh = 7
number NoSuchVariable = 8
number NoCommonNumber = 9
number BytesAfterSheet = 10
number TooManyTests = 11
number NotAPiece = 12
number PieceArity = 13
number NotATerm = 14
number TermTooDeep = 15
number TermArity = 16
number BytesAfterPiece = 17
number TooManyNodes = 18
number GraphTooLong = 19
number AritiesDiffer = 20
number NotAGraph = 21
number NotANode = 22
number OutOfRange = 23
number NotAscending = 24
number BytesAfterGraph = 25
number TooManyEdges = 26
number PlaceMissing = 27
number TableLength = 28
number TablePlaces = 29
number ParentBehind = 30
number TidyTooLong = 31
number SpanLowAboveHigh = 32
number NoSuchAnswer = 36
number PositionsLength = 37
number OrderTooLong = 38

-- How a result reads: a value by what was read, an error by the number of its question.
abbrev pub reading_in : {A B : Type 0} → (A → Reading B) → std.Result A Refusal → Reading B
reading_in read (Ok x) = read x
reading_in read (Err r) = refused (number r)

-- The number of the question that got a no, 0 where none did.
abbrev pub refusal_in : {A : Type 0} → std.Result A Refusal → ℕ
refusal_in (Ok x) = 0
refusal_in (Err r) = number r
