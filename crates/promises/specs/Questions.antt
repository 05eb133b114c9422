-- The numbers that the documents name: by which questions each call may refuse (document 01, "Questions at the counter").
use Rattle.std.specs.Prelude.{ℕ, ◌≡◌, ◌⊎◌, List}
use Rattle.records.specs.Written.{Result}
use Rattle.order.specs.Asking.{Asking, lowest, by_table}
use Rattle.build.specs.BuildOutcome.{BuildOutcome, not_built}
use Rattle.accepted.specs.Questions.{Between, SheetQuestion}

-- "Piece": 12 to 17. Document 02, request 4: "a span with low above high is refused (32), after question 16 at that term".
abbrev pub PieceQuestion : ℕ → Type 0
PieceQuestion q = Between 12 17 q ⊎ (q ≡ 32)

-- "21 to 25": those of a graph.
abbrev pub GraphQuestion : ℕ → Type 0
GraphQuestion = Between 21 25

-- "At each switch or pair walked": 26 and 27.
abbrev pub PathQuestion : ℕ → Type 0
PathQuestion = Between 26 27

-- "The plain answer asks the sheet's, the piece's, then 20."
abbrev pub PlainQuestion : ℕ → Type 0
PlainQuestion q = SheetQuestion q ⊎ (PieceQuestion q ⊎ (q ≡ 20))

-- What a build asks before its graph: the sheet's questions, and where a table is loaded also (document 02, request 1): "After the
-- sheet's questions it refuses a table that isn't 1,360 bytes (28), has a place out of range or twice (29), or has one before its
-- parent (30), in this order."
abbrev pub AskedQuestion : Asking → ℕ → Type 0
AskedQuestion lowest q = SheetQuestion q
AskedQuestion (by_table table) q = SheetQuestion q ⊎ Between 28 30 q

-- "Building, after the sheet": 18 and 19.
abbrev pub BuildQuestion : Asking → ℕ → Type 0
BuildQuestion asking q = AskedQuestion asking q ⊎ Between 18 19 q

-- "Checking a graph alone asks the sheet's questions, then 21 to 25."
abbrev pub CheckQuestion : ℕ → Type 0
CheckQuestion q = SheetQuestion q ⊎ GraphQuestion q

-- "Writing read nodes again asks the same, then 19."
abbrev pub RewriteQuestion : ℕ → Type 0
RewriteQuestion q = CheckQuestion q ⊎ (q ≡ 19)

-- Document 02, request 2: "It refuses a buffer that is too short (31), after the sheet's questions."
abbrev pub TidyQuestion : ℕ → Type 0
TidyQuestion q = SheetQuestion q ⊎ (q ≡ 31)

-- "Walking, after sheet and piece": 20, then the graph's, then those "at each switch or pair walked".
abbrev pub WalkQuestion : ℕ → Type 0
WalkQuestion q = PlainQuestion q ⊎ (GraphQuestion q ⊎ PathQuestion q)

-- A call answers, with 0 for the refusal's number, or refuses by one of its questions.
abbrev pub AnswersOr : (ℕ → Type 0) → ℕ → Type 0
AnswersOr Question refusal = (refusal ≡ 0) ⊎ Question refusal

-- "The first no, in order, gives its number. Every other result field is then 0 and no buffer changes": so it is with a build,
abbrev pub BuildEnds : Asking → List ℕ → BuildOutcome → Type 0
BuildEnds asking buffer x =
    (x.values.refusal ≡ 0) ⊎ (BuildQuestion asking x.values.refusal × (x ≡ not_built x.values.refusal buffer))

-- and with every other writer.
abbrev pub WriterEnds : (ℕ → Type 0) → List ℕ → Result → Type 0
WriterEnds Question buffer x = (x.refusal ≡ 0) ⊎ (Question x.refusal × (x.bytes ≡ 0) × (x.buffer ≡ buffer))
