-- What a call of the static library hands back (include/voltunnis.h): one number of 64 bits, packed from the lowest bit up: 8 bits
-- for the refusal's number, 0 when accepted, then the fields. The fields are document 01's values ("Questions at the counter").
use Rattle.std.specs.Prelude.{ℕ, ◌+◌, ◌*◌, ◌/◌, ◌%◌, ◌<◌, ◌≡◌, List, [], ◌∷◌}
use Rattle.basics.specs.Lists.{All}
use Rattle.sheet_tests.specs.CheckSheet.{SheetValues}
use Rattle.piece.specs.CheckPiece.{PieceValues}
use Rattle.plain.specs.Plain.{PlainValues}
use Rattle.graph_check.specs.CheckGraph.{GraphValues}
use Rattle.records.specs.Written.{Result}
use Rattle.build.specs.BuildOutcome.{BuildValues}
use Rattle.walk.specs.Walking.{WalkValues}

-- A field: its value, and how many values its bits can have.
pub record Field : Type 0 where
  pub values : ℕ
  pub value : ℕ

abbrev pub bits8 : ℕ → Field
bits8 x = record { values = 0x100; value = x }

abbrev pub bits16 : ℕ → Field
bits16 x = record { values = 0x1_0000; value = x }

abbrev pub bits32 : ℕ → Field
bits32 x = record { values = 0x1_0000_0000; value = x }

-- Fields from the lowest bit up, each above the one before it.
abbrev pub packed : List Field → ℕ
packed [] = 0
packed (f ∷ fs) = f.value + f.values * packed fs

-- The number is those fields packed, and each has room in its bits.
abbrev pub Packs : ℕ → List Field → Type 0
Packs r fs = (r ≡ packed fs) × All (λ (f : Field). f.value < f.values) fs

-- Bits 0 to 7, 8 to 15, 16 to 23 and 24 to 31 of a number, as shifts and masks take them out.
abbrev pub LowBytes : ℕ → ℕ → ℕ → ℕ → ℕ → Type 0
LowBytes r first second third fourth =
    (r % 0x100 ≡ first)
    × (r / 0x100 % 0x100 ≡ second)
    × (r / 0x1_0000 % 0x100 ≡ third)
    × (r / 0x100_0000 % 0x100 ≡ fourth)

-- "a sheet check gives arity, rules and tests"
abbrev pub sheet_fields : SheetValues → List Field
sheet_fields x = bits8 x.refusal ∷ bits8 x.arity ∷ bits8 x.rules ∷ bits8 x.tests ∷ []

-- "a piece check arity"
abbrev pub piece_fields : PieceValues → List Field
piece_fields x = bits8 x.refusal ∷ bits8 x.arity ∷ []

-- "The plain answer gives only answer word and rule"
abbrev pub plain_fields : PlainValues → List Field
plain_fields x = bits8 x.refusal ∷ bits8 x.word ∷ bits8 x.rule ∷ []

-- "a graph check nodes"
abbrev pub graph_fields : GraphValues → List Field
graph_fields x = bits8 x.refusal ∷ bits16 x.nodes ∷ []

-- "any other writer bytes written"
abbrev pub written_fields : Result → List Field
written_fields x = bits8 x.refusal ∷ bits32 x.bytes ∷ []

-- "a build nodes and bytes written"
abbrev pub built_fields : BuildValues → List Field
built_fields x = bits8 x.refusal ∷ bits16 x.nodes ∷ bits32 x.bytes ∷ []

-- "An answer is commit, execute, suspend or fail, with the rule (0 for suspend and fail), edges walked"
abbrev pub walk_fields : WalkValues → List Field
walk_fields x = bits8 x.refusal ∷ bits8 x.word ∷ bits8 x.rule ∷ bits8 x.edges ∷ []
