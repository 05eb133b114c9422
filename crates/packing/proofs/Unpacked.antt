-- Each field of a result is taken out again as include/voltunnis.h says: by shifts and masks, which are / and % by powers of 2.
use Prim.Native.Nat.{ℕ, ◌/◌, ◌%◌}
use mathlib.Core.Path.{◌≡◌}
use native.Mathlib.Omega.{arith}
use Rattle.sheet_tests.specs.CheckSheet.{SheetValues}
use Rattle.piece.specs.CheckPiece.{PieceValues}
use Rattle.plain.specs.Plain.{PlainValues}
use Rattle.graph_check.specs.CheckGraph.{GraphValues}
use Rattle.records.specs.Written.{Result}
use Rattle.build.specs.BuildOutcome.{BuildValues}
use Rattle.walk.specs.Walking.{WalkValues}
use Rattle.packing.specs.Packed.{Packs, LowBytes}
use Rattle.packing.specs.Packed.{sheet_fields, piece_fields, plain_fields, graph_fields, written_fields, built_fields, walk_fields}

-- Refusal, arity, rules and tests of a sheet check,
pub sheet_unpacked : (r : ℕ) (x : SheetValues) → Packs r (sheet_fields x) → LowBytes r x.refusal x.arity x.rules x.tests
sheet_unpacked r x (e, (a, (b, (c, (d, _))))) = (omega arith, omega arith, omega arith, omega arith)

-- refusal and arity of a piece check,
pub piece_unpacked : (r : ℕ) (x : PieceValues) → Packs r (piece_fields x) → LowBytes r x.refusal x.arity 0 0
piece_unpacked r x (e, (a, (b, _))) = (omega arith, omega arith, omega arith, omega arith)

-- refusal, word and rule of a plain answer,
pub plain_unpacked : (r : ℕ) (x : PlainValues) → Packs r (plain_fields x) → LowBytes r x.refusal x.word x.rule 0
plain_unpacked r x (e, (a, (b, (c, _)))) = (omega arith, omega arith, omega arith, omega arith)

-- refusal, word, rule and edges of a walk;
pub walk_unpacked : (r : ℕ) (x : WalkValues) → Packs r (walk_fields x) → LowBytes r x.refusal x.word x.rule x.edges
walk_unpacked r x (e, (a, (b, (c, (d, _))))) = (omega arith, omega arith, omega arith, omega arith)

-- the nodes of a graph check in bits 8 to 23,
pub graph_unpacked
    : (r : ℕ) (x : GraphValues) → Packs r (graph_fields x) → (r % 0x100 ≡ x.refusal) × (r / 0x100 % 0x1_0000 ≡ x.nodes)
graph_unpacked r x (e, (a, (b, _))) = (omega arith, omega arith)

-- the bytes written by any writer but the build in bits 8 to 39,
pub written_unpacked
    : (r : ℕ) (x : Result) → Packs r (written_fields x) → (r % 0x100 ≡ x.refusal) × (r / 0x100 % 0x1_0000_0000 ≡ x.bytes)
written_unpacked r x (e, (a, (b, _))) = (omega arith, omega arith)

-- and the nodes and bytes of a build in bits 8 to 23 and 24 to 55.
pub built_unpacked
    : (r : ℕ) (x : BuildValues) → Packs r (built_fields x)
    → (r % 0x100 ≡ x.refusal) × (r / 0x100 % 0x1_0000 ≡ x.nodes) × (r / 0x100_0000 % 0x1_0000_0000 ≡ x.bytes)
built_unpacked r x (e, (a, (b, (c, _)))) = (omega arith, omega arith, omega arith)
