-- What the listing prints for the bytes of sheet.bin and of standard input (document 01, "One listing").
use Rattle.std.specs.Prelude.{ℕ, cond, List, eqb, take, replicate}
use Rattle.build.specs.BuildOutcome.{BuildOutcome, build_outcome}
use Rattle.lines.specs.Lines.{refused_line}
use Rattle.piece_lines.specs.BuiltLines.{built_lines}

-- What is printed after a build: the graph's bytes are those written at the front of its buffer.
abbrev pub lines_after : List ℕ → List ℕ → BuildOutcome → List ℕ
lines_after s input built =
    let v = built.values in
    cond (eqb v.refusal 0) (built_lines s (take v.bytes built.buffer) v.nodes input) (refused_line v.refusal)

-- "Each input is cut after 65,536 bytes; the graph's buffer has as many."
abbrev pub most_bytes : ℕ
most_bytes = 65536

unfoldable pub listed : List ℕ → List ℕ → List ℕ
listed s input = lines_after s input (build_outcome s (replicate most_bytes 0))

-- "The program reads a sheet from sheet.bin (empty if missing) and, on standard input, pieces one after another".
abbrev pub listing_bytes : List ℕ → List ℕ → List ℕ
listing_bytes s input = listed (take most_bytes s) (take most_bytes input)
