-- Document 01's example in bytes ("One listing").
use Rattle.std.specs.Prelude.{ℕ, List, [], ◌∷◌, ◌++◌, replicate}
use Rattle.basics.specs.Lists.{count_from}
use Rattle.order.specs.TableBytes.{table_bytes}

-- "Sheet f(X, X), f(1, 2) in symbols: 10 02 02 24 00 24 00 21 00 01 21 00 02."
abbrev pub example_sheet : List ℕ
example_sheet = 0x10 ∷ 0x02 ∷ 0x02 ∷ 0x24 ∷ 0x00 ∷ 0x24 ∷ 0x00 ∷ 0x21 ∷ 0x00 ∷ 0x01 ∷ 0x21 ∷ 0x00 ∷ 0x02 ∷ []

-- Its graph: 58 bytes in document 01, 61 since "the case count becomes wide, in the example graph too", 67 since "the example graph
-- takes the new case record", and 51 since "pairs are asked, in all graphs" (document 02, requests 4 to 6): unknown and the case
-- lead to the same node.
abbrev pub example_graph : List ℕ
example_graph =
    0x12 ∷ 0x02 ∷ 0x02 ∷ 0x00 ∷ 0x06
    ∷ 0x43 ∷ 0x00 ∷ 0x00 ∷ 0x00 ∷ 0x01 ∷ 0x00 ∷ 0x02 ∷ 0x00 ∷ 0x01 ∷ 0x44 ∷ 0x00 ∷ 0x01 ∷ 0x00 ∷ 0x01 ∷ 0x00 ∷ 0x01
    ∷ 0x43 ∷ 0x00 ∷ 0x55 ∷ 0x00 ∷ 0x01 ∷ 0x00 ∷ 0x02 ∷ 0x00 ∷ 0x03 ∷ 0x44 ∷ 0x00 ∷ 0x02 ∷ 0x00 ∷ 0x02 ∷ 0x00 ∷ 0x03
    ∷ 0x42 ∷ 0x01
    ∷ 0x47 ∷ 0x00 ∷ 0x00 ∷ 0x00 ∷ 0x55 ∷ 0x00 ∷ 0x04 ∷ 0x00 ∷ 0x05
    ∷ 0x42 ∷ 0x02
    ∷ 0x41 ∷ []

-- A buffer for it, all 0.
abbrev pub example_buffer : List ℕ
example_buffer = replicate 51 0

-- A table that asks the first argument, and all that is below it, last (document 02, request 1: "wants it asked last"): 85 to 679,
-- then 0 to 84.
abbrev pub example_places : List ℕ
example_places = count_from 85 595 ++ count_from 0 85

unfoldable pub example_table : List ℕ
example_table = table_bytes example_places

-- "Pieces (1, 2), (?, 1), (?, ?), (3, 4), each as 11 02 and two terms": the second.
abbrev pub example_piece : List ℕ
example_piece = 0x11 ∷ 0x02 ∷ 0x30 ∷ 0x31 ∷ 0x00 ∷ 0x01 ∷ []

-- Another sheet, of arity 1 and without rules.
abbrev pub empty_sheet : List ℕ
empty_sheet = 0x10 ∷ 0x01 ∷ 0x00 ∷ []
