-- The bytes of a table (document 02, request 1): "A loaded table of 680 wide place numbers".
use Rattle.std.specs.Prelude.{ℕ, List, [], ◌∷◌}
use Rattle.basics.specs.Lists.{count_from}
use Rattle.records.specs.Fields.{wide_then}

-- The places, each as a wide field, in the order in which they are asked.
abbrev pub table_bytes : List ℕ → List ℕ
table_bytes [] = []
table_bytes (p ∷ places) = wide_then p (table_bytes places)

-- The table of the ascending order of places: 0 to 679.
unfoldable pub identity_table : List ℕ
identity_table = table_bytes (count_from 0 680)
