-- Document 01's example: the graph of its sheet, byte for byte. "The case count becomes wide, in the example graph too", record 44
-- has a low and a high, and "pairs are asked, in all graphs" (document 02, requests 4 to 6).
use Prim.Native.Nat.{ℕ}
use mathlib.Core.Path.{◌≡◌, refl}
use mathlib.Core.List.{List, [], ◌∷◌}
use mathlib.Core.Option.{Option, some, none}
use Rattle.masks.specs.Mask.{has, mask_of, members}
use Rattle.terms.specs.Pattern.{Patterns, pnil, pcons, variable, the_symbol}
use Rattle.decision.specs.Node.{Node}
use Rattle.decision.specs.Graph.{graph_of}
use Rattle.decision.specs.GraphBytes.{graph_bytes}
use Rattle.basics.specs.Lists.{any_below}

abbrev two_rules : List Patterns
two_rules = pcons (variable 0) (pcons (variable 0) pnil) ∷ pcons (the_symbol 1) (pcons (the_symbol 2) pnil) ∷ []

abbrev bytes_of : Option (List (Node ℕ)) → List ℕ
bytes_of none = []
bytes_of (some nodes) = graph_bytes 2 2 nodes

example_graph_lem : bytes_of (graph_of two_rules) ≡
    0x12 ∷ 0x02 ∷ 0x02 ∷ 0x00 ∷ 0x06
    ∷ 0x43 ∷ 0x00 ∷ 0x00 ∷ 0x00 ∷ 0x01 ∷ 0x00 ∷ 0x02 ∷ 0x00 ∷ 0x01 ∷ 0x44 ∷ 0x00 ∷ 0x01 ∷ 0x00 ∷ 0x01 ∷ 0x00 ∷ 0x01
    ∷ 0x43 ∷ 0x00 ∷ 0x55 ∷ 0x00 ∷ 0x01 ∷ 0x00 ∷ 0x02 ∷ 0x00 ∷ 0x03 ∷ 0x44 ∷ 0x00 ∷ 0x02 ∷ 0x00 ∷ 0x02 ∷ 0x00 ∷ 0x03
    ∷ 0x42 ∷ 0x01
    ∷ 0x47 ∷ 0x00 ∷ 0x00 ∷ 0x00 ∷ 0x55 ∷ 0x00 ∷ 0x04 ∷ 0x00 ∷ 0x05
    ∷ 0x42 ∷ 0x02
    ∷ 0x41 ∷ []
unfolding has mask_of members any_below
example_graph_lem = refl
