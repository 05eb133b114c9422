-- What the check of nodes says (document 01, "Questions at the counter", 22 to 24), where the sheet's tests are kept as a set of
-- places and a list of pairs.
use Rattle.std.specs.Prelude.{ℕ, ◌+◌, ◌/◌, ◌%◌, Bool, false, ◌&&◌, List, [], ◌∷◌, Result, Ok, leb, eqb, length, take}
use Rattle.records.specs.Reading.{Reading, took, ask, and_then, map_reading}
use Rattle.records.specs.Refusals.{reading_in}
use Rattle.records.specs.declared.refusal.Refusal.{Refusal}
use Rattle.sheet_tests.specs.SheetTests.{Test, place, pair}
use Rattle.sheet_tests.specs.views.TestedPlaces.{has_place}
use Rattle.decision.specs.Node.{Node}
use Rattle.decision.specs.GraphBytes.{node_bytes}
use Rattle.graph.specs.declared.Leaf.{Leaf}
use Rattle.graph.specs.declared.NodeRecord.TheVariants.{End}
use Rattle.graph.specs.ReadGraph.{all_inside, cases_ascend, read_cases, ask_range_and_order}
use Rattle.basics.specs.Lists.{any_of}
use Rattle.graph.specs.views.NodeRecord.{switch_length, on_node}

-- A pair is among the first so many codes, each of which has p in its two high bytes and q in its two low ones.
abbrev pub is_code : ℕ → ℕ → ℕ → Bool
is_code p q code = eqb p (code / 0x1_0000) && eqb q (code % 0x1_0000)

abbrev pub has_pair : List ℕ → ℕ → ℕ → ℕ → Bool
has_pair codes count p q = any_of (is_code p q) (take count codes)

abbrev pub kept_test : List ℕ → List ℕ → ℕ → Test → Bool
kept_test words codes count (place n) = has_place words n
kept_test words codes count (pair p q) = has_pair codes count p q

-- How many bytes were read, by the reading of a node or as they are handed back.
abbrev pub bytes_read : {A : Type 0} → Reading A → Reading Unit
bytes_read r = map_reading (λ _. tt) r

abbrev pub checked : Result ℕ Refusal → Reading Unit
checked r = reading_in (λ (n : ℕ). took n tt) r

-- A leaf, of which no test is asked.
abbrev pub leaf_check : ℕ → Leaf → Reading Unit
leaf_check rules l = bytes_read (ask_range_and_order (λ t. false) rules 0 (on_node [] (Ok (End l))))

-- A switch of which the place is a test and neither and unknown are in range, or not, and whose cases s begins with.
abbrev pub switch_check : Bool → ℕ → ℕ → List ℕ → Reading Unit
switch_check known count nodes s =
    bytes_read
    (ask 22 (leb 1 count)
    (and_then (read_cases count s)
    (λ a cases. ask 23 (known && all_inside nodes cases) (ask 24 (cases_ascend cases) (took (switch_length + a) cases)))))

-- Where the records of nodes begin, of which the first begins at a position.
abbrev pub starts_from : ℕ → List (Node ℕ) → List ℕ
starts_from at [] = []
starts_from at (n ∷ ns) = at ∷ starts_from (at + length (node_bytes n)) ns

-- The end of so many nodes, and where they begin.
abbrev pub checked_nodes : ℕ → Result ℕ Refusal → List ℕ → Reading (List ℕ)
checked_nodes count r starts = reading_in (λ (a : ℕ). took a (take count starts)) r
