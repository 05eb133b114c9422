-- What is written where read records are written again (document 01, "Questions at the counter").
use Rattle.std.specs.Prelude.{ℕ, List, [], ◌∷◌}
use Rattle.records.specs.Reading.{Reading, took, refused, read_row}
use Rattle.decision.specs.Node.{Node}
use Rattle.graph.specs.ReadGraph.{read_record}

-- Something was read.
abbrev pub IsTook : {A : Type 0} → Reading A → Type 0
IsTook (took a x) = Unit
IsTook (refused q) = ⊥

-- What was read, or else the other thing.
abbrev pub read_or : {A : Type 0} → A → Reading A → A
read_or other (took a x) = x
read_or other (refused q) = other

-- Nodes in a row, of which questions 23 and 24 are not asked again.
abbrev pub read_records : ℕ → List ℕ → Reading (List (Node ℕ))
read_records n s = read_row [] ◌∷◌ read_record n s
