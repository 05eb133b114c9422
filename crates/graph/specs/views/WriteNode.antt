-- The bytes of the records of nodes and cases (document 01, "Records", "Graph"). A switch's record is followed by its cases'.
use Rattle.std.specs.Prelude.{ℕ, List, [], ◌∷◌}
use Rattle.records.specs.Fields.{wide_then}
use Rattle.terms.specs.Term.{on_gauge}
use Rattle.decision.specs.Cases.{symbols_case, compound_case, numbers_case}
use Rattle.decision.specs.GraphBytes.{leaf_bytes, case_bytes}
use Rattle.graph.specs.declared.NodeRecord.{NodeRecord}
use Rattle.graph.specs.declared.NodeRecord.TheVariants.{End, Switch, Pair}
use Rattle.graph.specs.declared.CaseRecord.{CaseRecord}
use Rattle.graph.specs.declared.CaseRecord.TheVariants.{Symbols, Compound, Numbers}
use Rattle.graph.specs.views.NodeRecord.{leaf_of}

abbrev pub node_record_bytes : NodeRecord → List ℕ
node_record_bytes (End l) = leaf_bytes (leaf_of l)
node_record_bytes (Switch n count x y) = 0x43 ∷ wide_then n (wide_then count (wide_then x (wide_then y [])))
node_record_bytes (Pair p q x y) = 0x47 ∷ wide_then p (wide_then q (wide_then x (wide_then y [])))

abbrev pub case_record_bytes : CaseRecord → List ℕ
case_record_bytes (Symbols l h n) = case_bytes (symbols_case l h) n
case_record_bytes (Compound a k n) = case_bytes (compound_case a k) n
case_record_bytes (Numbers l h n g) = case_bytes (numbers_case (on_gauge g l) (on_gauge g h)) n

-- "12 (arity, number of rules, wide node count), then nodes 0, 1, ..": what stands before the nodes.
abbrev pub header_bytes : ℕ → ℕ → ℕ → List ℕ
header_bytes arity rules nodes = 0x12 ∷ arity ∷ rules ∷ wide_then nodes []
