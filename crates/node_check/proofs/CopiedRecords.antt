-- The records that are copied: what the reader told and what the writer wrote are the same case, or the same node.
use Prim.Native.Nat.{ℕ}
use mathlib.Core.Path.{◌≡◌, refl}
use mathlib.Core.List.{List}
use Rattle.records.specs.Reading.{took}
use Rattle.terms.specs.Term.{on_gauge}
use Rattle.decision.specs.Cases.{symbols_case, compound_case, numbers_case}
use Rattle.decision.specs.Node.{CaseEdge}
use Rattle.graph.specs.declared.CaseRecord.{CaseRecord}
use Rattle.graph.specs.declared.CaseRecord.TheVariants.{Symbols, Compound, Numbers}
use Rattle.std.specs.Prelude.{Ok}
use Rattle.graph.specs.views.NodeRecord.{case_head}
use Rattle.graph.specs.ReadGraph.{edge, read_case}
use Rattle.node_check.specs.views.CaseRanges.{range_of}
use Rattle.graph.specs.views.WriteNode.{case_record_bytes}
use Rattle.graph.proofs.SpelledCases.{edge_bytes}
use Rattle.graph.proofs.ByKinds.{case_read_by}

-- The case of a record, with where it leads.
abbrev pub edge_of : CaseRecord → CaseEdge ℕ
edge_of (Symbols l h n) = edge (symbols_case l h) n
edge_of (Compound a k n) = edge (compound_case a k) n
edge_of (Numbers l h n g) = edge (numbers_case (on_gauge g l) (on_gauge g h)) n

-- It is read from the record,
pub edge_read : (s : List ℕ) (c : CaseRecord) → case_head s ≡ Ok c → read_case s ≡ took (range_of c).bytes (edge_of c)
edge_read s (Symbols l h n) e = case_read_by s e
edge_read s (Compound a k n) e = case_read_by s e
edge_read s (Numbers l h n g) e = case_read_by s e

-- and its bytes are the record's.
pub edge_bytes_lem : (c : CaseRecord) → edge_bytes (edge_of c) ≡ case_record_bytes c
edge_bytes_lem (Symbols l h n) = refl
edge_bytes_lem (Compound a k n) = refl
edge_bytes_lem (Numbers l h n g) = refl
