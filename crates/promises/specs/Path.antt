-- The path behind an edge count (document 01, "Terms of acceptance"): "the count equals the length of the path defined here".
use Rattle.std.specs.Prelude.{ℕ, pred, ◌≡◌, List, length}
use Rattle.records.specs.Reading.{took}
use Rattle.sheet.specs.Sheet.{Sheet}
use Rattle.sheet_tests.specs.CheckSheet.{accept_sheet}
use Rattle.piece.specs.Piece.{Piece}
use Rattle.piece.specs.ReadPiece.{read_piece}
use Rattle.decision.specs.Key.{Leaf}
use Rattle.decision.specs.Node.{Node}
use Rattle.decision.specs.Path.{path, ends}
use Rattle.graph.specs.ReadGraph.{read_graph}

-- The bytes s, g and p are accepted, the piece's path over the graph's nodes ends at a leaf, and the edges are as many as the nodes
-- walked but one.
pub record EdgesOfPath (s g p : List ℕ) (edges : ℕ) : Type 0 where
  pub sheet : Sheet
  pub sheet_taken : ℕ
  pub sheet_accepted : accept_sheet s ≡ took sheet_taken sheet
  pub piece : Piece
  pub piece_taken : ℕ
  pub piece_accepted : read_piece p ≡ took piece_taken piece
  pub nodes : List (Node ℕ)
  pub graph_taken : ℕ
  pub graph_accepted : read_graph sheet g ≡ took graph_taken nodes
  pub walked : List ℕ
  pub leaf : Leaf
  pub is_path : path nodes piece.terms ≡ ends walked leaf
  pub edges_are : edges ≡ pred (length walked)
