-- The walk, from bytes (document 01, "The walk", "Questions at the counter").
use Rattle.std.specs.Prelude.{ℕ, List, Result, eqb}
use Rattle.records.specs.Reading.{Reading, took, refused, ask, and_then}
use Rattle.records.specs.Refusals.{reading_in}
use Rattle.records.specs.declared.refusal.Refusal.{Refusal}
use Rattle.terms.specs.Term.{Terms}
use Rattle.terms.specs.Answer.{word_of, rule_of}
use Rattle.sheet.specs.Sheet.{Sheet}
use Rattle.sheet_tests.specs.CheckSheet.{accept_sheet}
use Rattle.piece.specs.ReadPiece.{read_piece}
use Rattle.plain.specs.Plain.{answer_of}
use Rattle.decision.specs.Walk.{Walk, walk}
use Rattle.graph.specs.ReadGraph.{read_graph}
use Rattle.walk.specs.declared.Walk as given

-- The walk of a piece's terms over a graph of bytes g, for an accepted sheet: 21 to 25, then "at each switch or pair walked" 26
-- and 27.
abbrev pub graph_reply : Sheet → List ℕ → Terms → Reading Walk
graph_reply sheet g terms = and_then (read_graph sheet g) (λ _ nodes. walk sheet.rules nodes terms)

-- "Walking, after sheet and piece": "20 Are the two arities equal?"
abbrev pub piece_reply : Sheet → List ℕ → List ℕ → Reading Walk
piece_reply sheet g p =
    and_then (read_piece p) (λ _ piece. ask 20 (eqb sheet.arity piece.arity) (graph_reply sheet g piece.terms))

-- The walk of a piece of bytes p over a graph of bytes g, with a sheet of bytes s: 20 to 27 are asked "after sheet and piece".
unfoldable pub walk_reply : List ℕ → List ℕ → List ℕ → Reading Walk
walk_reply s g p = and_then (accept_sheet s) (λ _ sheet. piece_reply sheet g p)

-- "An answer .. with the rule (0 for suspend and fail), edges walked, and a wait list." "The first no, in order, gives its
-- number. Every other result field is then 0." Words: 1 commit, 2 execute, 3 suspend, 4 fail.
pub record WalkValues : Type 0 where
  pub refusal : ℕ
  pub word : ℕ
  pub rule : ℕ
  pub edges : ℕ
  pub waits : ℕ

abbrev pub walk_values : Walk → WalkValues
walk_values w = record { refusal = 0; word = word_of w.answer; rule = rule_of w.answer; edges = w.edges; waits = w.waits }

abbrev pub walk_refusal_values : ℕ → WalkValues
walk_refusal_values q = record { refusal = q; word = 0; rule = 0; edges = 0; waits = 0 }

abbrev pub reply_values : Reading Walk → WalkValues
reply_values (took a w) = walk_values w
reply_values (refused q) = walk_refusal_values q

-- The walk that is handed back, and its values.
abbrev pub walk_of : given.Walk → Walk
walk_of w = record { answer = answer_of w.answer; edges = w.edges; waits = w.waits }

abbrev pub walked_reading : Result given.Walk Refusal → Reading Walk
walked_reading r = reading_in (λ (w : given.Walk). took 0 (walk_of w)) r

abbrev pub walked_values : Result given.Walk Refusal → WalkValues
walked_values r = reply_values (walked_reading r)
