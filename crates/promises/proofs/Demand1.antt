-- Demand 1, over bytes: "Any bytes handed in as sheet, piece or graph get an answer or the refusal number that document 01 names. A
-- refusal changes no byte of a lent buffer. Every walk ends within 64 edges."
use Prim.Native.Nat.{ℕ, ◌≤◌}
use mathlib.Core.Path.{◌≡◌, refl}
use mathlib.Core.Bool.{Bool, true, false}
use mathlib.Core.Logic.{inl, inr}
use mathlib.Core.List.{List}
use mathlib.Core.Option.{Option, some, none}
use native.Mathlib.Omega.{arith}
use lib.Dec.{leb, eqb}
use lib.ListN.{length}
use Rattle.records.specs.Reading.{Reading, took, refused, ask, and_then, map_reading}
use Rattle.records.specs.Written.{ask_fits, result_of}
use Rattle.terms.specs.Pattern.{Patterns}
use Rattle.terms.specs.Answer.{Answer, plain_answer}
use Rattle.sheet.specs.Sheet.{Sheet}
use Rattle.sheet_tests.specs.CheckSheet.{accept_sheet, sheet_values}
use Rattle.piece.specs.Piece.{Piece}
use Rattle.piece.specs.ReadPiece.{read_piece}
use Rattle.piece.specs.CheckPiece.{piece_values}
use Rattle.plain.specs.Plain.{piece_reading, plain_reading, reading_values}
use Rattle.decision.specs.Node.{Node}
use Rattle.decision.specs.Graph.{graph_in}
use Rattle.decision.specs.GraphBytes.{graph_bytes}
use Rattle.decision.specs.Walk.{Walk, walk}
use Rattle.graph.specs.ReadGraph.{read_graph}
use Rattle.graph_check.specs.CheckGraph.{graph_reading, graph_values}
use Rattle.graph_check.specs.Rewritten.{bytes_reading, rewritten}
use Rattle.order.specs.Asking.{Asking, lowest, by_table, read_asking}
use Rattle.order.proofs.Questions.{asking_named}
use Rattle.build.specs.BuildOutcome.{not_built, written_if, graph_written, sheet_built, outcome_in}
use Rattle.tidy.specs.TidySheet.{tidy_bytes}
use Rattle.tidy.specs.Tidied.{tidied}
use Rattle.walk.specs.Walking.{graph_reply, piece_reply, walk_reply, reply_values}
use Rattle.accepted.proofs.Named.{Named, ask_named, then_named, named_wider, map_named}
use Rattle.accepted.proofs.Questions.{sheet_named}
use Rattle.promises.specs.Questions.{PieceQuestion, GraphQuestion, PathQuestion, PlainQuestion, AskedQuestion}
use Rattle.promises.specs.Questions.{CheckQuestion, RewriteQuestion, TidyQuestion, WalkQuestion}
use Rattle.promises.specs.Questions.{AnswersOr, BuildEnds, WriterEnds}
use Rattle.promises.proofs.PieceQuestions.{piece_named}
use Rattle.promises.proofs.GraphQuestions.{graph_named, walk_named}
use Rattle.promises.proofs.PathEdges.{edges_are_the_path, path_few}
use Rattle.accepted.specs.Questions.{Between, SheetQuestion}

-- Each check answers or refuses,
pub sheet_check_answers : (s : List ℕ) → AnswersOr SheetQuestion (sheet_values (accept_sheet s)).refusal
sheet_check_answers s = go (accept_sheet s) (sheet_named s)
  where
    go : (r : Reading Sheet) → Named SheetQuestion r → AnswersOr SheetQuestion (sheet_values r).refusal
    go (took k x) h = inl refl
    go (refused q) h = inr h

pub piece_check_answers : (p : List ℕ) → AnswersOr PieceQuestion (piece_values (read_piece p)).refusal
piece_check_answers p = go (read_piece p) (piece_named p)
  where
    go : (r : Reading Piece) → Named PieceQuestion r → AnswersOr PieceQuestion (piece_values r).refusal
    go (took k x) h = inl refl
    go (refused q) h = inr h

graph_reading_named : (s g : List ℕ) → Named CheckQuestion (graph_reading s g)
unfolding graph_reading
graph_reading_named s g =
    then_named CheckQuestion (accept_sheet s) (λ _ sheet. read_graph sheet g)
    (named_wider SheetQuestion CheckQuestion (λ q h. inl h) (accept_sheet s) (sheet_named s))
    (λ _ sheet. named_wider GraphQuestion CheckQuestion (λ q h. inr h) (read_graph sheet g) (graph_named sheet g))

pub graph_check_answers : (s g : List ℕ) → AnswersOr CheckQuestion (graph_values (graph_reading s g)).refusal
graph_check_answers s g = go (graph_reading s g) (graph_reading_named s g)
  where
    go : (r : Reading (List (Node ℕ))) → Named CheckQuestion r → AnswersOr CheckQuestion (graph_values r).refusal
    go (took k x) h = inl refl
    go (refused q) h = inr h

-- the plain answer,
plain_named : (s p : List ℕ) → Named PlainQuestion (plain_reading s p)
unfolding plain_reading
plain_named s p =
    let answer : Sheet → Piece → Reading Answer = λ sheet piece. took 0 (plain_answer sheet.rules piece.terms) in
    then_named PlainQuestion (accept_sheet s) (λ _ sheet. piece_reading sheet.arity sheet.rules p)
    (named_wider SheetQuestion PlainQuestion (λ q h. inl h) (accept_sheet s) (sheet_named s))
    (λ _ sheet.
    then_named PlainQuestion (read_piece p) (λ _ piece. ask 20 (eqb sheet.arity piece.arity) (answer sheet piece))
    (named_wider PieceQuestion PlainQuestion (λ q h. inr (inl h)) (read_piece p) (piece_named p))
    (λ _ piece. ask_named PlainQuestion 20 (eqb sheet.arity piece.arity) (answer sheet piece) (inr (inr refl)) tt))

pub plain_answers : (s p : List ℕ) → AnswersOr PlainQuestion (reading_values (plain_reading s p)).refusal
plain_answers s p = go (plain_reading s p) (plain_named s p)
  where
    go : (r : Reading Answer) → Named PlainQuestion r → AnswersOr PlainQuestion (reading_values r).refusal
    go (took k x) h = inl refl
    go (refused q) h = inr h

-- and the walk,
walk_reply_named : (s g p : List ℕ) → Named WalkQuestion (walk_reply s g p)
unfolding walk_reply
walk_reply_named s g p =
    then_named WalkQuestion (accept_sheet s) (λ _ sheet. piece_reply sheet g p)
    (named_wider SheetQuestion WalkQuestion (λ q h. inl (inl h)) (accept_sheet s) (sheet_named s))
    (λ _ sheet.
    then_named WalkQuestion (read_piece p)
    (λ _ piece. ask 20 (eqb sheet.arity piece.arity) (graph_reply sheet g piece.terms))
    (named_wider PieceQuestion WalkQuestion (λ q h. inl (inr (inl h))) (read_piece p) (piece_named p))
    (λ _ piece.
    ask_named WalkQuestion 20 (eqb sheet.arity piece.arity) (graph_reply sheet g piece.terms) (inl (inr (inr refl)))
    (then_named WalkQuestion (read_graph sheet g) (λ _ nodes. walk sheet.rules nodes piece.terms)
    (named_wider GraphQuestion WalkQuestion (λ q h. inr (inl h)) (read_graph sheet g) (graph_named sheet g))
    (λ _ nodes.
    named_wider PathQuestion WalkQuestion (λ q h. inr (inr h)) (walk sheet.rules nodes piece.terms)
    (walk_named nodes piece.terms sheet.rules)))))

pub walk_answers : (s g p : List ℕ) → AnswersOr WalkQuestion (reply_values (walk_reply s g p)).refusal
walk_answers s g p = go (walk_reply s g p) (walk_reply_named s g p)
  where
    go : (r : Reading Walk) → Named WalkQuestion r → AnswersOr WalkQuestion (reply_values r).refusal
    go (took k x) h = inl refl
    go (refused q) h = inr h

-- which ends within 64 edges.
pub edges_within : (s g p : List ℕ) {k : ℕ} {w : Walk} → walk_reply s g p ≡ took k w → w.edges ≤ 64
edges_within s g p e = path_few (edges_are_the_path e)

-- Before its graph a build asks the sheet's questions and those of its table.
sheet_asked : (asking : Asking) (s : List ℕ) → Named (AskedQuestion asking) (accept_sheet s)
sheet_asked lowest s = sheet_named s
sheet_asked (by_table table) s =
    named_wider SheetQuestion (AskedQuestion (by_table table)) (λ q h. inl h) (accept_sheet s) (sheet_named s)

order_asked : (asking : Asking) → Named (AskedQuestion asking) (read_asking asking)
order_asked lowest = tt
order_asked (by_table table) =
    named_wider (Between 28 30) (AskedQuestion (by_table table)) (λ q h. inr h) (read_asking (by_table table))
    (asking_named (by_table table))

-- The calls that write answer, or refuse and leave the buffer as it was: a build, in document 01's order or by a table,
pub build_answers : (asking : Asking) (s buffer : List ℕ) → BuildEnds asking buffer (outcome_in asking s buffer)
unfolding outcome_in
build_answers asking s buffer = read (accept_sheet s) (sheet_asked asking s) (read_asking asking) (order_asked asking)
  where
    fit : (b : Bool) (n : ℕ) (bytes : List ℕ) → BuildEnds asking buffer (written_if b n bytes buffer)
    fit true n bytes = inl refl
    fit false n bytes = inr (inr (omega arith, omega arith), refl)

    grown : (a r : ℕ) (g : Option (List (Node ℕ))) → BuildEnds asking buffer (graph_written a r g buffer)
    grown a r none = inr (inr (omega arith, omega arith), refl)
    grown a r (some nodes) = fit (leb (length (graph_bytes a r nodes)) (length buffer)) (length nodes) (graph_bytes a r nodes)

    read
        : (r : Reading Sheet) → Named (AskedQuestion asking) r
        → (o : Reading (List Patterns → List ℕ)) → Named (AskedQuestion asking) o → BuildEnds asking buffer (sheet_built r o buffer)
    read (refused q) h o i = inr (inl h, refl)
    read (took k sheet) h (refused q) i = inr (inl i, refl)
    read (took k sheet) h (took n order) i =
        grown sheet.arity (length sheet.rules) (graph_in sheet.rules (order sheet.rules))

-- A refusal hands back no nodes and no bytes and "changes no byte of a lent buffer".
pub build_refusal_keeps
    : (asking : Asking) (s buffer : List ℕ) → ((outcome_in asking s buffer).values.refusal ≡ 0 → ⊥)
    → outcome_in asking s buffer ≡ not_built (outcome_in asking s buffer).values.refusal buffer
build_refusal_keeps asking s buffer not-accepted =
    elim (build_answers asking s buffer) [ inl e ↦ absurd (not-accepted e) | inr (_, kept) ↦ kept ]

-- and so do all other writers, by their own questions:
writer_ends
    : (Question : ℕ → Type 0) (buffer : List ℕ) (r : Reading (List ℕ)) → Named Question r
    → WriterEnds Question buffer (result_of buffer r)
writer_ends Question buffer (took k bytes) h = inl refl
writer_ends Question buffer (refused q) h = inr (h, refl, refl)

-- read nodes written again
pub rewrite_answers : (s g buffer : List ℕ) → WriterEnds RewriteQuestion buffer (rewritten s g buffer)
unfolding rewritten
rewrite_answers s g buffer =
    writer_ends RewriteQuestion buffer (and_then (bytes_reading s g) (λ _ bytes. ask_fits 19 buffer bytes))
    (then_named RewriteQuestion (bytes_reading s g) (λ _ bytes. ask_fits 19 buffer bytes)
    (then_named RewriteQuestion (accept_sheet s)
    (λ _ sheet. map_reading (graph_bytes sheet.arity (length sheet.rules)) (read_graph sheet g))
    (named_wider SheetQuestion RewriteQuestion (λ q h. inl (inl h)) (accept_sheet s) (sheet_named s))
    (λ _ sheet.
    map_named RewriteQuestion (graph_bytes sheet.arity (length sheet.rules)) (read_graph sheet g)
    (named_wider GraphQuestion RewriteQuestion (λ q h. inl (inr h)) (read_graph sheet g) (graph_named sheet g))))
    (λ _ bytes.
    ask_named RewriteQuestion 19 (leb (length bytes) (length buffer)) (took (length bytes) bytes) (inr refl) tt))

-- and a tidied sheet.
pub tidy_answers : (s buffer : List ℕ) → WriterEnds TidyQuestion buffer (tidied s buffer)
unfolding tidied
tidy_answers s buffer =
    writer_ends TidyQuestion buffer (and_then (accept_sheet s) (λ _ sheet. ask_fits 31 buffer (tidy_bytes sheet)))
    (then_named TidyQuestion (accept_sheet s) (λ _ sheet. ask_fits 31 buffer (tidy_bytes sheet))
    (named_wider SheetQuestion TidyQuestion (λ q h. inl h) (accept_sheet s) (sheet_named s))
    (λ _ sheet.
    ask_named TidyQuestion 31 (leb (length (tidy_bytes sheet)) (length buffer)) (took (length (tidy_bytes sheet)) (tidy_bytes sheet))
    (inr refl) tt))

-- A refusal of it hands back 0 bytes and "changes no byte of a lent buffer".
pub tidy_refusal_keeps
    : (s buffer : List ℕ) → ((tidied s buffer).refusal ≡ 0 → ⊥)
    → ((tidied s buffer).bytes ≡ 0) × ((tidied s buffer).buffer ≡ buffer)
tidy_refusal_keeps s buffer not-accepted = go (tidy_answers s buffer)
  where
    go : WriterEnds TidyQuestion buffer (tidied s buffer) → ((tidied s buffer).bytes ≡ 0) × ((tidied s buffer).buffer ≡ buffer)
    go (inl e) = absurd (not-accepted e)
    go (inr (_, bytes, kept)) = (bytes, kept)
