-- Demand 3, over bytes: for every accepted sheet whose graph is built, in document 01's order or by a table, and every accepted
-- piece of its arity, whichever readings are missing, the walk answers and never refuses, and its answer is commit i, execute i,
-- fail or suspend exactly when the sentence over fillings says so; for every accepted piece filled in further the same graph keeps
-- what it promised.
use Prim.Native.Nat.{ℕ, ◌≤◌}
use mathlib.Core.Path.{◌≡◌, sym, ap, ◌∙◌}
use mathlib.Core.Bool.{Bool}
use mathlib.Core.List.{List}
use lib.Dec.{eqb}
use lib.ListN.{length}
use borrow.Author.Tests.{eq-eqb}
use Rattle.records.specs.Reading.{Reading, took, ask, and_then}
use Rattle.terms.specs.Filling.{FilledFurther}
use Rattle.terms.specs.Right.{Right, Keeps}
use Rattle.sheet.specs.Sheet.{Sheet}
use Rattle.sheet_tests.specs.SheetTests.{sheet_tests}
use Rattle.sheet_tests.specs.CheckSheet.{AcceptedSheet}
use Rattle.piece.specs.Piece.{Piece}
use Rattle.promises.specs.AcceptedBytes.{AcceptedBytes}
use Rattle.plain.specs.Plain.{plain_reading, answer_values, reading_values}
use Rattle.promises.proofs.PlainBytes.{plain_bytes, terms_accepted}
use Rattle.decision.specs.Node.{Node}
use Rattle.decision.specs.AskingOrder.{AskingOrder}
use Rattle.decision.specs.Walk.{Walk, walk}
use Rattle.decision.proofs.walking.Demand3 as definitions
use Rattle.graph.specs.ReadGraph.{read_graph}
use Rattle.order.specs.Asking.{Asking}
use Rattle.walk.specs.Walking.{graph_reply, piece_reply, walk_reply}
use Rattle.promises.specs.BuiltGraph.{BuiltGraph}
use Rattle.promises.proofs.Demand2.{building, accepted_sheet_lem, built_asks, graph_read_back}
use Rattle.build.specs.Building.{Building}

-- The walk of accepted bytes over bytes that are read as nodes is the walk over those nodes.
pub walk_over_nodes
    : {s p : List ℕ} {sheet : Sheet} {piece : Piece} (g : List ℕ) → AcceptedBytes s p sheet piece
    → {k : ℕ} {nodes : List (Node ℕ)} → read_graph sheet g ≡ took k nodes
    → walk_reply s g p ≡ walk sheet.rules nodes piece.terms
unfolding walk_reply
walk_over_nodes {s} {p} {sheet} {piece} g ok {k} {nodes} read =
    ap (λ (r : Reading Sheet). and_then r (λ _ x. piece_reply x g p)) ok.sheet_accepted
    ∙ ap (λ (r : Reading Piece). and_then r (λ _ x. ask 20 (eqb sheet.arity x.arity) (graph_reply sheet g x.terms)))
    ok.piece_accepted
    ∙ ap (λ (b : Bool). ask 20 b (graph_reply sheet g piece.terms)) (eq-eqb sheet.arity piece.arity (sym ok.same_arity))
    ∙ ap (λ (r : Reading (List (Node ℕ))). and_then r (λ _ x. walk sheet.rules x piece.terms)) read

-- For all bytes s, p and every buffer, where building s, in document 01's order or by a table, is not refused and writes g, and p
-- is an accepted piece of its arity.
module _ {asking : Asking} {s buffer g p : List ℕ} {sheet : Sheet} {piece : Piece} (built : BuiltGraph asking s buffer g)
    (ok : AcceptedBytes s p sheet piece) where
  abbrev built_as : Building asking s buffer
  built_as = building built ok.sheet_accepted

  abbrev nodes : List (Node ℕ)
  nodes = built_as.nodes

  accepted : AcceptedSheet sheet
  accepted = accepted_sheet_lem built ok.are_bytes.0 built_as

  abbrev order : List ℕ
  order = built_as.order sheet.rules

  asks : AskingOrder sheet.rules order
  asks = built_asks built ok.are_bytes.0 built_as

  pub walk_is : walk_reply s g p ≡ walk sheet.rules nodes piece.terms
  walk_is = walk_over_nodes g ok (graph_read_back built ok.are_bytes.0 built_as)

  -- The walk answers and never refuses, and its answer is right.
  pub demand_3
      : (w : Walk) × (walk_reply s g p ≡ took 0 w) × Right sheet.rules piece.terms w.answer
  demand_3 =
      let (w, walks, right) =
      definitions.demand_3 sheet accepted order asks nodes built_as.graph piece.terms (terms_accepted ok) in
      (w, walk_is ∙ walks, right)

  module _ {w : Walk} (e : walk_reply s g p ≡ took 0 w) where
    pub walks : walk sheet.rules nodes piece.terms ≡ took 0 w
    walks = sym walk_is ∙ e

    -- There are at most as many edges as the sheet has tests.
    pub few_edges : w.edges ≤ length (sheet_tests sheet.rules)
    few_edges =
        (definitions.few_edges sheet accepted order asks nodes built_as.graph piece.terms (terms_accepted ok) w walks).0

    -- The word and the rule are those of the plain answer.
    pub walk_is_plain : reading_values (plain_reading s p) ≡ answer_values w.answer
    walk_is_plain =
        plain_bytes ok
        ∙ ap answer_values
        (sym
        (definitions.walk_is_plain sheet accepted order asks nodes built_as.graph piece.terms (terms_accepted ok) w walks))

-- "For every accepted piece filled in further the same graph answers fail where it answered fail, commit i where commit i, and
-- execute i, commit i or fail where execute i."
pub monotone_promise
    : {asking : Asking} {s buffer g p q : List ℕ} {sheet : Sheet} {piece further : Piece} → BuiltGraph asking s buffer g
    → AcceptedBytes s p sheet piece → AcceptedBytes s q sheet further → FilledFurther piece.terms further.terms
    → {w v : Walk} → walk_reply s g p ≡ took 0 w → walk_reply s g q ≡ took 0 v → Keeps w.answer v.answer
monotone_promise {sheet = sheet} {piece = piece} {further = further} built ok okFurther more {w} {v} e d =
    definitions.monotone_promise sheet (accepted built ok) (order built ok) (asks built ok) (nodes built ok)
    (built_as built ok).graph piece.terms (terms_accepted ok) w (walks built ok e) further.terms (terms_accepted okFurther)
    more v
    (sym (walk_over_nodes _ okFurther (graph_read_back built ok.are_bytes.0 (built_as built ok))) ∙ d)
