-- Request 1 of document 02, over bytes: "A loaded table of 680 wide place numbers replaces the ascending order of places; pairs
-- still come after all places, and test numbers stay. The answer word and rule are the same under every two accepted tables for
-- which the graph is built."
use Prim.Native.Nat.{ℕ}
use mathlib.Core.Path.{◌≡◌, refl, sym, ap, ◌∙◌}
use mathlib.Core.Logic.{inl, inr}
use mathlib.Core.List.{List}
use lib.ListN.{length}
use Rattle.basics.specs.Lists.{count_from}
use Rattle.records.specs.Fields.{AreBytes}
use Rattle.records.specs.Reading.{Reading, took, refused, map_reading}
use Rattle.terms.specs.Answer.{word_of, rule_of}
use Rattle.sheet.specs.Sheet.{Sheet}
use Rattle.sheet_tests.specs.CheckSheet.{accept_sheet}
use Rattle.accepted.specs.Questions.{Between}
use Rattle.accepted.proofs.Named.{Named}
use Rattle.accepted.proofs.Acceptance.{sheet_accepted_lem}
use Rattle.piece.specs.Piece.{Piece}
use Rattle.plain.specs.Plain.{PlainValues, plain_reading, reading_values}
use Rattle.decision.specs.Walk.{Walk}
use Rattle.decision.specs.Graph.{graph_in, lowest_first}
use Rattle.decision.specs.PlaceOrder.{order_by}
use Rattle.decision.proofs.keys.AscendingPlaces.{identity_asks}
use Rattle.decision.proofs.walking.Demand3.{same_answer_in_every_order}
use Rattle.order.specs.Table.{read_table, table_refusal}
use Rattle.order.specs.TableBytes.{identity_table}
use Rattle.order.specs.Asking.{Asking, by_table, read_asking}
use Rattle.order.proofs.Questions.{table_named}
use Rattle.order.proofs.TableBytes.{identity_read}
use Rattle.walk.specs.Walking.{WalkValues, walk_reply, reply_values}
use Rattle.build.specs.BuildOutcome.{not_built, graph_written, sheet_built, outcome_in, build_outcome, ordered_outcome}
use Rattle.promises.specs.AcceptedBytes.{AcceptedBytes}
use Rattle.promises.specs.BuiltGraph.{BuiltGraph}
use Rattle.promises.specs.Questions.{AnswersOr}
use Rattle.promises.proofs.PlainBytes.{terms_accepted}
use Rattle.promises.proofs.Demand1.{build_refusal_keeps}
use Rattle.promises.proofs.Demand2.{building, accepted_sheet_lem, built_asks}
use Rattle.promises.proofs.Demand3.{demand_3, walks, walk_is_plain}

-- "The answer word and rule are the same under every two accepted tables for which the graph is built": for an accepted sheet of
-- bytes s of which g is the graph built one way and h the one built another way, by two tables or by one and in document 01's
-- order, in whatever buffers, and every accepted piece of its arity.
module _ {asking other : Asking} {s buffer g space h p : List ℕ} {sheet : Sheet} {piece : Piece}
    (one : BuiltGraph asking s buffer g) (two : BuiltGraph other s space h) (ok : AcceptedBytes s p sheet piece) where
  pub same_answer_under_tables
      : (v w : Walk) → walk_reply s g p ≡ took 0 v → walk_reply s h p ≡ took 0 w → v.answer ≡ w.answer
  same_answer_under_tables v w e d =
      let are_bytes = ok.are_bytes.0 in
      let a = building one ok.sheet_accepted in
      let b = building two ok.sheet_accepted in
      same_answer_in_every_order sheet (accepted_sheet_lem one are_bytes a) (a.order sheet.rules) (b.order sheet.rules)
      (built_asks one are_bytes a) (built_asks two are_bytes b) a.nodes b.nodes a.graph b.graph piece.terms
      (terms_accepted ok) v w (walks one ok e) (walks two ok d)

  -- Neither walk is refused.
  pub answers_under_tables
      : (v w : Walk) × (walk_reply s g p ≡ took 0 v) × (walk_reply s h p ≡ took 0 w) × (v.answer ≡ w.answer)
  answers_under_tables =
      let (v, e, _) = demand_3 one ok in
      let (w, d, _) = demand_3 two ok in
      (v, w, e, d, same_answer_under_tables v w e d)

  -- So it is of the answer word and the rule that `vt_walk` hands back.
  pub same_word_and_rule
      : ((reply_values (walk_reply s g p)).refusal ≡ 0) × ((reply_values (walk_reply s h p)).refusal ≡ 0)
      × ((reply_values (walk_reply s g p)).word ≡ (reply_values (walk_reply s h p)).word)
      × ((reply_values (walk_reply s g p)).rule ≡ (reply_values (walk_reply s h p)).rule)
  same_word_and_rule =
      let (v, w, e, d, same) = answers_under_tables in
      let first = ap reply_values e in
      let second = ap reply_values d in (
        ap (λ (x : WalkValues). x.refusal) first,
        ap (λ (x : WalkValues). x.refusal) second,
        ap (λ (x : WalkValues). x.word) first ∙ ap word_of same ∙ sym (ap (λ (x : WalkValues). x.word) second),
        ap (λ (x : WalkValues). x.rule) first ∙ ap rule_of same ∙ sym (ap (λ (x : WalkValues). x.rule) second),
      )

-- They are those of the plain answer, which takes no table.
pub ordered_as_plain
    : {table s buffer g p : List ℕ} {sheet : Sheet} {piece : Piece} → BuiltGraph (by_table table) s buffer g
    → AcceptedBytes s p sheet piece
    → ((reply_values (walk_reply s g p)).word ≡ (reading_values (plain_reading s p)).word)
    × ((reply_values (walk_reply s g p)).rule ≡ (reading_values (plain_reading s p)).rule)
ordered_as_plain built ok =
    let (w, e, _) = demand_3 built ok in
    let due = ap reply_values e in
    let plain = walk_is_plain built ok e in (
      ap (λ (x : WalkValues). x.word) due ∙ sym (ap (λ (x : PlainValues). x.word) plain),
      ap (λ (x : WalkValues). x.rule) due ∙ sym (ap (λ (x : PlainValues). x.rule) plain),
    )

-- "Replaces the ascending order of places": the table of 0 to 679 gives what document 01's order gives, to the byte, and the same
-- refusals.
pub identity_table_lem : (s buffer : List ℕ) → AreBytes s → ordered_outcome s identity_table buffer ≡ build_outcome s buffer
unfolding outcome_in
identity_table_lem s buffer are_bytes =
    ap (λ (r : Reading (List ℕ)). sheet_built (accept_sheet s) (map_reading order_by r) buffer) identity_read ∙ go (accept_sheet s) refl
  where
    go
        : (r : Reading Sheet) → accept_sheet s ≡ r
        → sheet_built r (took 1360 (order_by (count_from 0 680))) buffer ≡ sheet_built r (took 0 lowest_first) buffer
    go (took k sheet) e =
        ap (λ (l : List ℕ). graph_written sheet.arity (length sheet.rules) (graph_in sheet.rules l) buffer)
        (identity_asks sheet ((sheet_accepted_lem s are_bytes k sheet).0 e).0)
    go (refused q) e = refl

-- "After the sheet's questions it refuses a table that isn't 1,360 bytes (28), has a place out of range or twice (29), or has one
-- before its parent (30), in this order":
module _ (s table buffer : List ℕ) where
  -- a sheet that is not accepted is refused by its own question, whatever the table is,
  pub sheet_refused_first : {q : ℕ} → accept_sheet s ≡ refused q → ordered_outcome s table buffer ≡ not_built q buffer
  unfolding outcome_in
  sheet_refused_first e = ap (λ (r : Reading Sheet). sheet_built r (read_asking (by_table table)) buffer) e

  module _ {k : ℕ} {sheet : Sheet} (e : accept_sheet s ≡ took k sheet) where
    -- with an accepted one a table that is not accepted is refused, by 28, 29 or 30,
    pub table_asked_after_sheet : {q : ℕ} → read_table table ≡ refused q → ordered_outcome s table buffer ≡ not_built q buffer
    unfolding outcome_in
    table_asked_after_sheet d = λ i. sheet_built (e i) (map_reading order_by (d i)) buffer

    -- and an accepted one gives the order of the graph, which is asked 18, then 19.
    pub graph_asked_after_table
        : {n : ℕ} {places : List ℕ} → read_table table ≡ took n places
        → ordered_outcome s table buffer
        ≡ graph_written sheet.arity (length sheet.rules) (graph_in sheet.rules (order_by places sheet.rules)) buffer
    unfolding outcome_in
    graph_asked_after_table d = λ i. sheet_built (e i) (map_reading order_by (d i)) buffer

  -- A refusal hands back no nodes and no bytes, and changes no byte of the buffer.
  pub ordered_refusal_keeps
      : ((ordered_outcome s table buffer).values.refusal ≡ 0 → ⊥)
      → ordered_outcome s table buffer ≡ not_built (ordered_outcome s table buffer).values.refusal buffer
  ordered_refusal_keeps = build_refusal_keeps (by_table table) s buffer

-- The check of a table answers, with 0, or refuses by one of its three questions.
pub order_check_answers : (table : List ℕ) → AnswersOr (Between 28 30) (table_refusal (read_table table))
order_check_answers table = go (read_table table) (table_named table)
  where
    go : (r : Reading (List ℕ)) → Named (Between 28 30) r → AnswersOr (Between 28 30) (table_refusal r)
    go (took k places) n = inl refl
    go (refused q) n = inr n
