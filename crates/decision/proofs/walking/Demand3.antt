-- Demand 3 for the walk over a graph built in any asking order, for every accepted sheet and every accepted piece of its arity,
-- whichever of its readings are missing: the walk is refused by no question, its answer is right, it has few edges, it is the
-- plain answer, it keeps what it promises for a piece filled in further, and it is the same in every asking order.
use Prim.Native.Nat.{ℕ, ◌≤◌}
use mathlib.Core.Path.{◌≡◌}
use mathlib.Core.List.{List}
use mathlib.Core.Option.{some}
use lib.ListN.{length}
use Rattle.terms.specs.Term.{Terms}
use Rattle.terms.specs.Accepted.{AcceptedPiece}
use Rattle.terms.specs.Filling.{FilledFurther}
use Rattle.terms.specs.Answer.{rule_at, plain_answer}
use Rattle.terms.specs.Right.{Right, Keeps}
use Rattle.terms.proofs.Verdict.{one_right}
use Rattle.terms.proofs.Stays.{rule_stays}
use Rattle.terms.proofs.Monotone.{right_keeps}
use Rattle.terms.proofs.Plain.{rules_say, plain_answer_right}
use Rattle.sheet.specs.Sheet.{Sheet}
use Rattle.sheet_tests.specs.SheetTests.{sheet_tests}
use Rattle.sheet_tests.specs.CheckSheet.{AcceptedSheet, most_tests}
use Rattle.decision.specs.Node.{Node}
use Rattle.decision.specs.Graph.{graph_in}
use Rattle.decision.specs.AskingOrder.{AskingOrder}
use Rattle.decision.specs.Walk.{Walk, walk}
use Rattle.decision.proofs.walking.BuiltWalk.{WalksRight, given, walk_answers, answer_right, answer_few, walks_right}
use Rattle.records.specs.Reading.{took}

module _ (sheet : Sheet) (accepted : AcceptedSheet sheet) where
  -- In every asking order the walk over the graph is refused by no question and answers rightly.
  pub right_in_every_order
      : (order : List ℕ) → AskingOrder sheet.rules order
      → (nodes : List (Node ℕ)) → graph_in sheet.rules order ≡ some nodes
      → (piece : Terms) → AcceptedPiece sheet.arity piece → WalksRight sheet.rules nodes piece
  right_in_every_order order asks nodes built piece ok =
      walks_right sheet.arity sheet.rules piece accepted.sound.accepted_rules ok order asks
      accepted.few_tests nodes built

  -- So the graphs built in any two asking orders give one answer.
  pub same_answer_in_every_order
      : (p q : List ℕ) → AskingOrder sheet.rules p → AskingOrder sheet.rules q
      → (first second : List (Node ℕ)) → graph_in sheet.rules p ≡ some first → graph_in sheet.rules q ≡ some second
      → (piece : Terms) → AcceptedPiece sheet.arity piece
      → (v w : Walk) → walk sheet.rules first piece ≡ took 0 v → walk sheet.rules second piece ≡ took 0 w
      → v.answer ≡ w.answer
  same_answer_in_every_order p q asksP asksQ first second builtP builtQ piece ok v w e d =
      let one = right_in_every_order p asksP first builtP piece ok in
      let other = right_in_every_order q asksQ second builtQ piece ok in
      one_right sheet.rules piece ok.well_formed v.answer w.answer (answer_right one e) (answer_right other d)

  module _ (order : List ℕ) (asks : AskingOrder sheet.rules order) (nodes : List (Node ℕ))
      (built : graph_in sheet.rules order ≡ some nodes) where
    walks : (piece : Terms) → AcceptedPiece sheet.arity piece → WalksRight sheet.rules nodes piece
    walks = right_in_every_order order asks nodes built

    -- Demand 3: the walk of every accepted piece answers, and the answer is right: it is commit i, execute i, fail or
    -- suspend exactly when the fillings of the piece, met by the rules or not, ask for that.
    pub demand_3
        : (piece : Terms) → AcceptedPiece sheet.arity piece
        → (w : Walk) × (walk sheet.rules nodes piece ≡ took 0 w) × Right sheet.rules piece w.answer
    demand_3 piece ok = let r = walks piece ok in (given r, walk_answers r, r.right)

    module _ (piece : Terms) (ok : AcceptedPiece sheet.arity piece)
        (w : Walk) (e : walk sheet.rules nodes piece ≡ took 0 w) where
      -- The walk has at most as many edges as the sheet has tests, which are at most 64.
      pub few_edges : (w.edges ≤ length (sheet_tests sheet.rules)) × (length (sheet_tests sheet.rules) ≤ most_tests)
      few_edges = (answer_few (walks piece ok) e, accepted.few_tests)

      -- The answer is the plain answer.
      pub walk_is_plain : w.answer ≡ plain_answer sheet.rules piece
      walk_is_plain =
          one_right sheet.rules piece ok.well_formed w.answer (plain_answer sheet.rules piece)
          (answer_right (walks piece ok) e)
          (plain_answer_right sheet.arity sheet.rules piece accepted.sound.accepted_rules ok)

      -- The same graph answers, for every accepted piece that comes from this one by filling in more, fail where it
      -- answered fail, commit i where commit i, and execute i, commit i or fail where execute i.
      pub monotone_promise
          : (further : Terms) → AcceptedPiece sheet.arity further → FilledFurther piece further
          → (v : Walk) → walk sheet.rules nodes further ≡ took 0 v → Keeps w.answer v.answer
      monotone_promise further okFurther more v d =
          let rules = sheet.rules in
          let accepted_rules = accepted.sound.accepted_rules in
          let say = rules_say sheet.arity rules piece accepted_rules ok in
          let sayFurther = rules_say sheet.arity rules further accepted_rules okFurther in
          right_keeps rules piece further ok.well_formed okFurther.well_formed (λ i. rule_stays more (rule_at rules i))
          say sayFurther w.answer v.answer
          (answer_right (walks piece ok) e) (answer_right (walks further okFurther) d)
