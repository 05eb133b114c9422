-- The calls go by the arity and the tests of a sheet alone: two accepted sheets of one arity whose rules have, one after another,
-- the same place tests and the same equality tests get the same of every call, whatever else it is handed.
use Prim.Native.Nat.{ℕ}
use mathlib.Core.Path.{◌≡◌, refl, sym, ap, ◌∙◌}
use mathlib.Core.List.{List, map}
use lib.Dec.{eqb}
use lib.ListN.{length}
use Rattle.basics.specs.Lists.{any_of}
use Rattle.records.specs.Reading.{Reading, took, refused, ask, and_then, map_reading}
use Rattle.records.specs.Written.{Result, result_of, ask_fits}
use Rattle.terms.specs.Pattern.{Patterns}
use Rattle.terms.specs.RuleTests.{place_tests, pair_tests}
use Rattle.terms.specs.Answer.{plain_answer}
use Rattle.sheet.specs.Sheet.{Sheet}
use Rattle.sheet_tests.specs.SheetTests.{sheet_tests}
use Rattle.sheet_tests.specs.CheckSheet.{accept_sheet, sheet_values}
use Rattle.piece.specs.ReadPiece.{read_piece}
use Rattle.plain.specs.Plain.{piece_reading, plain_reading}
use Rattle.decision.specs.Rules.{same_test}
use Rattle.decision.specs.Graph.{graph_in, lowest_first}
use Rattle.decision.specs.PlaceOrder.{order_by}
use Rattle.decision.specs.GraphBytes.{graph_bytes}
use Rattle.decision.specs.Walk.{walk}
use Rattle.decision.proofs.rules.SameTests.{same_tests_same_count, same_tests_same_tests, same_tests_same_plain}
use Rattle.decision.proofs.built.SameGraph.{same_tests_same_graph_in, same_tests_same_numbers, same_tests_same_order}
use Rattle.decision.proofs.walking.SameWalk.{same_tests_same_walk}
use Rattle.graph.specs.ReadGraph.{read_by, read_graph}
use Rattle.graph_check.specs.CheckGraph.{graph_reading}
use Rattle.graph_check.specs.Rewritten.{rewritten}
use Rattle.order.specs.Table.{read_table}
use Rattle.order.specs.Asking.{Asking, lowest, by_table, read_asking}
use Rattle.build.specs.BuildOutcome.{graph_written, sheet_built, outcome_in}
use Rattle.walk.specs.Walking.{piece_reply, walk_reply}

module _
    (s t : List ℕ) {j k : ℕ} {one two : Sheet} (e : accept_sheet s ≡ took j one) (d : accept_sheet t ≡ took k two)
    (arity : one.arity ≡ two.arity) (places : map place_tests one.rules ≡ map place_tests two.rules)
    (pairs : map pair_tests one.rules ≡ map pair_tests two.rules)
  where
    count : length one.rules ≡ length two.rules
    count = same_tests_same_count one.rules two.rules places pairs

    tests : sheet_tests one.rules ≡ sheet_tests two.rules
    tests = same_tests_same_tests one.rules two.rules places pairs

    -- The check of the sheet gives the same values,
    pub same_check : sheet_values (accept_sheet s) ≡ sheet_values (accept_sheet t)
    same_check =
        ap sheet_values e
        ∙ (λ i. record { refusal = 0; arity = arity i; rules = count i; tests = length (tests i) })
        ∙ sym (ap sheet_values d)

    -- a build, in document 01's order or by a table, the same graph in the same buffer, or the same refusal,
    by_order
        : (buffer : List ℕ) (order : List Patterns → List ℕ) → order one.rules ≡ order two.rules
        → graph_written one.arity (length one.rules) (graph_in one.rules (order one.rules)) buffer
        ≡ graph_written two.arity (length two.rules) (graph_in two.rules (order two.rules)) buffer
    by_order buffer order same =
        let graph =
        same_tests_same_graph_in one.rules two.rules places pairs (order one.rules) ∙ ap (graph_in two.rules) same in
        λ i. graph_written (arity i) (count i) (graph i) buffer

    by_asking
        : (asking : Asking) (buffer : List ℕ)
        → sheet_built (took j one) (read_asking asking) buffer ≡ sheet_built (took k two) (read_asking asking) buffer
    by_asking lowest buffer = by_order buffer lowest_first (same_tests_same_numbers one.rules two.rules places pairs)
    by_asking (by_table table) buffer = go (read_table table)
      where
        go
            : (r : Reading (List ℕ))
            → sheet_built (took j one) (map_reading order_by r) buffer ≡ sheet_built (took k two) (map_reading order_by r) buffer
        go (took n asked) =
            by_order buffer (order_by asked) (same_tests_same_order one.rules two.rules places pairs asked)
        go (refused q) = refl

    pub same_build : (asking : Asking) (buffer : List ℕ) → outcome_in asking s buffer ≡ outcome_in asking t buffer
    unfolding outcome_in
    same_build asking buffer =
        let built : Reading Sheet → _ = λ r. sheet_built r (read_asking asking) buffer in
        ap built e ∙ by_asking asking buffer ∙ sym (ap built d)

    -- a piece the same plain answer,
    pub same_plain : (p : List ℕ) → plain_reading s p ≡ plain_reading t p
    unfolding plain_reading
    same_plain p =
        let answered : Reading Sheet → _ = λ r. and_then r (λ _ sheet. piece_reading sheet.arity sheet.rules p) in
        let answer : plain_answer one.rules ≡ plain_answer two.rules =
        λ i piece. same_tests_same_plain one.rules two.rules places pairs piece i in
        ap answered e
        ∙ (λ i. and_then (read_piece p) (λ _ piece. ask 20 (eqb (arity i) piece.arity) (took 0 (answer i piece.terms))))
        ∙ sym (ap answered d)

    -- any bytes are read as the same graph,
    graph_read : (g : List ℕ) → read_graph one g ≡ read_graph two g
    graph_read g = λ i. read_by (λ x. any_of (same_test x) (tests i)) (arity i) (count i) g

    pub same_graph_check : (g : List ℕ) → graph_reading s g ≡ graph_reading t g
    unfolding graph_reading
    same_graph_check g =
        let read : Reading Sheet → _ = λ r. and_then r (λ _ sheet. read_graph sheet g) in
        ap read e ∙ graph_read g ∙ sym (ap read d)

    -- which is written again alike,
    pub same_rewrite : (g buffer : List ℕ) → rewritten s g buffer ≡ rewritten t g buffer
    unfolding rewritten
    same_rewrite g buffer =
        let left : Reading (List ℕ) → Result = λ r. result_of buffer (and_then r (λ _ bytes. ask_fits 19 buffer bytes)) in
        let bytes : Reading Sheet → Reading (List ℕ) =
        λ r. and_then r (λ _ sheet. map_reading (graph_bytes sheet.arity (length sheet.rules)) (read_graph sheet g)) in
        ap left (ap bytes e ∙ (λ i. map_reading (graph_bytes (arity i) (count i)) (graph_read g i)) ∙ sym (ap bytes d))

    -- and a piece walks over it alike: the same answer, edges and wait list.
    pub same_walk : (g p : List ℕ) → walk_reply s g p ≡ walk_reply t g p
    unfolding walk_reply
    same_walk g p =
        let replied : Reading Sheet → _ = λ r. and_then r (λ _ sheet. piece_reply sheet g p) in
        let walks : walk one.rules ≡ walk two.rules =
        λ i nodes piece. same_tests_same_walk one.rules two.rules places pairs nodes piece i in
        ap replied e
        ∙ (λ i.
        and_then (read_piece p)
        (λ _ piece.
        ask 20 (eqb (arity i) piece.arity) (and_then (graph_read g i) (λ _ nodes. walks i nodes piece.terms))))
        ∙ sym (ap replied d)
