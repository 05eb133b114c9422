-- The fakes of document 01 ("Terms of acceptance"): what each of them would hand back is not what the contracts' definitions give.
use Prim.Native.Nat.{ℕ}
use mathlib.Core.Path.{◌≡◌, refl, sym, ap, ◌∙◌}
use mathlib.Core.List.{List, [], ◌∷◌}
use mathlib.Core.Option.{some}
use native.Mathlib.Omega.{arith}
use lib.ListN.{get_or}
use Rattle.masks.specs.Mask.{has, mask_of, members}
use Rattle.records.specs.Reading.{Reading, took, read_row}
use Rattle.terms.specs.Answer.{word_of, execute}
use Rattle.sheet.specs.Sheet.{Sheet}
use Rattle.sheet.specs.ReadSheet.{read_pattern, read_header, read_sheet}
use Rattle.sheet_tests.specs.CheckSheet.{accept_sheet}
use Rattle.decision.specs.Key.{fail_node}
use Rattle.decision.specs.Node.{end}
use Rattle.decision.specs.Graph.{lowest_first, graph_of}
use Rattle.decision.specs.Walk.{Walk}
use Rattle.order.specs.Asking.{lowest}
use Rattle.walk.specs.Walking.{WalkValues, walk_reply, reply_values}
use Rattle.build.specs.BuildOutcome.{BuildOutcome, build_outcome}
use Rattle.build.proofs.BuiltBytes.{built_outcome}
use Rattle.promises.specs.Example.{example_sheet, example_graph, example_buffer, example_piece, empty_sheet}
use Rattle.promises.proofs.Marked.{marked_bytes}
use Rattle.promises.proofs.Example.{example_built, example_graph_lem}
use Rattle.basics.specs.Lists.{any_below, all_below}
use Rattle.build.specs.Building.{Building}

-- "A builder whose root is always suspend": byte 5 of the graph, the kind of its root, is 41 for every sheet. For the example it is
-- not.
pub root_always_suspend : (x : BuildOutcome) → get_or x.buffer 5 0 ≡ 0x41 → x ≡ build_outcome example_sheet example_buffer → ⊥
root_always_suspend x e same =
    let z : ◌≡◌ {A = ℕ} 0x41 0x43 = sym e ∙ ap (λ (y : BuildOutcome). get_or y.buffer 5 0) (same ∙ example_built) in
    omega arith

-- "A compiler that refuses every sheet": the example is not refused.
pub refuses_every_sheet : (x : BuildOutcome) → (x.values.refusal ≡ 0 → ⊥) → x ≡ build_outcome example_sheet example_buffer → ⊥
refuses_every_sheet x e same = e (ap (λ (y : BuildOutcome). y.values.refusal) (same ∙ example_built))

-- The sheet of arity 1 without rules is accepted, and its graph is one fail.
abbrev empty_read : Sheet
empty_read = record { arity = 1; rules = [] }

empty_accepted : accept_sheet empty_sheet ≡ took 3 empty_read
unfolding accept_sheet read_sheet read_header read_pattern read_row all_below
empty_accepted = refl

empty_nodes : graph_of [] ≡ some (end fail_node ∷ [])
unfolding has mask_of members any_below
empty_nodes = refl

empty_built : get_or (build_outcome empty_sheet example_buffer).buffer 1 0 ≡ 1
empty_built = ap (λ (y : BuildOutcome). get_or y.buffer 1 0) (built_outcome lowest empty_sheet example_buffer building)
  where
    building : Building lowest empty_sheet example_buffer
    building = record {
      sheet = empty_read;
      taken = 3;
      accepted = empty_accepted;
      order = lowest_first;
      table_taken = 0;
      ordered = refl;
      nodes = end fail_node ∷ [];
      graph = empty_nodes;
      fits = omega arith;
    }

-- "Or copies one stored graph": the same bytes for both sheets, whatever they are.
pub copies_one_graph
    : (x y : BuildOutcome) → x.buffer ≡ y.buffer → x ≡ build_outcome example_sheet example_buffer
    → y ≡ build_outcome empty_sheet example_buffer → ⊥
copies_one_graph x y e same other =
    let first : get_or x.buffer 1 0 ≡ 2 = ap (λ (z : BuildOutcome). get_or z.buffer 1 0) (same ∙ example_built) in
    let second : get_or y.buffer 1 0 ≡ 1 = ap (λ (z : BuildOutcome). get_or z.buffer 1 0) other ∙ empty_built in
    let both : get_or x.buffer 1 0 ≡ get_or y.buffer 1 0 = ap (λ (l : List ℕ). get_or l 1 0) e in
    omega arith

-- The example's second piece, (?, 1), over the example's graph, is answered execute 1 after 2 edges.
second
    : (w : Walk) × (walk_reply example_sheet example_graph example_piece ≡ took 0 w) × (w.answer ≡ execute 1)
    × ((w.edges ≡ 2) × (w.waits ≡ 4))
second = marked_bytes.1.0.walks example_buffer example_graph example_graph_lem

-- "A walk that says suspend on its first unknown": its word is not the one that is due.
pub suspends_at_first_unknown
    : (x : WalkValues) → x.word ≡ 3 → x ≡ reply_values (walk_reply example_sheet example_graph example_piece) → ⊥
suspends_at_first_unknown x e same =
    let (w, reply, answer, walked) = second in
    let due = ap (λ (r : Reading Walk). (reply_values r).word) reply ∙ ap word_of answer in
    omega (arith, e, ap (λ (y : WalkValues). y.word) same, due)

-- "A walk that invents its edge count": 2 is due, and no other number.
pub invents_edges
    : (x : WalkValues) → (x.edges ≡ 2 → ⊥) → x ≡ reply_values (walk_reply example_sheet example_graph example_piece) → ⊥
invents_edges x e same =
    let (w, reply, answer, walked) = second in
    e (ap (λ (y : WalkValues). y.edges) same ∙ ap (λ (r : Reading Walk). (reply_values r).edges) reply ∙ walked.0)
