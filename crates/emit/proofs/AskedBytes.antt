-- The bytes of a node that asks: a switch's record and its cases, or a pair's record.
use Prim.Native.Nat.{ℕ, ◌/◌, ◌%◌, ◌≤◌, ◌<◌}
use mathlib.Core.Path.{◌≡◌, refl, sym, ap, ◌∙◌}
use mathlib.Core.List.{List, [], ◌∷◌, ◌++◌, map}
use lib.ListN.{length, length-map}
use borrow.Author.Tests.{le-ltb}
use Rattle.records.specs.Fields.{wide_then}
use Rattle.decision.specs.Key.{Key}
use Rattle.decision.specs.Node.{Node, map_case, map_node}
use Rattle.decision.specs.GraphBytes.{case_bytes, cases_bytes, node_bytes}
use Rattle.graph.specs.declared.CaseRecord.{CaseRecord}
use Rattle.graph.specs.declared.Leaf.{Leaf}
use Rattle.graph.specs.declared.NodeRecord.TheVariants.{End, Switch, Pair}
use Rattle.graph.specs.views.WriteNode.{node_record_bytes, case_record_bytes}
use Rattle.tables.specs.views.Planes.{rules_in, place_tests_in, test_in}
use Rattle.cuts.specs.views.Cuts.{part_at, cuts_in}
use Rattle.cuts.specs.views.Runs.{Run, run_case}
use Rattle.cuts.specs.views.CaseRuns.{switch_runs}
use Rattle.edges.specs.declared.Asked.{Asked}
use Rattle.edges.specs.views.KeysBehind.{asked_in, none_behind, other_behind, run_behind, unknown_behind}
use Rattle.edges.specs.views.NodeIn.{run_edge, node_in}
use Rattle.met.specs.views.KeysMet.{key_number}
use Rattle.keys.specs.declared.Kind.{Kind}
use Rattle.keys.specs.declared.Kind.TheVariants as kind
use Rattle.keys.specs.views.Expanded.{kind_node}
use Rattle.keys.proofs.NodeKinds.{node_leaf, node_asks}
use Rattle.keys.proofs.SwitchParts.{switch_is}
use Rattle.emit.specs.views.Laid.{run_bytes, ask_bytes, key_bytes}

module _ (s : List ℕ) (keys : List Key) (asked : Asked) where
  -- The record of the case that leads to a node is that of the next run.
  pub case_next
      : {rest more : List Run} (run : Run) → rest ≡ run ∷ more → {node : ℕ} (r : CaseRecord)
      → case_record_bytes r ≡ case_bytes (run_case run.low run.high) node → node ≡ key_number keys (run_behind s asked run.set)
      → run_bytes s keys asked rest ≡ case_record_bytes r ++ run_bytes s keys asked more
  case_next {rest} {more} run is r e d =
      let same = e ∙ ap (case_bytes (run_case run.low run.high)) d in
      ap (run_bytes s keys asked) is ∙ ap (λ (l : List ℕ). l ++ run_bytes s keys asked more) (sym same)

  -- The cases of a switch are those of its runs,
  runs_bytes
      : (rs : List Run) → cases_bytes (map (map_case (key_number keys)) (map (run_edge s asked) rs)) ≡ run_bytes s keys asked rs
  runs_bytes [] = refl
  runs_bytes (run ∷ rs) =
      ap
      (λ (l : List ℕ).
      case_bytes (run_case run.low run.high) (key_number keys (run_behind s asked run.set)) ++ l)
      (runs_bytes rs)

  -- as many.
  runs_many : (rs : List Run) → length (map (map_case (key_number keys)) (map (run_edge s asked) rs)) ≡ length rs
  runs_many rs = length-map (map (run_edge s asked) rs) (map_case (key_number keys)) ∙ length-map rs (run_edge s asked)

  -- So a switch is its record and the cases of its runs,
  pub switch_bytes
      : (c : List ℕ) → asked.test < place_tests_in s → (rs : List Run) {from : ℕ}
      → from ≡ part_at (rules_in s) asked.test → rs ≡ switch_runs asked.live (cuts_in c from) → {count : ℕ} → count ≡ length rs
      → {test neither unknown : ℕ} {none other : Key} → test ≡ test_in s asked.test → neither ≡ key_number keys none
      → none ≡ none_behind s asked → unknown ≡ key_number keys other → other ≡ unknown_behind s asked
      → ask_bytes s c keys asked
      ≡ node_record_bytes (Switch (test % 0x1_0000) count neither unknown) ++ run_bytes s keys asked rs
  switch_bytes c h rs e is n t x x' y y' =
      let counted = runs_many rs ∙ sym n in
      let first = x ∙ ap (key_number keys) x' in
      let second = y ∙ ap (key_number keys) y' in
      ap (λ (node : Node Key). node_bytes (map_node (key_number keys) node)) (switch_is s c asked h rs e is)
      ∙ (λ i.
      0x43
      ∷ wide_then (sym t i % 0x1_0000)
      (wide_then (counted i) (wide_then (sym first i) (wide_then (sym second i) (runs_bytes rs i)))))

  -- and a pair its record.
  pub pair_bytes
      : (c : List ℕ) → place_tests_in s ≤ asked.test → {test differ rest : ℕ} {none other : Key} → test ≡ test_in s asked.test
      → differ ≡ key_number keys none → none ≡ none_behind s asked → rest ≡ key_number keys other → other ≡ other_behind s asked
      → node_record_bytes (Pair (test / 0x1_0000 % 0x1_0000) (test % 0x1_0000) differ rest) ≡ ask_bytes s c keys asked
  pair_bytes c h t x x' y y' =
      let first = x ∙ ap (key_number keys) x' in
      let second = y ∙ ap (key_number keys) y' in
      (λ i. node_record_bytes (Pair (t i / 0x1_0000 % 0x1_0000) (t i % 0x1_0000) (first i) (second i)))
      ∙ sym (simp (le-ltb asked.test (place_tests_in s) h))

  pub pair_length : (c : List ℕ) → place_tests_in s ≤ asked.test → length (ask_bytes s c keys asked) ≡ 9
  pair_length c h = simp (le-ltb asked.test (place_tests_in s) h)

module _ (s c : List ℕ) (keys : List Key) (key : Key) (k : Kind) (is : node_in s c key ≡ kind_node s c key k) where
  -- The node of a key that is a leaf is its record,
  pub leaf_bytes_lem : (l : Leaf) → k ≡ kind.End l → node_record_bytes (End l) ≡ key_bytes s c keys key
  leaf_bytes_lem l e =
      ap (λ (node : Node Key). node_bytes (map_node (key_number keys) node)) (sym (node_leaf s c k refl is e))

  -- and another node asks a test.
  pub ask_bytes_lem
      : {t : ℕ} {asked : Asked} → k ≡ kind.Ask t → asked ≡ asked_in s key t → ask_bytes s c keys asked ≡ key_bytes s c keys key
  ask_bytes_lem e d = ap (λ (node : Node Key). node_bytes (map_node (key_number keys) node)) (sym (node_asks s c k refl is e d))
