-- The node of a key, off the tables and cuts of a sheet, whatever these hold. Its edges lead to keys.
use Rattle.std.specs.Prelude.{ℕ, suc, ◌/◌, ◌%◌, cond, List, [], ◌∷◌, map, eqb, ltb}
use Rattle.masks.specs.Mask.{members}
use Rattle.decision.specs.Key.{Key, fail_node, suspend_node, execute_node}
use Rattle.decision.specs.Node.{Node, CaseEdge, end, switch, pair_node}
use Rattle.tables.specs.views.Planes.{rules_in, place_tests_in, test_in, first_asked_in}
use Rattle.cuts.specs.views.Cuts.{part_at, cuts_in}
use Rattle.cuts.specs.views.Runs.{Run, run_case}
use Rattle.cuts.specs.views.CaseRuns.{switch_runs}
use Rattle.edges.specs.declared.Asked.{Asked}
use Rattle.edges.specs.views.KeysBehind.{asked_in, none_behind, other_behind, run_behind, unknown_behind}

-- The case of a run, with the key behind it.
abbrev pub run_edge : List ℕ → Asked → Run → CaseEdge Key
run_edge s a run = record { case = run_case run.low run.high; target = run_behind s a run.set }

module _ (s c : List ℕ) where
  -- The cases of the switch that asks a place.
  abbrev pub switch_edges : Asked → List (CaseEdge Key)
  switch_edges a = map (run_edge s a) (switch_runs a.live (cuts_in c (part_at (rules_in s) a.test)))

  -- The node that asks.
  abbrev pub ask_in : Asked → Node Key
  ask_in a =
      cond (ltb a.test (place_tests_in s))
      (switch (test_in s a.test % 0x1_0000) (switch_edges a) (none_behind s a) (unknown_behind s a))
      (pair_node (test_in s a.test / 0x1_0000 % 0x1_0000) (test_in s a.test % 0x1_0000) (none_behind s a) (other_behind s a))

  abbrev pub node_with : List ℕ → Key → Node Key
  node_with [] key = end (cond (eqb key.pending 0) fail_node suspend_node)
  node_with (i ∷ []) key = end (execute_node (suc i))
  node_with (i ∷ (j ∷ l)) key =
      cond (eqb key.pending 0) (end suspend_node) (ask_in (asked_in s key (first_asked_in s key.pending)))

  abbrev pub node_in : Key → Node Key
  node_in key = node_with (members 64 key.live) key
