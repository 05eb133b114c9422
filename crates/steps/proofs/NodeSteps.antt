-- What happens at a node, by the runs at its places and by its record.
use Prim.Native.Nat.{ℕ, ◌+◌, ◌≤◌}
use mathlib.Core.Path.{◌≡◌, refl, sym, ap, subst, ◌∙◌}
use mathlib.Core.Bool.{Bool, true, false, cond}
use mathlib.Core.Logic.{◌⊎◌}
use mathlib.Core.List.{List, []}
use native.Mathlib.Omega.{arith}
use lib.Dec.{leb, eqb}
use lib.ListN.{length, drop, length-drop}
use lib.Seq.{drop-drop}
use Rattle.records.specs.Reading.{Reading, took, refused, ask, after}
use Rattle.terms.specs.Outcome.{Outcome}
use Rattle.codes.specs.views.Codes.{low_of, high_of, unknown_run}
use Rattle.outcomes.proofs.TwoTests.{one_is, none_is}
use Rattle.decision.specs.Key.{fail_node}
use Rattle.decision.specs.Node.{Node, CaseEdge, end, switch, pair_node}
use Rattle.decision.specs.Path.{no_way, go_to, by_comparison}
use Rattle.graph.specs.declared.Leaf.{Leaf}
use Rattle.graph.specs.declared.Leaf.TheVariants.{Fail, Suspend, Execute}
use Rattle.graph.specs.declared.NodeRecord.TheVariants.{End, Switch, Pair}
use Rattle.std.specs.Prelude.{Ok}
use Rattle.graph.specs.views.NodeRecord.{switch_length, node_head, leaf_of}
use Rattle.graph.specs.ReadGraph.{read_cases, read_record}
use Rattle.graph.specs.views.Rewriting.{IsTook, read_or}
use Rattle.node_check.proofs.NodeHeads.{node_fits}
use Rattle.node_check.proofs.CopiedNodes.{cases_there}
use Rattle.steps.specs.declared.Step.TheVariants.{GoTo, NoWay}
use Rattle.number_search.specs.views.CodeCases.{follow_code}
use Rattle.steps.specs.views.CodeSteps.{run_step, runs_step, step_made}
use Rattle.graph.proofs.ByKinds.{node_read_by}

-- A switch whose place is lacking, unknown or known.
module _ (cs : List (CaseEdge ℕ)) (neither unknownEdge run test : ℕ) where
  pub switch_lacking : eqb run 0 ≡ true → NoWay ≡ step_made test (run_step cs neither unknownEdge run)
  switch_lacking e = rw e

  pub switch_on
      : (b : Bool) → eqb run 0 ≡ false → eqb run unknown_run ≡ b
      → GoTo (cond b unknownEdge (follow_code cs neither (low_of run) (high_of run))) test
      ≡ step_made test (run_step cs neither unknownEdge run)
  switch_on b e f =
      λ i. step_made test
      (cond (sym e i) no_way (go_to (cond (sym f i) unknownEdge (follow_code cs neither (low_of run) (high_of run)))))

-- A pair of which a place is lacking, or none.
module _ (a b differ other test : ℕ) (outcome : Outcome) where
  pub pair_lacking : (a ≡ 0) ⊎ (eqb b 0 ≡ true) → NoWay ≡ step_made test (runs_step differ other a b outcome)
  pair_lacking h = rw (one_is a b 0 h)

  pub pair_there
      : {o : Outcome} → (a ≡ 0 → ⊥) → eqb b 0 ≡ false → o ≡ outcome
      → step_made test (by_comparison differ other o) ≡ step_made test (runs_step differ other a b outcome)
  pair_there h k e = rw (none_is a b 0 h k) (ap (λ (x : Outcome). step_made test (by_comparison differ other x)) e)

-- The node of a record that s begins with.
module _ (s : List ℕ) where
  abbrev pub node_in : Node ℕ
  node_in = read_or (end fail_node) (read_record s)

  pub leaf_node : (l : Leaf) → node_head s ≡ Ok (End l) → end (leaf_of l) ≡ node_in
  leaf_node Fail e = sym (ap (read_or (end fail_node)) (node_read_by s e))
  leaf_node Suspend e = sym (ap (read_or (end fail_node)) (node_read_by s e))
  leaf_node (Execute i) e = sym (ap (read_or (end fail_node)) (node_read_by s e))

  pub pair_node_lem : {p q x y : ℕ} → node_head s ≡ Ok (Pair p q x y) → pair_node p q x y ≡ node_in
  pair_node_lem e = sym (ap (read_or (end fail_node)) (node_read_by s e))

  pub switch_node
      : {n count x y : ℕ} → node_head s ≡ Ok (Switch n count x y) → IsTook (read_record s)
      → switch n (read_or [] (read_cases count (drop switch_length s))) x y ≡ node_in
  switch_node {n} {count} {x} {y} e there =
      sym
      (ap (read_or (end fail_node)) (node_read_by s e)
      ∙ go (leb 1 count) (read_cases count (drop switch_length s)) (subst IsTook (node_read_by s e) there))
    where
      go
          : (b : Bool) (r : Reading (List (CaseEdge ℕ))) → IsTook (ask 22 b (after switch_length (λ cs. switch n cs x y) r))
          → read_or (end fail_node) (ask 22 b (after switch_length (λ cs. switch n cs x y) r)) ≡ switch n (read_or [] r) x y
      go true (took a cs) h = refl
      go true (refused q) h = absurd h
      go false r h = absurd h

-- The cases of a switch whose record begins at a position are there to be read, behind it.
module _ (s : List ℕ) (at : ℕ) (inside : at ≤ length s) {n count x y : ℕ}
    (e : node_head (drop at s) ≡ Ok (Switch n count x y)) where
  pub cases_inside_lem : at + switch_length ≤ length s
  cases_inside_lem = omega (arith, node_fits (drop at s) e, length-drop at s)

  pub cases_begin : drop switch_length (drop at s) ≡ drop (at + switch_length) s
  cases_begin = drop-drop switch_length at s

  pub cases_read : IsTook (read_record (drop at s)) → IsTook (read_cases count (drop (at + switch_length) s))
  cases_read there = subst (λ (l : List ℕ). IsTook (read_cases count l)) cases_begin (cases_there (drop at s) e there)
