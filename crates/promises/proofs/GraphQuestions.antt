-- A graph is refused by one of its own questions, 21 to 25, and a walk over its nodes by 26 or 27.
use Prim.Native.Nat.{ℕ, zero, suc, ◌-◌}
use mathlib.Core.Bool.{Bool, true, false, cond}
use mathlib.Core.List.{List, [], ◌∷◌}
use native.Mathlib.Omega.{arith}
use lib.Dec.{leb, eqb}
use lib.ListN.{length, get_or, drop}
use Rattle.std.specs.Prelude.{Result, Ok, Err}
use Rattle.records.specs.Fields.{wide_at}
use Rattle.records.specs.Reading.{Reading, took, refused, ask, after}
use Rattle.records.specs.Refusals.{number}
use Rattle.records.specs.declared.refusal.Refusal.{Refusal}
use Rattle.terms.specs.Term.{Terms}
use Rattle.terms.specs.Pattern.{Patterns}
use Rattle.sheet_tests.specs.SheetTests.{Test}
use Rattle.sheet.specs.Sheet.{Sheet}
use Rattle.decision.specs.Node.{Node, CaseEdge, switch}
use Rattle.decision.specs.Path.{Step, stop, go_to, no_way, node_at, step_at, last_step, next_step, path_from, most_edges, path}
use Rattle.decision.specs.Walk.{walk}
use Rattle.graph.specs.declared.Leaf.TheVariants.{Execute}
use Rattle.graph.specs.declared.NodeRecord.{NodeRecord}
use Rattle.graph.specs.declared.NodeRecord.TheVariants.{End, Switch, Pair}
use Rattle.graph.specs.declared.CaseRecord.{CaseRecord}
use Rattle.graph.specs.declared.CaseRecord.TheVariants.{Symbols, Compound, Numbers}
use Rattle.graph.specs.views.NodeRecord.{whole_node, whole_case, switch_length, switch_record, node_head, case_head, on_case, on_node}
use Rattle.graph.specs.ReadGraph.{read_cases, is_sheet_test, in_range, in_order, read_node, read_nodes, end_graph, has_header, read_by, read_graph, read_case, read_record}
use Rattle.accepted.proofs.Named.{Named, ask_named, then_named, after_named, map_named, row_named}
use Rattle.promises.specs.Questions.{GraphQuestion, PathQuestion}
use Rattle.graph.proofs.ByKinds.{case_by_kind, node_by_kind}
use mathlib.Core.Path.{sym, subst}

-- So it is with the record of a case,
abbrev CaseNamed : Result CaseRecord Refusal → Type 0
CaseNamed (Ok r) = Unit
CaseNamed (Err r) = GraphQuestion (number r)

whole_case_lem : (b : Bool) (r : CaseRecord) → CaseNamed (whole_case b r)
whole_case_lem true r = tt
whole_case_lem false r = (omega arith, omega arith)

kind_case : (b : Bool) (x y : Result CaseRecord Refusal) → CaseNamed x → CaseNamed y → CaseNamed (cond b x y)
kind_case true x y h k = h
kind_case false x y h k = k

case_head_named : (s : List ℕ) → CaseNamed (case_head s)
case_head_named s =
    kind_case (eqb (length s) 0) _ _ (omega arith, omega arith)
    (kind_case (eqb (get_or s 0 0) 0x44) _ _ (whole_case_lem (leb 7 (length s)) (Symbols (wide_at s 1) (wide_at s 3) (wide_at s 5)))
    (kind_case (eqb (get_or s 0 0) 0x45) _ _ (whole_case_lem (leb 6 (length s)) (Compound (wide_at s 1) (get_or s 3 0) (wide_at s 4)))
    (kind_case (eqb (get_or s 0 0) 0x46) _ _ (whole_case_lem (leb 8 (length s)) (Numbers (wide_at s 2) (wide_at s 4) (wide_at s 6) (get_or s 1 0)))
    (omega arith, omega arith))))

on_case_named : (h : Result CaseRecord Refusal) → CaseNamed h → Named GraphQuestion (on_case h)
on_case_named (Ok (Symbols l u n)) h = tt
on_case_named (Ok (Compound a k n)) h = tt
on_case_named (Ok (Numbers l u n g)) h = tt
on_case_named (Err q) h = h

cases_named : (n : ℕ) (s : List ℕ) → Named GraphQuestion (read_cases n s)
cases_named n s =
    row_named GraphQuestion [] ◌∷◌ read_case
    (λ (bytes : List ℕ).
    subst (Named GraphQuestion) (sym (case_by_kind bytes)) (on_case_named (case_head bytes) (case_head_named bytes)))
    n s

-- of a node,
abbrev NodeNamed : Result NodeRecord Refusal → Type 0
NodeNamed (Ok r) = Unit
NodeNamed (Err r) = GraphQuestion (number r)

whole_node_lem : (b : Bool) (r : NodeRecord) → NodeNamed (whole_node b r)
whole_node_lem true r = tt
whole_node_lem false r = (omega arith, omega arith)

kind_node_lem : (b : Bool) (x y : Result NodeRecord Refusal) → NodeNamed x → NodeNamed y → NodeNamed (cond b x y)
kind_node_lem true x y h k = h
kind_node_lem false x y h k = k

node_head_named : (s : List ℕ) → NodeNamed (node_head s)
node_head_named s =
    kind_node_lem (eqb (length s) 0) _ _ (omega arith, omega arith)
    (kind_node_lem (eqb (get_or s 0 0) 0x40) _ _ tt
    (kind_node_lem (eqb (get_or s 0 0) 0x41) _ _ tt
    (kind_node_lem (eqb (get_or s 0 0) 0x42) _ _ (whole_node_lem (leb 2 (length s)) (End (Execute (get_or s 1 0))))
    (kind_node_lem (eqb (get_or s 0 0) 0x43) _ _
    (whole_node_lem (leb switch_length (length s)) (switch_record s))
    (kind_node_lem (eqb (get_or s 0 0) 0x47) _ _
    (whole_node_lem (leb 9 (length s)) (Pair (wide_at s 1) (wide_at s 3) (wide_at s 5) (wide_at s 7)))
    (omega arith, omega arith))))))

on_node_named : (s : List ℕ) (h : Result NodeRecord Refusal) → NodeNamed h → Named GraphQuestion (on_node s h)
on_node_named s (Ok (End l)) h = tt
on_node_named s (Ok (Switch n count x y)) h =
    let node : List (CaseEdge ℕ) → Node ℕ = λ cases. switch n cases x y in
    let read : Reading (Node ℕ) = after switch_length node (read_cases count (drop switch_length s)) in
    ask_named GraphQuestion 22 (leb 1 count) read (omega arith, omega arith)
    (after_named GraphQuestion switch_length node (read_cases count (drop switch_length s)) (cases_named count (drop switch_length s)))
on_node_named s (Ok (Pair p q x y)) h = tt
on_node_named s (Err q) h = h

module _ (test : Test → Bool) (rules nodes : ℕ) where
  node_named : (s : List ℕ) → Named GraphQuestion (read_node test rules nodes s)
  node_named s =
      then_named GraphQuestion (read_record s)
      (λ a node. ask 23 (in_range test rules nodes node) (ask 24 (in_order node) (took a node)))
      (subst (Named GraphQuestion) (sym (node_by_kind s)) (on_node_named s (node_head s) (node_head_named s)))
      (λ a node.
      ask_named GraphQuestion 23 (in_range test rules nodes node) (ask 24 (in_order node) (took a node)) (omega arith, omega arith)
      (ask_named GraphQuestion 24 (in_order node) (took a node) (omega arith, omega arith) tt))

end_named : (bytes : ℕ) (x : Reading (List (Node ℕ))) → Named GraphQuestion x → Named GraphQuestion (end_graph bytes x)
end_named bytes (took a nodes) h = ask_named GraphQuestion 25 (eqb a bytes) (took _ nodes) (omega arith, omega arith) tt
end_named bytes (refused q) h = h

-- and of a graph.
pub graph_named : (sheet : Sheet) (s : List ℕ) → Named GraphQuestion (read_graph sheet s)
unfolding read_by
graph_named sheet s =
    let test = is_sheet_test sheet.rules in
    let rules = length sheet.rules in
    let read : Reading (List (Node ℕ)) = read_nodes test rules (wide_at s 3) (drop 5 s) in
    ask_named GraphQuestion 21 (has_header sheet.arity rules s) (end_graph (length s - 5) read) (omega arith, omega arith)
    (end_named (length s - 5) read
    (row_named GraphQuestion [] ◌∷◌ (read_node test rules (wide_at s 3)) (node_named test rules (wide_at s 3)) (wide_at s 3) (drop 5 s)))

-- A path is refused by 26 or 27, and so is the walk along it.
module _ (nodes : List (Node ℕ)) (piece : Terms) where
  path_named : (more n : ℕ) → Named PathQuestion (path_from nodes piece more n)
  path_named zero n = go (step_at piece (node_at nodes n))
    where
      go : (x : Step ℕ) → Named PathQuestion (last_step n x)
      go (stop l) = tt
      go (go_to m) = (omega arith, omega arith)
      go no_way = (omega arith, omega arith)
  path_named (suc more) n = go (path_named more) (step_at piece (node_at nodes n))
    where
      go
          : ((m : ℕ) → Named PathQuestion (path_from nodes piece more m)) → (x : Step ℕ)
          → Named PathQuestion (next_step (λ m. path_from nodes piece more m) n x)
      go later (stop l) = tt
      go later (go_to m) = map_named PathQuestion _ (path_from nodes piece more m) (later m)
      go later no_way = (omega arith, omega arith)

  pub walk_named : (rules : List Patterns) → Named PathQuestion (walk rules nodes piece)
  walk_named rules = map_named PathQuestion _ (path nodes piece) (path_named most_edges 0)
