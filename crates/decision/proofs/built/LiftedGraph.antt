-- "Graphs of older sheets gain a gauge of 0 in each number case" (document 02, request 7), byte by byte: the bytes of nodes whose
-- number cases are on gauge 0 are those from before there were gauges, with a gauge of 0 put into each number case.
use Prim.Native.Nat.{ℕ, zero, suc, ◌≤◌}
use mathlib.Core.Path.{◌≡◌, refl, ap, sym, ◌∙◌}
use mathlib.Core.List.{List, [], ◌∷◌, ◌++◌, append-nil, append_assoc}
use native.Mathlib.Omega.{arith}
use lib.ListN.{length, length-append}
use lib.Seq.{take_at, drop_at}
use Rattle.basics.specs.Lists.{All}
use Rattle.records.specs.Fields.{wide_then}
use Rattle.terms.specs.Term.{gauge_of, value_of}
use Rattle.decision.specs.Key.{fail_node, suspend_node, execute_node}
use Rattle.decision.specs.Cases.{Case, symbols_case, compound_case, numbers_case}
use Rattle.decision.specs.Node.{Node, CaseEdge, end, switch, pair_node}
use Rattle.decision.specs.GraphBytes.{case_bytes, cases_bytes, node_bytes, nodes_bytes, graph_bytes}
use Rattle.decision.specs.OlderGraph.{older_case_bytes, older_cases_bytes, older_node_bytes, older_nodes_bytes, older_graph_bytes}
use Rattle.decision.specs.OlderGraph.{older_body, with_gauge, lift_up_to, lifted, OlderCase, OlderNode}

-- A record of a graph of before: its kind byte and its body.
record OlderRecord : Type 0 where
  byte : ℕ
  body : List ℕ
  whole : length body ≡ older_body byte

-- Records in a row, as they were and with gauges.
abbrev before : List OlderRecord → List ℕ
before [] = []
before (r ∷ rs) = r.byte ∷ (r.body ++ before rs)

abbrev after : List OlderRecord → List ℕ
after [] = []
after (r ∷ rs) = with_gauge r.byte r.body ++ after rs

-- Records are lifted one by one.
rows_lifted : (rs : List OlderRecord) (n : ℕ) → length (before rs) ≤ n → lift_up_to n (before rs) ≡ after rs
rows_lifted [] zero h = refl
rows_lifted [] (suc n) h = refl
rows_lifted (r ∷ rs) zero h = let never : ⊥ = omega arith in absurd never
rows_lifted (r ∷ rs) (suc n) h =
    let rest = before rs in
    (λ i.
    with_gauge r.byte (take_at r.body rest (older_body r.byte) r.whole i)
    ++ lift_up_to n (drop_at r.body rest (older_body r.byte) r.whole i))
    ∙ ap (λ (l : List ℕ). with_gauge r.byte r.body ++ l)
    (rows_lifted rs n (omega (arith, length-append r.body rest)))

-- Rows of records, one behind the other.
before_join : (rs qs : List OlderRecord) → before (rs ++ qs) ≡ before rs ++ before qs
before_join [] qs = refl
before_join (r ∷ rs) qs =
    ap (λ (l : List ℕ). r.byte ∷ (r.body ++ l)) (before_join rs qs)
    ∙ ap (λ (l : List ℕ). r.byte ∷ l) (sym (append_assoc r.body (before rs) (before qs)))

after_join : (rs qs : List OlderRecord) → after (rs ++ qs) ≡ after rs ++ after qs
after_join [] qs = refl
after_join (r ∷ rs) qs =
    ap (λ (l : List ℕ). with_gauge r.byte r.body ++ l) (after_join rs qs)
    ∙ sym (append_assoc (with_gauge r.byte r.body) (after rs) (after qs))

-- Bytes as they were and as they are, by records.
record Lifts (older new : List ℕ) : Type 0 where
  rows : List OlderRecord
  were : before rows ≡ older
  are : after rows ≡ new

none : Lifts [] []
none = record { rows = []; were = refl; are = refl }

one : (b : ℕ) (body : List ℕ) → length body ≡ older_body b → Lifts (b ∷ body) (with_gauge b body)
one b body e = record {
  rows = record { byte = b; body = body; whole = e } ∷ [];
  were = ap (λ (l : List ℕ). b ∷ l) (append-nil body);
  are = append-nil (with_gauge b body);
}

joined : {o n p m : List ℕ} → Lifts o n → Lifts p m → Lifts (o ++ p) (n ++ m)
joined a b = record {
  rows = a.rows ++ b.rows;
  were = before_join a.rows b.rows ∙ (λ i. a.were i ++ b.were i);
  are = after_join a.rows b.rows ∙ (λ i. a.are i ++ b.are i);
}

-- A case, all cases of a switch,
case_lifts : (c : Case) (n : ℕ) → OlderCase c → Lifts (older_case_bytes c n) (case_bytes c n)
case_lifts (symbols_case l h) n on = one 0x44 (wide_then l (wide_then h (wide_then n []))) refl
case_lifts (compound_case a k) n on = one 0x45 (wide_then a (k ∷ wide_then n [])) refl
case_lifts (numbers_case l h) n on =
    let gauge : 0 ≡ gauge_of l = omega (arith, on.0) in
    let low : l ≡ value_of l = omega (arith, on.0) in
    let high : h ≡ value_of h = omega (arith, on.1) in
    let as-was = one 0x46 (wide_then l (wide_then h (wide_then n []))) refl in
    record {
      rows = as-was.rows;
      were = as-was.were;
      are = as-was.are ∙ (λ i. 0x46 ∷ gauge i ∷ wide_then (low i) (wide_then (high i) (wide_then n [])));
    }

cases_lift : (cs : List (CaseEdge ℕ)) → All (λ (c : CaseEdge ℕ). OlderCase c.case) cs → Lifts (older_cases_bytes cs) (cases_bytes cs)
cases_lift [] on = none
cases_lift (c ∷ cs) on = joined (case_lifts c.case c.target on.0) (cases_lift cs on.1)

-- a node, all nodes
node_lifts : (n : Node ℕ) → OlderNode n → Lifts (older_node_bytes n) (node_bytes n)
node_lifts (end fail_node) on = one 0x40 [] refl
node_lifts (end suspend_node) on = one 0x41 [] refl
node_lifts (end (execute_node i)) on = one 0x42 (i ∷ []) refl
node_lifts (switch n cs x y) on =
    joined (one 0x43 (wide_then n (wide_then (length cs) (wide_then x (wide_then y [])))) refl) (cases_lift cs on)
node_lifts (pair_node p q x y) on = one 0x47 (wide_then p (wide_then q (wide_then x (wide_then y [])))) refl

nodes_lift : (ns : List (Node ℕ)) → All OlderNode ns → Lifts (older_nodes_bytes ns) (nodes_bytes ns)
nodes_lift [] on = none
nodes_lift (n ∷ ns) on = joined (node_lifts n on.0) (nodes_lift ns on.1)

-- and the whole graph.
pub graph_lifted
    : (arity rules : ℕ) (nodes : List (Node ℕ)) → All OlderNode nodes
    → lifted (older_graph_bytes arity rules nodes) ≡ graph_bytes arity rules nodes
graph_lifted arity rules nodes on =
    let whole = joined (one 0x12 (arity ∷ rules ∷ wide_then (length nodes) []) refl) (nodes_lift nodes on) in
    ap lifted (sym whole.were) ∙ rows_lifted whole.rows (length (before whole.rows)) (omega arith) ∙ whole.are
