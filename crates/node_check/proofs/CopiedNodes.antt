-- A node that is read and written again: its record, and behind it a switch's cases.
use Prim.Native.Nat.{ℕ, ◌+◌, ◌≤◌}
use mathlib.Core.Path.{◌≡◌, refl, sym, ap, subst, ◌∙◌}
use mathlib.Core.Bool.{Bool, true, false}
use mathlib.Core.List.{List, [], ◌++◌}
use native.Mathlib.Omega.{arith}
use lib.Dec.{leb}
use lib.ListN.{length, drop, length-append}
use Rattle.std.specs.Prelude.{Ok, Err}
use Rattle.records.specs.declared.refusal.Refusal.{Refusal}
use Rattle.records.specs.Fields.{IsByte}
use Rattle.records.specs.Reading.{Reading, took, refused, ask, after}
use Rattle.records.specs.Writing.{splice}
use Rattle.records.proofs.Writing.{splice_more}
use Rattle.basics.specs.Lists.{All}
use Rattle.decision.specs.Key.{fail_node}
use Rattle.decision.specs.Node.{Node, CaseEdge, end, switch}
use Rattle.decision.specs.GraphBytes.{cases_bytes, node_bytes}
use Rattle.graph.specs.declared.Leaf.{Leaf}
use Rattle.graph.specs.declared.Leaf.TheVariants.{Fail, Suspend, Execute}
use Rattle.graph.specs.declared.NodeRecord.TheVariants.{End, Switch, Pair}
use Rattle.graph.specs.views.NodeRecord.{switch_length, node_head}
use Rattle.graph.specs.ReadGraph.{read_cases, read_record}
use Rattle.graph.specs.views.WriteNode.{node_record_bytes}
use Rattle.graph.specs.views.Rewriting.{IsTook, read_or}
use Rattle.records.proofs.ByteLists.{bytes_drop}
use Rattle.graph.proofs.Spelling.{GoodRow, begins_read}
use Rattle.graph.proofs.SpelledCases.{EdgeFields, cases_spelled}
use Rattle.node_check.proofs.NodeHeads.{node_refused}
use Rattle.graph.proofs.ByKinds.{node_read_by}

-- Two records one behind the other are one record of the bytes of both.
pub both_written
    : (before : List ℕ) (start : ℕ) (first second : List ℕ) {buf buf' whole : List ℕ} {at at' : ℕ}
    → start + length first ≤ length before
    → at ≡ start + length first → buf ≡ splice before start first → at' ≡ at + length second → buf' ≡ splice buf at second
    → first ++ second ≡ whole → (at' ≡ start + length whole) × (buf' ≡ splice before start whole)
both_written before start first second fits e f g k joined = (
  omega (arith, length-append first second, ap length joined),
  k
      ∙ (λ i. splice (f i) (e i) second)
      ∙ splice_more before start first second fits
      ∙ ap (splice before start) joined,
)

-- The bytes of the node that s begins with.
abbrev pub written_node : List ℕ → List ℕ
written_node s = node_bytes (read_or (end fail_node) (read_record s))

module _ (s : List ℕ) where
  -- A node that is there to be read is not refused.
  pub node_there : IsTook (read_record s) → {r : Refusal} → node_head s ≡ Err r → ⊥
  node_there there e = subst IsTook (node_refused s e) there

  -- A leaf and a pair are their records.
  pub leaf_bytes_lem : (l : Leaf) → node_head s ≡ Ok (End l) → node_record_bytes (End l) ≡ written_node s
  leaf_bytes_lem Fail e = sym (ap (λ r. node_bytes (read_or (end fail_node) r)) (node_read_by s e))
  leaf_bytes_lem Suspend e = sym (ap (λ r. node_bytes (read_or (end fail_node) r)) (node_read_by s e))
  leaf_bytes_lem (Execute i) e = sym (ap (λ r. node_bytes (read_or (end fail_node) r)) (node_read_by s e))

  pub pair_bytes : {p q x y : ℕ} → node_head s ≡ Ok (Pair p q x y) → node_record_bytes (Pair p q x y) ≡ written_node s
  pair_bytes e = sym (ap (λ r. node_bytes (read_or (end fail_node) r)) (node_read_by s e))

  -- A switch is its record and its cases, which are there to be read.
  module _ {n count x y : ℕ} (e : node_head s ≡ Ok (Switch n count x y)) (there : IsTook (read_record s)) where
    abbrev Cases : Reading (List (CaseEdge ℕ)) → Reading (Node ℕ)
    Cases r = after switch_length (λ cs. switch n cs x y) r

    asked : (b : Bool) (r : Reading (List (CaseEdge ℕ))) → IsTook (ask 22 b (Cases r)) → IsTook r
    asked true (took a cs) h = tt
    asked true (refused q) h = h
    asked false r h = absurd h

    pub cases_there : IsTook (read_cases count (drop switch_length s))
    cases_there = asked (leb 1 count) (read_cases count (drop switch_length s)) (subst IsTook (node_read_by s e) there)

    pub switch_bytes
        : All IsByte s → node_record_bytes (Switch n count x y) ++ cases_bytes (read_or [] (read_cases count (drop switch_length s))) ≡ written_node s
    switch_bytes h =
        sym
        (ap (λ r. node_bytes (read_or (end fail_node) r)) (node_read_by s e)
        ∙ go (leb 1 count) (read_cases count (drop switch_length s)) refl (subst IsTook (node_read_by s e) there))
      where
        go
            : (b : Bool) (r : Reading (List (CaseEdge ℕ))) → read_cases count (drop switch_length s) ≡ r → IsTook (ask 22 b (Cases r))
            → node_bytes (read_or (end fail_node) (ask 22 b (Cases r))) ≡ node_record_bytes (Switch n count x y) ++ cases_bytes (read_or [] r)
        go true (took a cs) f t =
            let row = begins_read cases_bytes (GoodRow EdgeFields count) (cases_spelled count) (drop switch_length s) (bytes_drop switch_length s h) f in
            ap (λ (k : ℕ). node_record_bytes (Switch n k x y) ++ cases_bytes cs) row.good.0
        go true (refused q) f t = absurd t
        go false r f t = absurd t
