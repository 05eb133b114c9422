-- What the head of a node says of its bytes, and of the node that is read from it.
use Prim.Native.Nat.{ℕ, ◌≤◌}
use mathlib.Core.Path.{◌≡◌, refl, sym, ap, subst, ◌∙◌}
use mathlib.Core.Bool.{Bool, true, false, ◌&&◌}
use mathlib.Core.List.{List}
use native.Mathlib.Omega.{arith}
use lib.Dec.{T, leb, ltb, eqb, eqb→eq, leb→le}
use lib.ListN.{length, get_or}
use Rattle.std.specs.Prelude.{Result, Ok, Err}
use Rattle.records.specs.Fields.{wide_at}
use Rattle.records.specs.Refusals.{number}
use Rattle.records.specs.declared.refusal.Refusal.{Refusal}
use Rattle.records.specs.Reading.{Reading, took, refused, ask}
use Rattle.sheet_tests.specs.SheetTests.{Test, pair}
use Rattle.decision.specs.Node.{Node, pair_node}
use Rattle.graph.specs.declared.Leaf.{Leaf}
use Rattle.graph.specs.declared.Leaf.TheVariants.{Fail, Suspend, Execute}
use Rattle.graph.specs.declared.NodeRecord.{NodeRecord}
use Rattle.graph.specs.declared.NodeRecord.TheVariants.{End, Pair}
use Rattle.graph.specs.views.NodeRecord.{whole_node, switch_length, switch_record, node_head, on_node}
use Rattle.graph.specs.ReadGraph.{in_range, in_order, ask_range_and_order, read_node, read_record}
use Rattle.graph.specs.views.WriteNode.{node_record_bytes}
use Rattle.node_check.specs.views.CheckNode.{bytes_read, leaf_check}
use Rattle.graph.proofs.FieldBytes.{kind_there}
use Rattle.graph.proofs.SpelledCases.{kind_holds}
use Rattle.graph.proofs.ByKinds.{node_read_by}

-- Its bytes are there, or question 22 got a no.
abbrev NodeFits : List ℕ → Result NodeRecord Refusal → Type 0
NodeFits s (Ok r) = length (node_record_bytes r) ≤ length s
NodeFits s (Err r) = 22 ≡ number r

head_fits : (s : List ℕ) → NodeFits s (node_head s)
head_fits s =
    kind_holds (NodeFits s) (eqb (length s) 0) (λ e. refl)
    (kind_holds (NodeFits s) (eqb (get_or s 0 0) 0x40) (λ k. kind_there s (eqb→eq (get_or s 0 0) 0x40 k) (omega arith))
    (kind_holds (NodeFits s) (eqb (get_or s 0 0) 0x41) (λ k. kind_there s (eqb→eq (get_or s 0 0) 0x41 k) (omega arith))
    (kind_holds (NodeFits s) (eqb (get_or s 0 0) 0x42)
    (λ k. whole (leb 2 (length s)) (End (Execute (get_or s 1 0))) (leb→le 2 (length s)))
    (kind_holds (NodeFits s) (eqb (get_or s 0 0) 0x43)
    (λ k. whole (leb switch_length (length s)) (switch_record s) (leb→le switch_length (length s)))
    (kind_holds (NodeFits s) (eqb (get_or s 0 0) 0x47)
    (λ k. whole (leb 9 (length s)) (Pair (wide_at s 1) (wide_at s 3) (wide_at s 5) (wide_at s 7)) (leb→le 9 (length s))) refl)))))
  where
    whole : (b : Bool) (r : NodeRecord) → (T b → length (node_record_bytes r) ≤ length s) → NodeFits s (whole_node b r)
    whole true r f = f tt
    whole false r f = refl

-- The bytes of a whole record are there.
pub node_fits : (s : List ℕ) {r : NodeRecord} → node_head s ≡ Ok r → length (node_record_bytes r) ≤ length s
node_fits s e = subst (NodeFits s) e (head_fits s)

-- A record that is not whole is refused by question 22.
pub node_refused : (s : List ℕ) {r : Refusal} → node_head s ≡ Err r → read_record s ≡ refused 22
node_refused s e = node_read_by s e ∙ ap refused (sym (subst (NodeFits s) e (head_fits s)))

module _ (test : Test → Bool) (rules nodes : ℕ) (s : List ℕ) where
  -- A refused record is a refused node.
  pub refused_asked : {r : Refusal} → node_head s ≡ Err r → refused (number r) ≡ bytes_read (read_node test rules nodes s)
  refused_asked e = sym (ap (λ x. bytes_read (ask_range_and_order test rules nodes x)) (node_read_by s e))

  -- A leaf is checked without the tests.
  leaf_same : (l : Leaf) → leaf_check rules l ≡ bytes_read (ask_range_and_order test rules nodes (on_node s (Ok (End l))))
  leaf_same Fail = refl
  leaf_same Suspend = refl
  leaf_same (Execute i) = refl

  pub leaf_asked : {l : Leaf} → node_head s ≡ Ok (End l) → leaf_check rules l ≡ bytes_read (read_node test rules nodes s)
  leaf_asked {l} e = leaf_same l ∙ ap (λ r. bytes_read (ask_range_and_order test rules nodes r)) (sym (node_read_by s e))

  -- A pair is right where its test is one and its nodes are in range.
  pub pair_asked
      : {p q x y : ℕ} (b : Bool) → node_head s ≡ Ok (Pair p q x y) → b ≡ (test (pair p q) && ltb x nodes && ltb y nodes)
      → bytes_read {A = Unit} (ask 23 b (took 9 tt)) ≡ bytes_read (read_node test rules nodes s)
  pair_asked {p} {q} {x} {y} b e f =
      sym
      (ap (λ r. bytes_read (ask_range_and_order test rules nodes r)) (node_read_by s e)
      ∙ ap (λ (k : Bool). bytes_read (ask 23 k (took 9 (pair_node p q x y)))) (sym f) ∙ any b)
    where
      any : (k : Bool) → bytes_read (ask 23 k (took 9 (pair_node p q x y))) ≡ bytes_read {A = Unit} (ask 23 k (took 9 tt))
      any true = refl
      any false = refl

  -- What was accepted was read.
  asked_read : (r : Reading (Node ℕ)) {a : ℕ} {node : Node ℕ} → ask_range_and_order test rules nodes r ≡ took a node → r ≡ took a node
  asked_read (took b n) e = go (in_range test rules nodes n) (in_order n) e
    where
      go : {a : ℕ} {node : Node ℕ} (x y : Bool) → ask 23 x (ask 24 y (took b n)) ≡ took a node → took b n ≡ took a node
      go true true e = e
      go true false e = let z : ◌≡◌ {A = ℕ} 0 1 = cc in absurd (omega arith)
      go false y e = let z : ◌≡◌ {A = ℕ} 0 1 = cc in absurd (omega arith)
  asked_read (refused q) e = e

  pub node_read : {a : ℕ} {node : Node ℕ} → read_node test rules nodes s ≡ took a node → read_record s ≡ took a node
  node_read e = asked_read (read_record s) e
