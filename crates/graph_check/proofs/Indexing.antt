-- A graph's header, then its nodes, then its end: how the graph is read, from what the check of the nodes told.
use Prim.Native.Nat.{ℕ, suc, ◌+◌, ◌-◌, ◌≤◌}
use mathlib.Core.Path.{◌≡◌, refl, sym, ap, subst, ◌∙◌}
use mathlib.Core.Bool.{Bool, true, false, ◌&&◌}
use mathlib.Core.List.{List, [], ◌∷◌}
use native.Mathlib.Omega.{arith}
use borrow.Author.Tests.{le-leb, eq-eqb, ne_eqb}
use lib.Dec.{T, leb, eqb, leb→le}
use lib.ListN.{length, get_or, take, drop}
use lib.Seq.{length-take-le}
use Rattle.std.specs.Prelude.{Ok, Err}
use Rattle.records.specs.Fields.{wide_at}
use Rattle.records.specs.Refusals.{number, refusal_in}
use Rattle.records.specs.declared.refusal.Refusal.{Refusal}
use Rattle.records.specs.Reading.{Reading, took, refused, ask, after, map_reading}
use Rattle.records.proofs.Rows.{after_took}
use Rattle.basics.proofs.Booleans.{both_true}
use Rattle.sheet_tests.specs.SheetTests.{Test}
use Rattle.decision.specs.Node.{Node}
use Rattle.decision.specs.Graph.{most_nodes}
use Rattle.decision.specs.GraphBytes.{node_bytes}
use Rattle.graph.specs.ReadGraph.{read_nodes, end_graph, has_header, read_by}
use Rattle.node_check.specs.views.CheckNode.{starts_from}
use Rattle.graph_check.specs.views.GraphIndex.{count_if, GraphIndex, graph_index}
use Rattle.graph.proofs.ByKinds.{header_by_kind}

-- There are as many starts as nodes.
starts_count : (at : ℕ) (ns : List (Node ℕ)) → length (starts_from at ns) ≡ length ns
starts_count at [] = refl
starts_count at (n ∷ ns) = ap suc (starts_count (at + length (node_bytes n)) ns)

-- What the count of the nodes says of the header.
pub count_header : (b : Bool) (n : ℕ) {m : ℕ} → Ok m ≡ count_if b n → (b ≡ true) × (n ≡ m)
count_header true n e = (refl, (cc))
count_header false n e = absurd (cc)

pub count_refused : (b : Bool) (n : ℕ) {r : Refusal} → Err r ≡ count_if b n → (b ≡ false) × (number r ≡ 21)
count_refused true n e = absurd (cc)
count_refused false n e = (refl, ap refusal_in e)

-- A whole header, and 1 to 1,024 nodes.
pub header_known
    : (arity rules : ℕ) (g : List ℕ) → has_header arity rules g ≡ true
    → (5 ≤ length g) × (1 ≤ wide_at g 3) × (wide_at g 3 ≤ most_nodes)
header_known arity rules g e =
    let f1 = leb 5 (length g) in
    let f2 = eqb (get_or g 0 0) 0x12 in
    let f3 = eqb (get_or g 1 0) arity in
    let f4 = eqb (get_or g 2 0) rules in
    let f5 = leb 1 (wide_at g 3) in
    let f6 = leb (wide_at g 3) most_nodes in
    let (b5, t6) = both_true (f1 && f2 && f3 && f4 && f5) f6 (subst T (sym e ∙ header_by_kind arity rules g) tt) in
    let (b4, t5) = both_true (f1 && f2 && f3 && f4) f5 b5 in
    let (b3, t4) = both_true (f1 && f2 && f3) f4 b4 in
    let (b2, t3) = both_true (f1 && f2) f3 b3 in
    let (t1, t2) = both_true f1 f2 b2 in
    (leb→le 5 (length g) t1, leb→le 1 (wide_at g 3) t5, leb→le (wide_at g 3) most_nodes t6)

module _ (test : Test → Bool) (arity rules : ℕ) (g : List ℕ) where
  abbrev read : Reading GraphIndex
  read = map_reading graph_index (read_by test arity rules g)

  -- Where question 21 is answered so, and the header says so many nodes.
  abbrev read_if : Bool → ℕ → Reading GraphIndex
  read_if b nodes = map_reading graph_index (ask 21 b (end_graph (length g - 5) (read_nodes test rules nodes (drop 5 g))))

  -- Question 21 got a no.
  pub header_refused : has_header arity rules g ≡ false → refused 21 ≡ read
  unfolding read_by
  header_refused e = sym (ap (λ (b : Bool). read_if b (wide_at g 3)) e)

  module _ {nodes : ℕ} (header : has_header arity rules g ≡ true) (count : wide_at g 3 ≡ nodes) where
    abbrev body : Reading (List (Node ℕ))
    body = read_nodes test rules nodes (drop 5 g)

    behind : map_reading graph_index (end_graph (length g - 5) body) ≡ read
    unfolding read_by
    behind = sym (λ i. read_if (header i) (count i))

    -- A question at a node got a no.
    pub nodes_refused : {q : ℕ} → refused q ≡ after 5 (starts_from 5) body → refused q ≡ read
    nodes_refused {q} e = go body refl e
      where
        go : (r : Reading (List (Node ℕ))) → body ≡ r → refused q ≡ after 5 (starts_from 5) r → refused q ≡ read
        go (took a ns) d h = let z : ◌≡◌ {A = ℕ} 0 1 = cc in absurd (omega arith)
        go (refused p) d h =
            let same : q ≡ p = cc in
            ap refused same ∙ ap (λ r. map_reading graph_index (end_graph (length g - 5) r)) (sym d) ∙ behind

    module _ {end : ℕ} (starts : List ℕ) (e : took end (take nodes starts) ≡ after 5 (starts_from 5) body) where
      -- Question 25 got a no.
      pub bytes_left : (end ≡ length g → ⊥) → refused 25 ≡ read
      bytes_left h =
          let (a, ns, known, size, begin) = after_took 5 (starts_from 5) body (sym e) in
          let there = (header_known arity rules g header).0 in
          sym
          (ap (λ (b : Bool). map_reading graph_index (ask 25 b (took (5 + a) ns))) (ne_eqb a (length g - 5) (λ k. h (omega arith))))
          ∙ ap (λ r. map_reading graph_index (end_graph (length g - 5) r)) (sym known)
          ∙ behind

      -- None got a no.
      pub graph_indexed
          : end ≡ length g → nodes ≤ length starts → took (length g) (record { nodes = nodes; starts = take nodes starts }) ≡ read
      graph_indexed whole room =
          let (a, ns, known, size, begin) = after_took 5 (starts_from 5) body (sym e) in
          let many : nodes ≡ length ns = sym (length-take-le nodes starts room) ∙ ap length begin ∙ starts_count 5 ns in
          let all : length g ≡ 5 + a = sym whole ∙ size in
          (λ i. took (all i) (record { nodes = many i; starts = begin i }))
          ∙ sym (ap (λ (b : Bool). map_reading graph_index (ask 25 b (took (5 + a) ns))) (eq-eqb a (length g - 5) (omega arith)))
          ∙ ap (λ r. map_reading graph_index (end_graph (length g - 5) r)) (sym known)
          ∙ behind
