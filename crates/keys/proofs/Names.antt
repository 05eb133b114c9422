-- Vertices and their keys: a vertex that occurs is read off its key, so keys tell vertices apart.
use Prim.Native.Nat.{ℕ, zero, suc, ◌≤◌}
use mathlib.Core.Path.{◌≡◌, refl, sym, ap, subst, ◌∙◌}
use mathlib.Core.Bool.{Bool, true, false}
use mathlib.Core.List.{List, [], ◌∷◌}
use native.Mathlib.Omega.{arith}
use lib.Dec.{T}
use lib.ListN.{length}
use Rattle.masks.specs.Mask.{has, members}
use Rattle.masks.proofs.Members.{members_none}
use Rattle.masks.proofs.OneMember.{members_singleton}
use Rattle.terms.specs.Pattern.{Patterns}
use Rattle.decision.specs.Key.{Key, Vertex, leaf, asking, fail_node, suspend_node, execute_node, two_or_more, same_key, same_vertex}
use Rattle.decision.proofs.keys.Sets.{Two, members_two}
use Rattle.decision.proofs.keys.Vertices.{Live}
use Rattle.decision.proofs.keys.SameVertex.{same_vertex_lem, vertex_same}
use Rattle.decision.proofs.keys.EdgeKeys.{LedTo, led_key, led_means}
use Rattle.edges.specs.views.VertexKey.{vertex_key, vertex_by, vertex_in}
use Rattle.basics.proofs.Booleans.{true_is}

-- A key with two live rules or more asks.
asks_by : (l : List ℕ) (key : Key) → T (two_or_more l) → vertex_by l key ≡ asking key
asks_by [] key h = absurd h
asks_by (i ∷ []) key h = absurd h
asks_by (i ∷ (j ∷ l)) key h = refl

module _ (rules : List Patterns) (few : length rules ≤ 64) where
  -- A vertex that an edge leads to is the vertex that has its key.
  pub named_vertex : (v : Vertex) → LedTo rules v → vertex_in (vertex_key v) ≡ v
  named_vertex (leaf fail_node) led = ap (λ (l : List ℕ). vertex_by l (vertex_key (leaf fail_node))) (members_none 64 0 refl)
  named_vertex (leaf suspend_node) led = ap (λ (l : List ℕ). vertex_by l (vertex_key (leaf suspend_node))) (members_none 64 0 refl)
  named_vertex (leaf (execute_node zero)) led = absurd (led_means rules led)
  named_vertex (leaf (execute_node (suc i))) led =
      let means = led_means rules led in
      ap (λ (l : List ℕ). vertex_by l (vertex_key (leaf (execute_node (suc i))))) (members_singleton 64 i (omega (arith, means.0)))
  named_vertex (asking key) led =
      let means = led_means rules led in
      let two : Two (length rules) (Live (led_key rules led)) = means.1 in
      let live : (i : ℕ) → T (has (led_key rules led).live i) → T (has key.live i) =
      λ i h. subst (λ (k : Key). T (has k.live i)) (sym means.0) h in
      asks_by (members 64 key.live) key
      (members_two 64 key.live (record {
        lower = two.lower;
        higher = two.higher;
        apart = two.apart;
        below = omega (arith, two.below);
        at_lower = live two.lower two.at_lower;
        at_higher = live two.higher two.at_higher;
      }))

  -- Keys tell vertices apart.
  pub told_apart
      : (v w : Vertex) → LedTo rules v → LedTo rules w → same_key (vertex_key v) (vertex_key w) ≡ same_vertex v w
  told_apart v w p q = go (same_vertex v w) (same_key (vertex_key v) (vertex_key w)) (same_vertex_lem v w) same key_same
    where
      same : T (same_key (vertex_key v) (vertex_key w)) → T (same_vertex v w)
      same h =
          let e : asking (vertex_key v) ≡ asking (vertex_key w) = same_vertex_lem (asking (vertex_key v)) (asking (vertex_key w)) h in
          let d : vertex_key v ≡ vertex_key w = cc in
          let k : v ≡ w = sym (named_vertex v p) ∙ ap vertex_in d ∙ named_vertex w q in
          subst (λ (u : Vertex). T (same_vertex v u)) k (vertex_same v)

      key_same : v ≡ w → T (same_key (vertex_key v) (vertex_key w))
      key_same e = subst (λ (u : Vertex). T (same_key (vertex_key v) (vertex_key u))) e (vertex_same (asking (vertex_key v)))

      go : (a b : Bool) → (T a → v ≡ w) → (T b → T a) → (v ≡ w → T b) → b ≡ a
      go true b f g h = true_is b (h (f tt))
      go false true f g h = absurd (g tt)
      go false false f g h = refl
