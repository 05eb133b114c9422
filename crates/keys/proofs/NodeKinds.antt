-- What the node of a key is, by its numbers of live rules and pending tests.
use Prim.Native.Nat.{ℕ, suc, ◌+◌, ◌^◌, ◌<◌}
use mathlib.Core.Path.{◌≡◌, refl, sym, ap, subst, ◌∙◌}
use mathlib.Core.Bool.{Bool, cond}
use mathlib.Core.List.{List}
use native.Mathlib.Omega.{arith}
use lib.Count.{ones, count_trailing_zeros}
use lib.ListN.{length}
use borrow.Author.Tests.{eq-eqb, ne_eqb}
use Rattle.masks.proofs.Members.{members_none, members_one, members_two}
use Rattle.decision.specs.Key.{Key, fail_node, suspend_node, execute_node}
use Rattle.decision.specs.Node.{Node, end}
use Rattle.decision.specs.GraphBytes.{leaf_bytes}
use Rattle.tables.specs.views.Planes.{first_asked_in}
use Rattle.graph.specs.declared.Leaf.{Leaf}
use Rattle.graph.specs.views.NodeRecord.{leaf_of}
use Rattle.edges.specs.declared.Asked.{Asked}
use Rattle.edges.specs.views.KeysBehind.{asked_in}
use Rattle.edges.specs.views.NodeIn.{ask_in, node_with, node_in}
use Rattle.keys.specs.declared.Kind.{Kind}
use Rattle.keys.specs.declared.Kind.TheVariants.{End, Ask}
use Rattle.met.specs.views.KeysMet.{keys_in}
use Rattle.std.specs.Prelude.{Some}
use Rattle.keys.specs.views.Expanded.{kind_node, Below, EdgesMet}

module _ (s c : List ℕ) (key : Key) where
  abbrev node_by : List ℕ → Node Key
  node_by l = node_with s c l key

  abbrev asks : Node Key
  asks = ask_in s c (asked_in s key (first_asked_in s key.pending))

  -- A key without live rules is fail where no test is pending,
  pub kind_fail : key.live ≡ 0 → key.pending ≡ 0 → node_in s c key ≡ end fail_node
  kind_fail e d =
      ap node_by (members_none 64 key.live e)
      ∙ ap (λ (b : Bool). end (cond b fail_node suspend_node)) (eq-eqb key.pending 0 d)

  -- and else suspend.
  pub kind_suspend : key.live ≡ 0 → (key.pending ≡ 0 → ⊥) → node_in s c key ≡ end suspend_node
  kind_suspend e d =
      ap node_by (members_none 64 key.live e)
      ∙ ap (λ (b : Bool). end (cond b fail_node suspend_node)) (ne_eqb key.pending 0 d)

  -- A key with one live rule is execute.
  pub kind_execute
      : key.live < 2 ^ 64 → ones key.live ≡ 1 → node_in s c key ≡ end (execute_node (count_trailing_zeros 64 key.live + 1))
  kind_execute h e =
      let next : suc (count_trailing_zeros 64 key.live) ≡ count_trailing_zeros 64 key.live + 1 = omega arith in
      ap node_by (members_one 64 key.live h e) ∙ ap (λ (i : ℕ). end (execute_node i)) next

  module _ (fits : key.live < 2 ^ 64) (some-live : key.live ≡ 0 → ⊥) (not-one : ones key.live ≡ 1 → ⊥) where
    -- A key with more that has no pending test is suspend,
    pub kind_settled : key.pending ≡ 0 → node_in s c key ≡ end suspend_node
    kind_settled e =
        ap node_by (members_two 64 key.live fits some-live not-one).3
        ∙ ap (λ (b : Bool). cond b (end suspend_node) asks) (eq-eqb key.pending 0 e)

    -- and else asks the first of them.
    pub kind_asks
        : (key.pending ≡ 0 → ⊥) → {t : ℕ} → first_asked_in s key.pending ≡ t → node_in s c key ≡ ask_in s c (asked_in s key t)
    kind_asks e first =
        ap node_by (members_two 64 key.live fits some-live not-one).3
        ∙ ap (λ (b : Bool). cond b (end suspend_node) asks) (ne_eqb key.pending 0 e)
        ∙ ap (λ (u : ℕ). ask_in s c (asked_in s key u)) first

-- The test that is asked is below what all are.
pub asked_below : {most t : ℕ} {kind : Kind} → kind ≡ Ask t → Below most kind → t < most
asked_below {most} e below = subst (Below most) e below

module _ (s c : List ℕ) {key at : Key} (kind : Kind) (same : key ≡ at)
    (known : node_in s c key ≡ kind_node s c key kind) where
  is_kind : node_in s c at ≡ kind_node s c key kind
  is_kind = ap (node_in s c) (sym same) ∙ known

  -- The node of a key that is a leaf,
  pub node_leaf : {l : Leaf} → kind ≡ End l → node_in s c at ≡ end (leaf_of l)
  node_leaf e = is_kind ∙ ap (kind_node s c key) e

  -- which has no edges,
  pub leaf_met
      : {l : Leaf} (t : List ℕ) {n : ℕ} → kind ≡ End l → n ≡ length (leaf_bytes (leaf_of l))
      → EdgesMet (node_in s c at) (keys_in t) (Some n) t
  leaf_met t {n} e size = subst (λ (node : Node Key). EdgesMet node (keys_in t) (Some n) t) (sym (node_leaf e)) (refl, size)

  -- and of one that asks.
  pub node_asks : {t : ℕ} {asked : Asked} → kind ≡ Ask t → asked ≡ asked_in s key t → node_in s c at ≡ ask_in s c asked
  node_asks e is = is_kind ∙ ap (kind_node s c key) e ∙ ap (ask_in s c) (sym is)
