-- Vertices that sameVertex takes for the same are equal, and each is the same as itself.
use mathlib.Core.Path.{◌≡◌, refl, ap}
use lib.Dec.{eqb, T, eqb→eq, eqb_refl}
use Rattle.basics.proofs.Booleans.{both_true, true_both}
use Rattle.decision.specs.Key.{Key, Leaf, fail_node, suspend_node, execute_node, Vertex, leaf, asking}
use Rattle.decision.specs.Key.{same_key, same_leaf, same_vertex}

-- The same leaves are equal,
same_leaf_lem : (l m : Leaf) → T (same_leaf l m) → l ≡ m
same_leaf_lem fail_node fail_node h = refl
same_leaf_lem fail_node suspend_node h = absurd h
same_leaf_lem fail_node (execute_node j) h = absurd h
same_leaf_lem suspend_node fail_node h = absurd h
same_leaf_lem suspend_node suspend_node h = refl
same_leaf_lem suspend_node (execute_node j) h = absurd h
same_leaf_lem (execute_node i) fail_node h = absurd h
same_leaf_lem (execute_node i) suspend_node h = absurd h
same_leaf_lem (execute_node i) (execute_node j) h = ap execute_node (eqb→eq i j h)

-- the same keys are,
pub same_key_lem : (k l : Key) → T (same_key k l) → k ≡ l
same_key_lem k l h =
    let s = both_true (eqb k.live l.live) (eqb k.pending l.pending) h in
    let live = eqb→eq k.live l.live s.0 in
    let pending = eqb→eq k.pending l.pending s.1 in
    λ i. record { live = live i; pending = pending i }

-- and so the same vertices are.
pub same_vertex_lem : (v w : Vertex) → T (same_vertex v w) → v ≡ w
same_vertex_lem (leaf l) (leaf m) h = ap leaf (same_leaf_lem l m h)
same_vertex_lem (leaf l) (asking k) h = absurd h
same_vertex_lem (asking k) (leaf m) h = absurd h
same_vertex_lem (asking k) (asking l) h = ap asking (same_key_lem k l h)

-- Each vertex is the same as itself.
pub vertex_same : (v : Vertex) → T (same_vertex v v)
vertex_same (leaf fail_node) = tt
vertex_same (leaf suspend_node) = tt
vertex_same (leaf (execute_node i)) = eqb_refl i
vertex_same (asking k) =
    true_both (eqb k.live k.live) (eqb k.pending k.pending) (eqb_refl k.live) (eqb_refl k.pending)
