-- The loop that meets all keys: the first k of the keys met have their edges met, and the records of their nodes are measured.
use Prim.Native.Nat.{ℕ, ◌+◌, ◌≤◌, ◌<◌}
use mathlib.Core.Path.{◌≡◌, refl, sym, ap, subst, ◌∙◌}
use mathlib.Core.List.{List, [], ◌∷◌, ◌++◌, map}
use native.Mathlib.Numerals.{add-one}
use native.Mathlib.Omega.{arith}
use lib.Dec.{T}
use lib.ListN.{length, get_or, take, length-append}
use lib.Seq.{take_all, take-suc, take-append-le}
use Rattle.basics.specs.Lists.{count_from}
use Rattle.decision.specs.Key.{Key, asking, same_key}
use Rattle.decision.specs.Node.{edges, map_node}
use Rattle.decision.specs.Graph.{new_ones, most_nodes}
use Rattle.decision.specs.GraphBytes.{node_bytes, nodes_bytes}
use Rattle.decision.proofs.keys.SameVertex.{vertex_same, same_key_lem}
use Rattle.edges.specs.views.KeysBehind.{root_in}
use Rattle.edges.specs.views.NodeIn.{node_in}
use Rattle.met.specs.views.KeysMet.{key_number, meet_all, key_at, count_in, keys_in}
use Rattle.met.proofs.Meeting.{keys_length, key_at_lem, meet_all_lem, meet_longer}
use Rattle.std.specs.Prelude.{Option, Some, None}
use Rattle.keys.specs.views.Expanded.{node_length, EdgesMet}
use Rattle.keys.specs.views.Grown.{keys_from, Grown}
use Rattle.keys.proofs.Targets.{length_anywhere}
use Rattle.keys.proofs.Growing.{left_from, left_turn, left_done, left_many}

key_same : (x : Key) → T (same_key x x)
key_same x = vertex_same (asking x)

module _ (s c : List ℕ) where
  abbrev next_in : Key → List Key
  next_in key = edges (node_in s c key)

  -- How long the records of the nodes of keys are.
  abbrev records_length : List Key → ℕ
  records_length [] = 0
  records_length (k ∷ ks) = node_length (node_in s c k) + records_length ks

  records_join : (ks ls : List Key) → records_length (ks ++ ls) ≡ records_length ks + records_length ls
  records_join [] ls = omega arith
  records_join (k ∷ ks) ls = omega (arith, records_join ks ls)

  -- They are the nodes' bytes, wherever the edges lead.
  records_bytes
      : (number : Key → ℕ) (ks : List Key)
      → records_length ks ≡ length (nodes_bytes (map (λ (key : Key). map_node number (node_in s c key)) ks))
  records_bytes number [] = refl
  records_bytes number (k ∷ ks) =
      omega (
        arith,
        length_anywhere number (node_in s c k),
        length-append (node_bytes (map_node number (node_in s c k)))
            (nodes_bytes (map (λ (key : Key). map_node number (node_in s c key)) ks)),
        records_bytes number ks,
      )

  -- Keys are met, the first k of them have their edges met, and so many bytes are their records.
  pub record Growing (keys : List Key) (k bytes : ℕ) : Type 0 where
    pub left : left_from same_key next_in most_nodes k keys ≡ keys_from s c
    pub size : bytes ≡ records_length (take k keys)

  -- At first the root's key is met.
  pub root_added
      : (t u : List ℕ) {key : Key} → count_in t ≡ 0 → key ≡ root_in s → keys_in u ≡ keys_in t ++ key ∷ []
      → keys_in u ≡ root_in s ∷ []
  root_added t u none e added = added ∙ (λ i. map (key_at t) (count_from 0 (none i)) ++ e i ∷ [])

  pub growing_start : {keys : List Key} → keys ≡ root_in s ∷ [] → Growing keys 0 0
  growing_start {keys} e = subst (λ (l : List Key). Growing l 0 0) (sym e) (record { left = refl; size = refl })

  -- Then the edges of the next key are met.
  growing_turn
      : (d : Key) (keys : List Key) (k bytes : ℕ) → Growing keys k bytes → k < length keys → k < most_nodes
      → Growing (meet_all keys (next_in (get_or keys k d))) (k + 1) (bytes + node_length (node_in s c (get_or keys k d)))
  growing_turn d keys k bytes state h room =
      let key : Key = get_or keys k d in
      let new : List Key = new_ones same_key keys (next_in key) in
      let met : meet_all keys (next_in key) ≡ keys ++ new = meet_all_lem next_in keys (next_in key) in
      let first : take (k + 1) (meet_all keys (next_in key)) ≡ take k keys ++ key ∷ [] =
      ap (take (k + 1)) met ∙ take-append-le (k + 1) keys new (omega arith) ∙ ap (λ (n : ℕ). take n keys) (add-one k)
      ∙ take-suc keys k d h in
      record {
        left = ap (left_from same_key next_in most_nodes (k + 1)) met
            ∙ sym (left_turn same_key next_in most_nodes d k keys h room) ∙ state.left;
        size = omega (arith, state.size, ap records_length first, records_join (take k keys) (key ∷ []));
      }

  module _ (t : List ℕ) {k bytes : ℕ} (state : Growing (keys_in t) k bytes) where
    -- Where all keys have their edges met, those are all,
    pub grown_all : count_in t ≤ k → Grown s c (Some bytes) t
    grown_all h =
        let end : length (keys_in t) ≤ k = omega (arith, keys_length t) in (
          sym state.left ∙ left_done same_key next_in most_nodes k (keys_in t) end,
          state.size ∙ ap records_length (take_all k (keys_in t) end) ∙ records_bytes (key_number (keys_in t)) (keys_in t),
        )

    module _ (h : k < count_in t) (small : count_in t ≤ 1024) (r : Option ℕ) (u : List ℕ)
        (met : EdgesMet (node_in s c (key_at t k)) (keys_in t) r u) where
      turned : Growing (meet_all (keys_in t) (next_in (key_at t k))) (k + 1) (bytes + node_length (node_in s c (key_at t k)))
      turned =
          subst (λ (key : Key). Growing (meet_all (keys_in t) (next_in key)) (k + 1) (bytes + node_length (node_in s c key)))
          (key_at_lem t k h)
          (growing_turn (key_at t 0) (keys_in t) k bytes state (omega (arith, keys_length t)) (omega arith))

      -- where the edges of one more are met one is left less to look at,
      pub grown_turn : {more : ℕ} → r ≡ Some more → Growing (keys_in u) (k + 1) (bytes + more) × (count_in t ≤ count_in u)
      grown_turn {more} e =
          let m : EdgesMet (node_in s c (key_at t k)) (keys_in t) (Some more) u =
          subst (λ (x : Option ℕ). EdgesMet (node_in s c (key_at t k)) (keys_in t) x u) e met in
          let size : bytes + node_length (node_in s c (key_at t k)) ≡ bytes + more = omega (arith, m.1) in (
            subst (λ (n : ℕ). Growing (keys_in u) (k + 1) n) size
                (subst (λ (l : List Key). Growing l (k + 1) (bytes + node_length (node_in s c (key_at t k)))) (sym m.0) turned),
            omega (arith, meet_longer (keys_in t) (next_in (key_at t k)), ap length m.0, keys_length t, keys_length u),
          )

      -- and where too many are, there is no graph.
      pub grown_many : r ≡ None → Grown s c None u
      grown_many e =
          let m : EdgesMet (node_in s c (key_at t k)) (keys_in t) None u =
          subst (λ (x : Option ℕ). EdgesMet (node_in s c (key_at t k)) (keys_in t) x u) e met in
          let none_left =
          left_many same_key next_in most_nodes same_key_lem key_same (k + 1) (meet_all (keys_in t) (next_in (key_at t k))) (omega arith) m in
          sym turned.left ∙ none_left
