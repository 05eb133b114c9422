-- Which vertex a key is, in words: fail where no rule is live, execute where one is, suspend exactly where two or more
-- live rules have no pending test of their own, and else it asks.
use Prim.Native.Nat.{ℕ, zero, suc, ◌<◌}
use mathlib.Core.Path.{◌≡◌, refl, subst}
use mathlib.Core.Bool.{Bool, true, false, ◌&&◌, not, cond}
use mathlib.Core.Logic.{◌↔◌, inl, inr}
use mathlib.Core.List.{List, [], ◌∷◌}
use native.Mathlib.Omega.{arith}
use lib.Dec.{T, T_not, not_T}
use lib.ListN.{length}
use Rattle.masks.specs.Mask.{has, members}
use Rattle.basics.specs.Lists.{Mem, here, any_below}
use Rattle.terms.specs.Pattern.{Patterns}
use Rattle.basics.proofs.Booleans.{both_true, true_both}
use Rattle.basics.proofs.ListLaws.{mem_cases, mem_none}
use Rattle.sheet_tests.specs.SheetTests.{sheet_tests}
use Rattle.decision.specs.Rules.{has_test}
use Rattle.decision.specs.Key.{Key, fail_node, suspend_node, execute_node, Vertex, leaf, asking}
use Rattle.decision.specs.Key.{two_or_more, is_held, key_of, settled, vertex_with, vertex_of}
use Rattle.decision.proofs.keys.Sets.{in_where, where_in, in_any, any_in, in_members, members_in}
use Rattle.decision.proofs.keys.Sets.{Two, two_map, two_members, members_two}

-- Rule i of a key is live.
abbrev pub Live : Key → ℕ → Type 0
Live key i = T (has key.live i)

-- Test t of a key is pending.
abbrev pub Pending : Key → ℕ → Type 0
Pending key t = T (has key.pending t)

module _ (rules : List Patterns) where
  -- A test that is held is a test of some live rule,
  pub held_by
      : (live t : ℕ) → T (is_held rules live t)
      → (i : ℕ) × (i < length rules) × T (has live i) × T (has_test rules i t)
  held_by live t h =
      let r = any_in (length rules) (λ i. has live i && has_test rules i t) h in
      let s = both_true (has live r.0) (has_test rules r.0 t) r.2 in
      (r.0, r.1, s.0, s.1)

  -- and each test of a live rule is held.
  pub is_held_lem : (live t i : ℕ) → i < length rules → T (has live i) → T (has_test rules i t) → T (is_held rules live t)
  is_held_lem live t i l m h =
      in_any (length rules) i (λ j. has live j && has_test rules j t) l (true_both (has live i) (has_test rules i t) m h)

  -- The pending tests of a key are tests left that a live rule has,
  pub pending_in
      : (live : ℕ) (is_left : ℕ → Bool) (t : ℕ) → T (has (key_of rules live is_left).pending t)
      → (t < length (sheet_tests rules)) × T (is_left t) × T (is_held rules live t)
  pending_in live is_left t h =
      let r = where_in (length (sheet_tests rules)) (λ u. is_left u && is_held rules live u) t h in
      let s = both_true (is_left t) (is_held rules live t) r.1 in
      (r.0, s.0, s.1)

  -- and all of them.
  pub in_pending
      : (live : ℕ) (is_left : ℕ → Bool) (t : ℕ) → t < length (sheet_tests rules) → T (is_left t) → T (is_held rules live t)
      → T (has (key_of rules live is_left).pending t)
  in_pending live is_left t l h k =
      in_where (length (sheet_tests rules)) (λ u. is_left u && is_held rules live u) t l
      (true_both (is_left t) (is_held rules live t) h k)

  module _ (key : Key) where
    -- A live rule without a pending test of its own.
    abbrev pub Settled : ℕ → Type 0
    Settled i = Live key i × ((t : ℕ) → t < length (sheet_tests rules) → Pending key t → T (has_test rules i t) → ⊥)

    -- Test t is a pending one of rule i, and rule i has such a test.
    abbrev own_pending : ℕ → ℕ → Bool
    own_pending i t = has key.pending t && has_test rules i t

    abbrev has_pending : ℕ → Bool
    has_pending i = any_below (length (sheet_tests rules)) (own_pending i)

    -- The settled rules are live rules without a pending test of their own,
    pub settled_in_lem : (i : ℕ) → T (has (settled rules key) i) → Settled i
    settled_in_lem i h =
        let r = where_in (length rules) (λ j. has key.live j && not (has_pending j)) i h in
        let s = both_true (has key.live i) (not (has_pending i)) r.1 in
        (s.0, λ t l p k. T_not (has_pending i) s.1 (own t l p k))
      where
        own : (t : ℕ) → t < length (sheet_tests rules) → Pending key t → T (has_test rules i t) → T (has_pending i)
        own t l p k =
            in_any (length (sheet_tests rules)) t (own_pending i) l
            (true_both (has key.pending t) (has_test rules i t) p k)

    -- and all of them.
    pub in_settled : (i : ℕ) → i < length rules → Settled i → T (has (settled rules key) i)
    in_settled i l s =
        in_where (length rules) (λ j. has key.live j && not (has_pending j)) i l
        (true_both (has key.live i) (not (has_pending i)) s.0 (not_T (has_pending i) none))
      where
        none : T (has_pending i) → ⊥
        none h =
            let r = any_in (length (sheet_tests rules)) (own_pending i) h in
            let k = both_true (has key.pending r.0) (has_test rules i r.0) r.2 in
            s.1 r.0 r.1 k.0 k.1

    -- What it means of a key that it is this vertex.
    abbrev pub Means : Vertex → Type 0
    Means (leaf fail_node) = (i : ℕ) → i < length rules → Live key i → ⊥
    Means (leaf suspend_node) = Two (length rules) Settled
    Means (leaf (execute_node zero)) = ⊥
    Means (leaf (execute_node (suc i))) = (i < length rules) × Live key i × ((j : ℕ) → j < length rules → Live key j → j ≡ i)
    Means (asking k) = (k ≡ key) × Two (length rules) (Live key) × (Two (length rules) Settled → ⊥)

    -- The settled rules, ascending.
    abbrev settled_rules : List ℕ
    settled_rules = members (length rules) (settled rules key)

    -- Where two settled rules or more are listed, there are two,
    two_settled : T (two_or_more settled_rules) → Two (length rules) Settled
    two_settled h = two_map (λ i l s. settled_in_lem i s) (two_members (length rules) (settled rules key) h)

    -- and where there are two, two or more are listed.
    settled_two : Two (length rules) Settled → T (two_or_more settled_rules)
    settled_two r = members_two (length rules) (settled rules key) (two_map (λ i l s. in_settled i l s) r)

    -- What the vertex of a key means is so.
    pub vertex_means : Means (vertex_of rules key)
    vertex_means =
        go (members (length rules) key.live) (in_members (length rules) key.live)
        (members_in (length rules) key.live) (two_members (length rules) key.live)
      where
        asks
            : (b : Bool) → (T b → Two (length rules) Settled) → (Two (length rules) Settled → T b)
            → Two (length rules) (Live key)
            → Means (cond b (leaf suspend_node) (asking key))
        asks true f g two = f tt
        asks false f g two = (refl, two, g)

        go
            : (xs : List ℕ) → ((i : ℕ) → i < length rules → Live key i → Mem i xs)
            → ((i : ℕ) → Mem i xs → (i < length rules) × Live key i)
            → (T (two_or_more xs) → Two (length rules) (Live key))
            → Means (vertex_with rules xs key)
        go [] listed found two = λ i l m. mem_none (listed i l m)
        go (i ∷ []) listed found two =
            let r = found i here in
            (r.0, r.1, λ j l m. elim (mem_cases (listed j l m)) [ inl e ↦ e | inr k ↦ absurd (mem_none k) ])
        go (i ∷ (j ∷ l)) listed found two = asks (two_or_more settled_rules) two_settled settled_two (two tt)

    -- Where two rules are settled, a vertex that means what is so of the key is suspend.
    two_suspend : (v : Vertex) → Means v → Two (length rules) Settled → v ≡ leaf suspend_node
    two_suspend (leaf fail_node) means r = absurd (means r.higher r.below r.at_higher.0)
    two_suspend (leaf suspend_node) means r = refl
    two_suspend (leaf (execute_node zero)) means r = absurd means
    two_suspend (leaf (execute_node (suc i))) means r =
        let first = means.2 r.lower (omega arith) r.at_lower.0 in
        let second = means.2 r.higher r.below r.at_higher.0 in
        absurd (let z : ⊥ = omega arith in z)
    two_suspend (asking k) means r = absurd (means.2 r)

    -- "If two or more live rules have no pending test, it is suspend": so it is, and only then.
    pub suspend_exactly : (vertex_of rules key ≡ leaf suspend_node) ↔ Two (length rules) Settled
    suspend_exactly = (λ e. subst Means e vertex_means, two_suspend (vertex_of rules key) vertex_means)

    -- A key that asks has a pending test: else its live rules, two or more, would be settled.
    pub asking_pending : {k : Key} → Means (asking k) → (t : ℕ) × (t < length (sheet_tests rules)) × Pending key t
    asking_pending means = go (any_below tests (has key.pending)) (any_in tests (has key.pending)) some
      where
        tests : ℕ
        tests = length (sheet_tests rules)

        some : (t : ℕ) → t < tests → Pending key t → T (any_below tests (has key.pending))
        some t l p = in_any tests t (has key.pending) l p

        go
            : (b : Bool) → (T b → (t : ℕ) × (t < tests) × Pending key t) → ((t : ℕ) → t < tests → Pending key t → T b)
            → (t : ℕ) × (t < tests) × Pending key t
        go true f g = f tt
        go false f g = absurd (means.2 (two_map (λ i l m. (m, λ t l p h. g t l p)) means.1))
