-- Right keys and vertices for a piece and the tests seen so far: the elimination's invariant holds of the live rules
-- and the pending tests, and each test of a live rule that is not pending is accounted for by the tests seen. The root
-- is right, and so is what an edge leads to that drops dead rules only, settles no firm test of a rule that it keeps,
-- and settles only what is accounted for.
use Prim.Native.Nat.{ℕ, ◌<◌}
use mathlib.Core.Path.{◌≡◌, sym, subst}
use mathlib.Core.Bool.{Bool, true, false, ◌&&◌, not}
use mathlib.Core.Logic.{◌⊎◌, inl, inr}
use mathlib.Core.List.{List}
use lib.Dec.{eqb, T, T_not, not_T, eqb→eq}
use lib.ListN.{length}
use native.Mathlib.Decide.{ℕ_discrete}
use Rattle.masks.specs.Mask.{has}
use Rattle.terms.specs.Term.{Terms}
use Rattle.terms.specs.Pattern.{Patterns}
use Rattle.basics.proofs.Booleans.{both_true, true_both}
use Rattle.sheet_tests.specs.SheetTests.{sheet_tests}
use Rattle.decision.specs.Rules.{has_test, rules_where}
use Rattle.decision.specs.Key.{Key, Vertex, is_held, key_of, root_key, vertex_of}
use Rattle.decision.specs.Edges.{leads_to, but_test, by_none}
use Rattle.decision.proofs.elimination.Elimination.{Invariant, step}
use Rattle.decision.proofs.elimination.FirmTests.{IsIndex, DeadRule, FirmTest, firm_own}
use Rattle.decision.proofs.elimination.SeenTests.{Accounted, accounted_more}
use Rattle.decision.proofs.keys.Sets.{in_where, where_in}
use Rattle.decision.proofs.keys.Vertices.{Live, Pending, Means, is_held_lem, pending_in, in_pending, vertex_means}

-- A truth value is true or not.
pub true_or_not : (b : Bool) → T b ⊎ (T b → ⊥)
true_or_not true = inl tt
true_or_not false = inr (λ h. h)

module _ (rules : List Patterns) (piece : Terms) where
  -- The elimination's invariant for this piece.
  abbrev pub Eliminates : (ℕ → Type 0) → (ℕ → Type 0) → Type 0
  Eliminates Left Remaining =
      Invariant (IsIndex rules) (FirmTest rules piece) (DeadRule rules piece) Left Remaining

  -- A step of the elimination for this piece.
  eliminate
      : {Live Left : ℕ → Type 0} {Pending Remaining : ℕ → Type 0} → Eliminates Live Pending
      → ((i : ℕ) → Left i → Live i) → ((i : ℕ) → Live i → Left i ⊎ DeadRule rules piece i)
      → ((i t : ℕ) → Left i → FirmTest rules piece i t → Pending t → Remaining t) → Eliminates Left Remaining
  eliminate = step (IsIndex rules) (FirmTest rules piece) (DeadRule rules piece)

  -- A right key: the invariant holds of it, its pending tests are tests of live rules, and each test of a live rule is
  -- pending or accounted for.
  pub record RightKey (Seen : ℕ → Type 0) (key : Key) : Type 0 where
    pub invariant : Eliminates (Live key) (Pending key)
    pub held : (t : ℕ) → Pending key t → (t < length (sheet_tests rules)) × T (is_held rules key.live t)
    pub account
        : (i t : ℕ) → Live key i → t < length (sheet_tests rules) → T (has_test rules i t)
        → Pending key t ⊎ Accounted rules piece Seen t

  -- A right vertex: it means what is so of a right key.
  pub record RightVertex (Seen : ℕ → Type 0) (v : Vertex) : Type 0 where
    pub key : Key
    pub right : RightKey Seen key
    pub means : Means rules key v

  -- What is right stays right when more tests are seen: keys,
  pub key_more : {Seen More : ℕ → Type 0} → ((t : ℕ) → Seen t → More t) → {key : Key} → RightKey Seen key → RightKey More key
  key_more more right = record {
    invariant = right.invariant;
    held = right.held;
    account = λ i t m l h. elim (right.account i t m l h) [
      | inl p ↦ inl p
      | inr a ↦ inr (accounted_more rules piece more t a)
    ];
  }

  -- and vertices.
  pub vertex_more
      : {Seen More : ℕ → Type 0} → ((t : ℕ) → Seen t → More t) → {v : Vertex} → RightVertex Seen v → RightVertex More v
  vertex_more more v = record { key = v.key; right = key_more more v.right; means = v.means }

  -- Of the rules that stay live, each test is left or accounted for.
  abbrev Accounts : (ℕ → Type 0) → ℕ → (ℕ → Bool) → Type 0
  Accounts Seen live is_left =
      (i t : ℕ) → T (has live i) → t < length (sheet_tests rules) → T (has_test rules i t)
      → T (is_left t) ⊎ Accounted rules piece Seen t

  -- Where the invariant holds of the live rules and the tests left, and the others are accounted for, the key is right,
  key_right
      : {Seen : ℕ → Type 0} (live : ℕ) (is_left : ℕ → Bool) → Eliminates (λ i. T (has live i)) (λ t. T (is_left t))
      → Accounts Seen live is_left → RightKey Seen (key_of rules live is_left)
  key_right live is_left v accounts = record {
    invariant = eliminate v (λ i m. m) (λ i m. inl m) (λ i t m f l.
        let held = is_held_lem rules live t i (v.inside i m) m (firm_own rules piece i t f) in
        in_pending rules live is_left t f.0 l held);
    held = λ t h. let r = pending_in rules live is_left t h in (r.0, r.2);
    account = λ i t m l h. elim (accounts i t m l h) [
      | inl k ↦ inl (in_pending rules live is_left t l k (is_held_lem rules live t i (v.inside i m) m h))
      | inr a ↦ inr a
    ];
  }

  -- and so is the vertex that an edge leads to.
  pub leads_right
      : {Seen : ℕ → Type 0} (live : ℕ) (is_left : ℕ → Bool) → Eliminates (λ i. T (has live i)) (λ t. T (is_left t))
      → Accounts Seen live is_left → RightVertex Seen (leads_to rules live is_left)
  leads_right live is_left v accounts = record {
    key = key_of rules live is_left;
    right = key_right live is_left v accounts;
    means = vertex_means rules (key_of rules live is_left);
  }

  -- The root is right, whatever is seen: every test is pending.
  pub root_right : {Seen : ℕ → Type 0} → RightVertex Seen (vertex_of rules (root_key rules))
  root_right =
      leads_right (rules_where rules (λ i. true)) (λ t. true) (record {
        inside = λ i m. (where_in (length rules) (λ j. true) i m).0;
        gone = λ i l. inl (in_where (length rules) (λ j. true) i l tt);
        kept = λ i t m f. tt;
      }) (λ i t m l h. inl tt)

  module _ {Seen : ℕ → Type 0} (key : Key) (right : RightKey Seen key) where
    -- A pending test other than t is left when t is settled.
    but_test_lem : (t u : ℕ) → Pending key u → (u ≡ t → ⊥) → T (but_test key t u)
    but_test_lem t u p d =
        true_both (has key.pending u) (not (eqb u t)) p (not_T (eqb u t) (λ e. d (eqb→eq u t e)))

    -- Where t is seen, each pending test is left or accounted for when t is settled,
    but_settled : (t : ℕ) → Seen t → (u : ℕ) → Pending key u → T (but_test key t u) ⊎ Accounted rules piece Seen u
    but_settled t seen u p =
        elim (ℕ_discrete u t) [
          | yes e ↦ inr (inl (subst Seen (sym e) seen))
          | no d ↦ inl (but_test_lem t u p d)
        ]

    -- and so is each test of the rules that stay live, if each pending one is.
    still_account
        : (live : ℕ) (is_left : ℕ → Bool) → ((i : ℕ) → T (has live i) → Live key i)
        → ((t : ℕ) → Pending key t → T (is_left t) ⊎ Accounted rules piece Seen t) → Accounts Seen live is_left
    still_account live is_left among settles i t m l h =
        elim (right.account i t (among i m) l h) [ inl p ↦ settles t p | inr a ↦ inr a ]

    -- An edge that settles test t, which is seen, is right if the rules that do not stay are dead and t is firm for none
    -- that stays.
    pub drop_right
        : (t : ℕ) (stays : ℕ → Bool) → Seen t → ((i : ℕ) → Live key i → (T (stays i) → ⊥) → DeadRule rules piece i)
        → ((i : ℕ) → Live key i → T (stays i) → FirmTest rules piece i t → ⊥)
        → RightVertex Seen (leads_to rules (rules_where rules (λ i. has key.live i && stays i)) (but_test key t))
    drop_right t stays seen dead soft =
        leads_right (rules_where rules kept) (but_test key t)
        (eliminate right.invariant (λ i m. (among i m).0) drops keeps)
        (still_account (rules_where rules kept) (but_test key t) (λ i m. (among i m).0) (but_settled t seen))
      where
        kept : ℕ → Bool
        kept i = has key.live i && stays i

        among : (i : ℕ) → T (has (rules_where rules kept) i) → Live key i × T (stays i)
        among i m = both_true (has key.live i) (stays i) (where_in (length rules) kept i m).1

        drops : (i : ℕ) → Live key i → T (has (rules_where rules kept) i) ⊎ DeadRule rules piece i
        drops i m =
            elim (true_or_not (stays i)) [
              | inl s ↦
                  let both = true_both (has key.live i) (stays i) m s in
                  inl (in_where (length rules) kept i (right.invariant.inside i m) both)
              | inr n ↦ inr (dead i m n)
            ]

        keeps
            : (i u : ℕ) → T (has (rules_where rules kept) i) → FirmTest rules piece i u → Pending key u
            → T (but_test key t u)
        keeps i u m f p =
            let s = among i m in
            but_test_lem t u p (λ e. soft i s.0 s.1 (subst (FirmTest rules piece i) e f))

    -- So is one that drops every rule with test t, if these are dead.
    pub none_right
        : (t : ℕ) → Seen t → ((i : ℕ) → Live key i → T (has_test rules i t) → DeadRule rules piece i)
        → RightVertex Seen (by_none rules key t)
    none_right t seen dead = drop_right t (λ i. not (has_test rules i t)) seen drops soft
      where
        drops : (i : ℕ) → Live key i → (T (not (has_test rules i t)) → ⊥) → DeadRule rules piece i
        drops i m h = elim (true_or_not (has_test rules i t)) [
          | inl k ↦ dead i m k
          | inr k ↦ absurd (h (not_T (has_test rules i t) k))
        ]

        soft : (i : ℕ) → Live key i → T (not (has_test rules i t)) → FirmTest rules piece i t → ⊥
        soft i m s f = T_not (has_test rules i t) s (firm_own rules piece i t f)

    -- An edge that drops no rule is right if what it settles is not firm and is accounted for.
    pub keep_right
        : (is_left : ℕ → Bool) → ((i t : ℕ) → FirmTest rules piece i t → Pending key t → T (is_left t))
        → ((t : ℕ) → Pending key t → T (is_left t) ⊎ Accounted rules piece Seen t)
        → RightVertex Seen (leads_to rules key.live is_left)
    keep_right is_left keeps settles =
        leads_right key.live is_left
        (eliminate right.invariant (λ i m. m) (λ i m. inl m) (λ i t m f p. keeps i t f p))
        (still_account key.live is_left (λ i m. m) settles)

    -- So is one that settles test t, which is seen, if t is firm for no rule.
    pub settle_right
        : (t : ℕ) → Seen t → ((i : ℕ) → FirmTest rules piece i t → ⊥)
        → RightVertex Seen (leads_to rules key.live (but_test key t))
    settle_right t seen soft =
        keep_right (but_test key t)
        (λ i u f p. but_test_lem t u p (λ e. soft i (subst (FirmTest rules piece i) e f)))
        (but_settled t seen)
