-- The keys of the places that may follow: at first, where one more place is down, and that the least key is of the place that comes
-- next.
use Prim.Native.Nat.{ℕ, zero, suc, ◌+◌, ◌%◌, ◌≤◌, ◌<◌}
use mathlib.Core.Path.{◌≡◌, sym, ap, subst, ◌∙◌}
use mathlib.Core.Bool.{Bool, true, false, not, ◌&&◌, ◌||◌, cond, true≢false}
use mathlib.Core.Logic.{◌⊎◌, inl, inr, by_cases}
use mathlib.Core.List.{List, [], ◌∷◌, ◌++◌}
use native.Mathlib.Decide.{ℕ_discrete}
use native.Mathlib.Omega.{arith}
use borrow.Author.Tests.{eq-eqb, ne_eqb}
use lib.Dec.{eqb}
use lib.ListN.{length, get_or, replicate, get_or-replicate}
use Rattle.basics.proofs.Booleans.{by_test}
use Rattle.places.specs.Numbering.{parent_at, at_or_below}
use Rattle.places.proofs.Below.{at_or_below_refl, at_or_below_trans, at_or_below_parent, at_or_below_range}
use Rattle.places.proofs.Below.{below_parent, not_above_end}
use Rattle.places.proofs.Parents.{parent_before}
use Rattle.track.specs.Track.{is_down, may_follow, next_place}
use Rattle.track.specs.views.Front.{position_key, front_at, Opened, LeastBelow, PutDown}
use Rattle.track.proofs.Rows.{arguments, opened_children, opened_others}
use Rattle.track.proofs.Climb.{below_same}
use Rattle.track.proofs.StepByStep.{Rests, After, next_least, follows_new, new_follows, down_same, down_itself}

-- The keys where these places are down: a place that is down has the least of its children's, any other its own.
pub record Front (positions down keys : List ℕ) : Type 0 where
  pub size : length keys ≡ 680
  pub below : (q : ℕ) → q < 680 → is_down down q ≡ true → LeastBelow keys q (get_or keys q 0)
  pub own : (q : ℕ) → q < 680 → is_down down q ≡ false → get_or keys q 0 ≡ front_at positions down q

-- At first the arguments may follow.
pub front_first
    : (positions keys : List ℕ) → Opened positions 0 85 8 (replicate 680 67108864) keys → Front positions [] keys
front_first positions keys o = record {
  size = o.size;
  below = λ q h t. absurd (true≢false (sym t));
  own = λ q h f.
      by_cases (ℕ_discrete (parent_at q) 680)
      (λ (e : parent_at q ≡ 680).
      opened_children arguments o q h e
      ∙ sym (ap (λ (b : Bool). cond (b || false) (position_key positions q) 67108864) (eq-eqb (parent_at q) 680 e)))
      (λ (d : parent_at q ≡ 680 → ⊥).
      opened_others arguments o q d
      ∙ get_or-replicate {A = ℕ} 680 q 67108864 0 h
      ∙ sym (ap (λ (b : Bool). cond (b || false) (position_key positions q) 67108864) (ne_eqb (parent_at q) 680 d)));
}

-- The places above one that may follow are down.
above_down
    : {n : ℕ} {down : List ℕ} → After n down → (k p q : ℕ) → p < k → q < 680 → Rests down p → at_or_below q p ≡ true → (q ≡ p → ⊥)
    → is_down down q ≡ true
above_down a zero p q h inside rests t d = absurd (omega arith)
above_down {n} {down} a (suc k) p q h inside rests t d =
    let range = (at_or_below_range q p).0 t in
    let higher = (below_parent q p inside).0 (omega (arith, range.0, d), t) in
    let has = not_above_end q (parent_at p) inside higher in
    let is : is_down down (parent_at p) ≡ true = elim rests [
      | inl e ↦ absurd (has e)
      | inr e ↦ e
    ] in
    by_cases (ℕ_discrete q (parent_at p)) (λ (e : q ≡ parent_at p). ap (is_down down) e ∙ is)
    (λ (d' : q ≡ parent_at p → ⊥).
    above_down a k (parent_at p) q (omega (arith, parent_before p has)) inside (a.closed (parent_at p) is) higher d')

module _ (positions : List ℕ) {n : ℕ} {down : List ℕ} (a : After n down) (p : ℕ) (inside : p < 680)
    (follows : may_follow down p ≡ true) where
  new : is_down down p ≡ false
  new = (follows_new down p follows).0

  -- A place whose parent is p is not down.
  child_new : (q : ℕ) → parent_at q ≡ p → is_down down q ≡ false
  child_new q e =
      by_test (is_down down q)
      (λ t.
      elim (a.closed q t) [
        | inl u ↦ absurd (omega (arith, u, e, inside))
        | inr u ↦ absurd (true≢false (sym u ∙ ap (is_down down) e ∙ new))
      ])
      (λ f. f)

  -- Where p is down too its children may follow,
  front_child : (q : ℕ) → (q ≡ p → ⊥) → parent_at q ≡ p → front_at positions (down ++ (p ∷ [])) q ≡ position_key positions q
  front_child q d e =
      ap (λ (b : Bool). cond b (position_key positions q) 67108864)
      (new_follows (down ++ (p ∷ [])) q (down_same down p q d ∙ child_new q e) (inr (down_itself down p (parent_at q) e)))

  -- and the others may as before.
  front_other
      : (q : ℕ) → (q ≡ p → ⊥) → (parent_at q ≡ p → ⊥) → front_at positions (down ++ (p ∷ [])) q ≡ front_at positions down q
  front_other q d e =
      let itself = down_same down p q d in
      let parent = down_same down p (parent_at q) e in
      λ j. cond (not (itself j) && (eqb (parent_at q) 680 || parent j)) (position_key positions q) 67108864

  module _ {keys after : List ℕ} (f : Front positions down keys) (o : PutDown positions p keys after) where
    -- A place that is not at or above p keeps what it has below it.
    below_kept
        : (q : ℕ) → q < 680 → is_down down q ≡ true → at_or_below q p ≡ false → LeastBelow after q (get_or after q 0)
    below_kept q h t b =
        let apart : q ≡ p → ⊥ =
        λ e. true≢false (sym (subst (λ (x : ℕ). at_or_below x p ≡ true) (sym e) (at_or_below_refl p)) ∙ b) in
        let no-child : parent_at q ≡ p → ⊥ = λ e. true≢false (sym t ∙ child_new q e) in
        subst (LeastBelow after q) (sym (o.others q h b no-child))
        (below_same (f.below q h t)
        (λ x hx e.
        o.others x hx
        (by_test (at_or_below x p)
        (λ s.
        let has : parent_at x ≡ 680 → ⊥ = λ n. omega (arith, n, e, h) in
        let over = subst (λ (y : ℕ). at_or_below y x ≡ true) e (at_or_below_parent x has) in
        absurd (true≢false (sym (at_or_below_trans q x p over s) ∙ b)))
        (λ s. s))
        (λ s. apart (sym e ∙ s))))

    pub front_more : Front positions (down ++ (p ∷ [])) after
    front_more = record {
      size = o.size;
      below = λ q h t.
          by_test (at_or_below q p) (λ s. o.above q h s)
          (λ s.
          let apart : q ≡ p → ⊥ =
          λ e. true≢false (sym (subst (λ (x : ℕ). at_or_below x p ≡ true) (sym e) (at_or_below_refl p)) ∙ s) in
          below_kept q h (sym (down_same down p q apart) ∙ t) s);
      own = λ q h s.
          let apart : q ≡ p → ⊥ = λ e. true≢false (sym (down_itself down p q e) ∙ s) in
          let still = sym (down_same down p q apart) ∙ s in
          let aside : at_or_below q p ≡ false =
          by_test (at_or_below q p)
          (λ t.
          let up = above_down a (suc p) p q (omega arith) h (follows_new down p follows).1 t apart in
          absurd (true≢false (sym up ∙ still)))
          (λ b. b) in
          by_cases (ℕ_discrete (parent_at q) p) (λ (e : parent_at q ≡ p). o.children q h e ∙ sym (front_child q apart e))
          (λ (e : parent_at q ≡ p → ⊥). o.others q h aside e ∙ f.own q h still ∙ sym (front_other q apart e));
    }

module _ (positions : List ℕ) {n : ℕ} {down keys : List ℕ} (few : (q : ℕ) → q < 680 → position_key positions q < 67108864)
    (a : After n down) (h : n < 680) (f : Front positions down keys) (m : ℕ) (l : LeastBelow keys 680 m) where
  -- The arguments' least key is at most that of each place whose parent is down,
  reached : (k q : ℕ) → q < k → q < 680 → Rests down q → m ≤ get_or keys q 0
  reached zero q some inside rests = absurd (omega arith)
  reached (suc k) q some inside (inl e) = l.low q inside e
  reached (suc k) q some inside (inr t) =
      by_cases (ℕ_discrete (parent_at q) 680) (λ (e : parent_at q ≡ 680). l.low q inside e)
      (λ (has : parent_at q ≡ 680 → ⊥).
      let before = parent_before q has in
      let up = reached k (parent_at q) (omega (arith, before)) (omega (arith, before)) (a.closed (parent_at q) t) in
      omega (arith, up, (f.below (parent_at q) (omega (arith, before)) t).low q inside (λ _. parent_at q)))

  -- and each place has the key of one that may follow, or none.
  abbrev Found : ℕ → Type 0
  Found m = (m ≡ 67108864) ⊎ ((x : ℕ) × (x < 680) × (may_follow down x ≡ true) × (m ≡ position_key positions x))

  found : (k q : ℕ) → 680 ≤ q + k → q < 680 → Found (get_or keys q 0)
  found zero q some inside = absurd (omega arith)
  found (suc k) q some inside =
      by_test (is_down down q)
      (λ t.
      elim (f.below q inside t).met [
        | inl e ↦ inl e
        | inr c ↦
            subst Found (sym c.3)
            (found k c.0
            (omega (arith, some, parent_before c.0 (λ e. omega (arith, e, c.2, inside)), c.2))
            c.1)
      ])
      (λ s.
      let is = f.own q inside s in
      by_test (may_follow down q)
      (λ t. inr (q, inside, t, is ∙ ap (λ (b : Bool). cond b (position_key positions q) 67108864) t))
      (λ t. inl (is ∙ ap (λ (b : Bool). cond b (position_key positions q) 67108864) t)))

  low : m ≤ position_key positions (next_place positions down)
  low =
      let next = next_least positions a h in
      let p = next_place positions down in
      let new = follows_new down p next.passes in
      let own = f.own p next.to new.0 ∙ ap (λ (b : Bool). cond b (position_key positions p) 67108864) next.passes in
      omega (arith, own, reached (suc p) p (omega arith) next.to new.1)

  -- A least key that is a place's is that of the next place.
  least_of : Found m → m ≡ position_key positions (next_place positions down)
  least_of (inl e) = absurd (omega (arith, e, low, few (next_place positions down) (next_least positions a h).to))
  least_of (inr x) =
      let le = (next_least positions a h).least x.0 (omega arith) x.1 x.2 in omega (arith, le, low, x.3)

  pub least_next : m % 1024 ≡ next_place positions down
  least_next =
      let is : m ≡ position_key positions (next_place positions down) = elim l.met [
        | inl e ↦ least_of (inl e)
        | inr c ↦ least_of (subst Found (sym c.3) (found 680 c.0 (omega arith) c.1))
      ] in
      omega (arith, is, (next_least positions a h).to)
