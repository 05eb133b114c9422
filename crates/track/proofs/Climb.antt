-- The turns of the climb from a place that is put down to its argument, and the keys where one more place is down.
use Prim.Native.Nat.{ℕ, ◌-◌, ◌≤◌, ◌<◌}
use mathlib.Core.Path.{◌≡◌, refl, sym, ap, subst, ◌∙◌}
use mathlib.Core.Bool.{true, false, true≢false}
use mathlib.Core.Logic.{inl, inr, by_cases}
use mathlib.Core.List.{List}
use native.Mathlib.Decide.{ℕ_discrete}
use native.Mathlib.Omega.{arith}
use lib.ListN.{length, get_or, set, length-set}
use lib.Seq.{get_or-set_same, get_or-set_other}
use Rattle.basics.proofs.Booleans.{by_test}
use Rattle.places.specs.Numbering.{parent_at, depth_at, at_or_below}
use Rattle.places.proofs.Below.{at_or_below_range, at_or_below_refl, below_parent, not_above_end}
use Rattle.places.proofs.Parents.{parent_before}
use Rattle.track.specs.views.Front.{position_key, Opened, LeastBelow, Climbed, PutDown}
use Rattle.track.proofs.Rows.{Row, child_within, opened_children, opened_others}

-- The least of the same keys is the same.
pub below_same
    : {keys after : List ℕ} {p m : ℕ} → LeastBelow keys p m
    → ((q : ℕ) → q < 680 → parent_at q ≡ p → get_or after q 0 ≡ get_or keys q 0) → LeastBelow after p m
below_same l same = record {
  low = λ q h e. omega (arith, l.low q h e, same q h e);
  met = elim l.met [
    | inl m ↦ inl m
    | inr m ↦ inr (m.0, m.1, m.2, m.3 ∙ sym (same m.0 m.1 m.2))
  ];
}

-- The places at or above p that are not at or above u have the least of their children's keys.
pub record Climbing (p : ℕ) (keys₀ keys : List ℕ) (u d : ℕ) : Type 0 where
  pub size : length keys ≡ 680
  pub depth : u < 680 → d ≡ depth_at u
  pub end : u ≤ 680
  pub up : (q : ℕ) → q < 680 → at_or_below q u ≡ true → at_or_below q p ≡ true
  pub done : (q : ℕ) → q < 680 → at_or_below q p ≡ true → at_or_below q u ≡ false → LeastBelow keys q (get_or keys q 0)
  pub rest : (q : ℕ) → q < 680 → at_or_below q p ≡ false → get_or keys q 0 ≡ get_or keys₀ q 0

pub climb_none : (p d : ℕ) (keys : List ℕ) → length keys ≡ 680 → p < 680 → d ≡ depth_at p → Climbing p keys keys p d
climb_none p d keys size inside is = record {
  size = size;
  depth = λ h. is;
  end = omega arith;
  up = λ q h a. a;
  done = λ q h a b. absurd (true≢false (sym a ∙ b));
  rest = λ q h b. refl;
}

module _ {p : ℕ} {keys₀ keys : List ℕ} {u d : ℕ} (c : Climbing p keys₀ keys u d) (inside : u < 680) (m : ℕ)
    (l : LeastBelow keys u m) where
  -- Where u gets a key, the least of its children's stays what it was, since u is no child of its own,
  itself : LeastBelow (set keys u m) u (get_or (set keys u m) u 0)
  itself =
      subst (LeastBelow (set keys u m) u) (sym (get_or-set_same keys u m 0 (omega (arith, c.size))))
      (below_same l
      (λ q h e. get_or-set_other keys u q m 0 (λ s. omega (arith, parent_before q (λ t. omega (arith, t, e, inside)), e, s))))

  -- and so does that of a place that is not at or above the parent of u.
  other
      : (q : ℕ) → q < 680 → at_or_below q p ≡ true → at_or_below q (parent_at u) ≡ false → (q ≡ u → ⊥)
      → LeastBelow (set keys u m) q (get_or (set keys u m) q 0)
  other q h a b d' =
      subst (LeastBelow (set keys u m) q) (sym (get_or-set_other keys u q m 0 d'))
      (below_same (c.done q h a not_above_lem)
      (λ x hx e.
      get_or-set_other keys u x m 0
      (λ s. true≢false (sym (subst (λ (y : ℕ). at_or_below q y ≡ true) (sym (sym (ap parent_at s) ∙ e)) (at_or_below_refl q)) ∙ b))))
    where
      not_above_lem : at_or_below q u ≡ false
      not_above_lem =
          by_test (at_or_below q u)
          (λ t.
          let range = (at_or_below_range q u).0 t in
          absurd (true≢false (sym ((below_parent q u h).0 (omega (arith, range.0, d'), t)) ∙ b)))
          (λ f. f)

  pub climb_more : Climbing p keys₀ (set keys u m) (parent_at u) (d - 1)
  climb_more = record {
    size = length-set keys u m ∙ c.size;
    depth = λ h. omega (arith, c.depth inside, (child_within (parent_at u) u h refl).2);
    end =
        by_cases (ℕ_discrete (parent_at u) 680) (λ (e : parent_at u ≡ 680). omega arith)
        (λ (has : parent_at u ≡ 680 → ⊥). omega (arith, parent_before u has));
    up = λ q h a. c.up q h ((below_parent q u h).1 a).1;
    done = λ q h a b.
        by_cases (ℕ_discrete q u)
        (λ (e : q ≡ u). subst (λ (x : ℕ). LeastBelow (set keys u m) x (get_or (set keys u m) x 0)) (sym e) itself)
        (λ (d' : q ≡ u → ⊥). other q h a b d');
    rest = λ q h b.
        get_or-set_other keys u q m 0
        (λ e. true≢false (sym (subst (λ (x : ℕ). at_or_below x p ≡ true) (sym e) (c.up u inside (at_or_below_refl u))) ∙ b))
        ∙ c.rest q h b;
  }

pub climb_all : {p : ℕ} {keys₀ keys : List ℕ} {u d : ℕ} → Climbing p keys₀ keys u d → 680 ≤ u → Climbed p keys₀ keys
climb_all {p} {keys₀} {keys} {u} c top = record {
  size = c.size;
  above = λ q h a.
      c.done q h a
      (by_test (at_or_below q u) (λ t. absurd (not_above_end q u h t (omega (arith, top, c.end)))) (λ f. f));
  others = c.rest;
}

-- The keys where the children of p have theirs.
pub record Fresh (positions : List ℕ) (p : ℕ) (keys after : List ℕ) : Type 0 where
  pub size : length after ≡ 680
  pub children : (q : ℕ) → q < 680 → parent_at q ≡ p → get_or after q 0 ≡ position_key positions q
  pub others : (q : ℕ) → (parent_at q ≡ p → ⊥) → get_or after q 0 ≡ get_or keys q 0

pub fresh_row
    : {positions keys after : List ℕ} {p from step n : ℕ} → Row p from step n → Opened positions from step n keys after
    → Fresh positions p keys after
fresh_row r o = record { size = o.size; children = opened_children r o; others = opened_others r o }

pub fresh_none
    : (positions keys : List ℕ) (p : ℕ) → length keys ≡ 680 → ((q : ℕ) → parent_at q ≡ p → ⊥) → Fresh positions p keys keys
fresh_none positions keys p size none = record { size = size; children = λ q h e. absurd (none q e); others = λ q d. refl }

-- Where its children have their keys, and each place at or above p the least of its children's, p is put down.
pub put_down_is
    : {positions keys opened after : List ℕ} {p : ℕ} → p < 680 → Fresh positions p keys opened → Climbed p opened after
    → PutDown positions p keys after
put_down_is {p = p} inside o c = record {
  size = c.size;
  above = c.above;
  children = λ q h e.
      c.others q h
      (by_test (at_or_below q p)
      (λ t. absurd (omega (arith, (at_or_below_range q p).0 t, (child_within p q inside e).0))) (λ f. f))
      ∙ o.children q h e;
  others = λ q h a d. c.others q h a ∙ o.others q d;
}
