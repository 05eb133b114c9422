-- The places that are down after some steps: as many as the steps, each once, none before its parent; and while some place is not
-- down one may follow.
use Prim.Native.Nat.{ℕ, zero, suc, ◌+◌, ◌≤◌, ◌<◌}
use mathlib.Core.Path.{◌≡◌, refl, sym, ap, subst, ◌∙◌}
use mathlib.Core.Bool.{Bool, true, false, not, ◌&&◌, true≢false, or-false, or-true, ◌||◌}
use mathlib.Core.Logic.{◌⊎◌, inl, inr, by_cases}
use mathlib.Core.List.{List, [], ◌∷◌, ◌++◌}
use native.Mathlib.Decide.{ℕ_discrete}
use native.Mathlib.Omega.{arith}
use borrow.Author.Tests.{eq-eqb, ne_eqb, lt-ltb, eqb-true, not-true}
use lib.Dec.{T, eqb, ltb}
use lib.ListN.{length, length-append}
use Rattle.basics.specs.Lists.{Mem, here, there, filter}
use Rattle.basics.proofs.Booleans.{by_test, and_both, cond_by, is_true}
use Rattle.basics.proofs.Filters.{any_join, mem_filter, filter_length}
use Rattle.places.specs.Numbering.{parent_at}
use Rattle.places.proofs.Parents.{parent_before}
use Rattle.order.specs.Table.{each_once, parents_first}
use Rattle.order.proofs.EveryPlace.{found_mem}
use Rattle.track.specs.Track.{is_down, may_follow, next_place, down_after}
use Rattle.track.proofs.NextPlace.{None, Least, next_found}

-- Numbers that all stand in a list are no more than it has.
one_less : (a : ℕ) {ys : List ℕ} → Mem a ys → length (filter (λ (x : ℕ). not (eqb x a)) ys) < length ys
one_less a (here {xs = xs}) =
    let keep : ℕ → Bool = λ x. not (eqb x a) in
    let short = filter_length keep xs in
    cond_by (λ (l : List ℕ). length l < suc (length xs)) (keep a)
    (λ k. absurd (subst T (ap not (eq-eqb a a refl)) k)) (λ k. omega arith)
one_less a (there {y = y} {xs = xs} m) =
    let keep : ℕ → Bool = λ x. not (eqb x a) in
    let short = one_less a m in
    cond_by (λ (l : List ℕ). length l < suc (length xs)) (keep y) (λ k. omega arith) (λ k. omega arith)

covered : (a k : ℕ) (ys : List ℕ) → ((x : ℕ) → a ≤ x → x < a + k → Mem x ys) → k ≤ length ys
covered a zero ys h = omega arith
covered a (suc k) ys h =
    let keep : ℕ → Bool = λ x. not (eqb x a) in
    let rest =
    covered (suc a) k (filter keep ys)
    (λ x from to. mem_filter keep (h x (omega arith) (omega arith)) (is_true (ap not (ne_eqb x a (λ e. omega arith))))) in
    omega (arith, rest, one_less a (h a (omega arith) (omega arith)))

-- One more place is down.
pub down_more : (down : List ℕ) (p q : ℕ) → is_down (down ++ (p ∷ [])) q ≡ is_down down q || eqb q p
down_more down p q = any_join (eqb q) down (p ∷ []) ∙ ap (λ (b : Bool). is_down down q || b) (or-false (eqb q p))

pub down_same : (down : List ℕ) (p q : ℕ) → (q ≡ p → ⊥) → is_down (down ++ (p ∷ [])) q ≡ is_down down q
down_same down p q d = down_more down p q ∙ ap (λ (b : Bool). is_down down q || b) (ne_eqb q p d) ∙ or-false (is_down down q)

pub down_itself : (down : List ℕ) (p q : ℕ) → q ≡ p → is_down (down ++ (p ∷ [])) q ≡ true
down_itself down p q e = down_more down p q ∙ ap (λ (b : Bool). is_down down q || b) (eq-eqb q p e) ∙ or-true (is_down down q)

-- A place that may follow is not down, and its parent is or it has none.
abbrev pub Rests : List ℕ → ℕ → Type 0
Rests down q = (parent_at q ≡ 680) ⊎ (is_down down (parent_at q) ≡ true)

rests_of : (down : List ℕ) (q : ℕ) → eqb (parent_at q) 680 || is_down down (parent_at q) ≡ true → Rests down q
rests_of down q e =
    by_test (eqb (parent_at q) 680) (λ t. inl (eqb-true (parent_at q) 680 t))
    (λ f. inr (sym (ap (λ (b : Bool). b || is_down down (parent_at q)) f) ∙ e))

pub follows_new : (down : List ℕ) (q : ℕ) → may_follow down q ≡ true → (is_down down q ≡ false) × Rests down q
follows_new down q e =
    let both = and_both (not (is_down down q)) (eqb (parent_at q) 680 || is_down down (parent_at q)) e in
    (not-true (is_down down q) both.0, rests_of down q both.1)

-- and such a place may follow.
of_rests : (down : List ℕ) (q : ℕ) → Rests down q → eqb (parent_at q) 680 || is_down down (parent_at q) ≡ true
of_rests down q (inl e) = ap (λ (b : Bool). b || is_down down (parent_at q)) (eq-eqb (parent_at q) 680 e)
of_rests down q (inr e) = ap (λ (b : Bool). eqb (parent_at q) 680 || b) e ∙ or-true (eqb (parent_at q) 680)

pub new_follows : (down : List ℕ) (q : ℕ) → is_down down q ≡ false → Rests down q → may_follow down q ≡ true
new_follows down q new rests = λ j. not (new j) && of_rests down q rests j

-- What is down after n steps.
pub record After (n : ℕ) (down : List ℕ) : Type 0 where
  pub size : length down ≡ n
  pub once : each_once down ≡ true
  pub first : parents_first down ≡ true
  pub closed : (q : ℕ) → is_down down q ≡ true → Rests down q

-- Where no place may follow all are down: each stands behind its parent.
all_down : (down : List ℕ) → None (may_follow down) 0 680 → (k : ℕ) → k ≤ 680 → (q : ℕ) → q < k → is_down down q ≡ true
all_down down none zero room q h = absurd (omega arith)
all_down down none (suc k) room q h =
    let rests : Rests down q =
    by_cases (ℕ_discrete (parent_at q) 680) (λ (e : parent_at q ≡ 680). inl e)
    (λ (has : parent_at q ≡ 680 → ⊥). inr (all_down down none k (omega arith) (parent_at q) (omega (arith, parent_before q has)))) in
    by_test (is_down down q) (λ e. e)
    (λ e. absurd (true≢false (sym (new_follows down q e rests) ∙ none q (omega arith) (omega arith))))

-- While fewer than 680 are down, one comes next.
pub next_least
    : (positions : List ℕ) {n : ℕ} {down : List ℕ} → After n down → n < 680
    → Least positions (may_follow down) 0 680 (next_place positions down)
next_least positions {n} {down} a h =
    elim (next_found positions down) [
      | inl f ↦
          absurd
          (omega (
            arith,
            a.size,
            covered 0 680 down
                (λ x from to. found_mem x down (is_true (all_down down f.1 680 (omega arith) x (omega arith)))),
          ))
      | inr l ↦ l
    ]

-- A new place at the end: each still stands once,
once_more : (down : List ℕ) (p : ℕ) → each_once down ≡ true → p < 680 → is_down down p ≡ false → each_once (down ++ (p ∷ [])) ≡ true
once_more [] p once inside new = ap (λ (b : Bool). (b && true) && true) (lt-ltb p 680 inside)
once_more (x ∷ down) p once inside new =
    let outer = and_both (ltb x 680 && not (is_down down x)) (each_once down) once in
    let inner = and_both (ltb x 680) (not (is_down down x)) outer.0 in
    let other : x ≡ p → ⊥ = λ e. true≢false (sym (ap (λ (b : Bool). b || is_down down p) (eq-eqb p x (sym e))) ∙ new) in
    let rest : is_down down p ≡ false =
    sym (ap (λ (b : Bool). b || is_down down p) (ne_eqb p x (λ e. other (sym e)))) ∙ new in
    let apart = ap not (down_same down p x other) ∙ inner.1 in
    λ j. (inner.0 j && apart j) && once_more down p outer.1 inside rest j

-- and none before its parent, where the new place is no parent of these.
first_more
    : (down : List ℕ) (p : ℕ) → parents_first down ≡ true → ((q : ℕ) → is_down down q ≡ true → parent_at q ≡ p → ⊥)
    → parents_first (down ++ (p ∷ [])) ≡ true
first_more [] p first apart = refl
first_more (x ∷ down) p first apart =
    let both = and_both (not (is_down down (parent_at x))) (parents_first down) first in
    let here = ap (λ (b : Bool). b || is_down down x) (eq-eqb x x refl) in
    let new = ap not (down_same down p (parent_at x) (apart x here)) ∙ both.0 in
    let rest =
    first_more down p both.1
    (λ q h. apart q (ap (λ (b : Bool). eqb q x || b) h ∙ or-true (eqb q x))) in
    λ j. new j && rest j

pub After-more
    : {n : ℕ} {down : List ℕ} → After n down → (p : ℕ) → p < 680 → may_follow down p ≡ true
    → After (suc n) (down ++ (p ∷ []))
After-more {n} {down} a p inside follows =
    let new = follows_new down p follows in
    record {
      size = omega (arith, length-append down (p ∷ []), a.size);
      once = once_more down p a.once inside new.0;
      first = first_more down p a.first (λ q h e. no_parent q h e);
      closed = λ q h.
          by_cases (ℕ_discrete q p) (λ (e : q ≡ p). subst (Rests (down ++ (p ∷ []))) (sym e) (kept p new.1))
          (λ (d : q ≡ p → ⊥). kept q (a.closed q (sym (down_same down p q d) ∙ h)));
    }
  where
    kept : (q : ℕ) → Rests down q → Rests (down ++ (p ∷ [])) q
    kept q (inl e) = inl e
    kept q (inr e) = inr (down_more down p (parent_at q) ∙ ap (λ (b : Bool). b || eqb (parent_at q) p) e)

    no_parent : (q : ℕ) → is_down down q ≡ true → parent_at q ≡ p → ⊥
    no_parent q h e =
        elim (a.closed q h) [
          | inl t ↦ omega (arith, t, e, inside)
          | inr t ↦ true≢false (sym t ∙ ap (is_down down) e ∙ (follows_new down p follows).0)
        ]

pub after : (positions : List ℕ) (n : ℕ) → n ≤ 680 → After n (down_after positions n)
unfolding down_after
after positions zero room = record { size = refl; once = refl; first = refl; closed = λ q e. absurd (true≢false (sym e)) }
after positions (suc n) room =
    let a = after positions n (omega arith) in
    let l = next_least positions a (omega arith) in
    After-more a (next_place positions (down_after positions n)) l.to l.passes
