-- Which place comes next: of those that may follow the one with the least key, position first and then number.
use Prim.Native.Nat.{ℕ, zero, suc, ◌+◌, ◌≤◌, ◌<◌}
use mathlib.Core.Path.{◌≡◌, refl, sym, ap, subst, ◌∙◌}
use mathlib.Core.Bool.{Bool, true, false, ◌||◌, cond, true≢false}
use mathlib.Core.Logic.{◌⊎◌, inl, inr, by_cases}
use mathlib.Core.List.{List, ◌∷◌}
use native.Mathlib.Decide.{ℕ_discrete}
use native.Mathlib.Omega.{arith}
use borrow.Author.Tests.{eq-eqb, ne_eqb, leb-true, leb-false}
use lib.Dec.{leb}
use Rattle.basics.specs.Lists.{filter, count_from}
use Rattle.basics.proofs.Booleans.{by_test}
use Rattle.track.specs.Track.{position_at, may_follow, nearer, nearest, next_place}
use Rattle.track.specs.views.Front.{position_key}

-- None of the k places from a on passes the test.
abbrev pub None : (ℕ → Bool) → ℕ → ℕ → Type 0
None f a k = (q : ℕ) → a ≤ q → q < a + k → f q ≡ false

-- Place r is the one with the least key of those that do.
pub record Least (positions : List ℕ) (f : ℕ → Bool) (a k r : ℕ) : Type 0 where
  pub from : a ≤ r
  pub to : r < a + k
  pub passes : f r ≡ true
  pub least : (q : ℕ) → a ≤ q → q < a + k → f q ≡ true → position_key positions r ≤ position_key positions q

module _ (positions : List ℕ) (f : ℕ → Bool) where
  abbrev Found : ℕ → ℕ → ℕ → Type 0
  Found a k r = ((r ≡ 680) × None f a k) ⊎ Least positions f a k r

  -- The first place does not pass,
  found_later : (a k r : ℕ) → f a ≡ false → Found (suc a) k r → Found a (suc k) r
  found_later a k r out (inl h) =
      inl (
        h.0,
        λ q from to. by_cases (ℕ_discrete q a) (λ (e : q ≡ a). ap f e ∙ out)
            (λ (d : q ≡ a → ⊥). h.1 q (omega arith) (omega arith)),
      )
  found_later a k r out (inr l) =
      inr
      record {
        from = omega (arith, l.from);
        to = omega (arith, l.to);
        passes = l.passes;
        least = λ q from to in-q.
            by_cases (ℕ_discrete q a) (λ (e : q ≡ a). absurd (true≢false (sym in-q ∙ ap f e ∙ out)))
            (λ (d : q ≡ a → ⊥). l.least q (omega arith) (omega arith) in-q);
      }

  -- or it passes and is the nearest,
  found_here
      : (a k : ℕ) → f a ≡ true → ((q : ℕ) → suc a ≤ q → q < suc a + k → f q ≡ true → position_key positions a ≤ position_key positions q)
      → Found a (suc k) a
  found_here a k in-a h =
      inr
      record {
        from = omega arith;
        to = omega arith;
        passes = in-a;
        least = λ q from to in-q.
            by_cases (ℕ_discrete q a) (λ (e : q ≡ a). subst (λ (x : ℕ). position_key positions a ≤ position_key positions x) (sym e)
            (omega arith))
            (λ (d : q ≡ a → ⊥). h q (omega arith) (omega arith) in-q);
      }

  -- or it passes and another is.
  found_nearer : (a k r : ℕ) → a + suc k ≤ 680 → f a ≡ true → Found (suc a) k r → Found a (suc k) (nearer positions a r)
  found_nearer a k r room in-a (inl h) =
      subst (Found a (suc k)) (sym (ap (λ (b : Bool). cond (b || leb (position_at positions a) (position_at positions r)) a r)
      (eq-eqb r 680 h.0)))
      (found_here a k in-a (λ q from to in-q. absurd (true≢false (sym in-q ∙ h.1 q from to))))
  found_nearer a k r room in-a (inr l) =
      let place = ne_eqb r 680 (λ e. omega (arith, l.to, e)) in
      by_test (leb (position_at positions a) (position_at positions r))
      (λ e.
      let is : nearer positions a r ≡ a =
      (λ j. cond (place j || e j) a r) in
      let near = leb-true (position_at positions a) (position_at positions r) e in
      subst (Found a (suc k)) (sym is) (found_here a k in-a
      (λ q from to in-q. omega (arith, near, l.from, l.least q from to in-q))))
      (λ e.
      let is : nearer positions a r ≡ r =
      (λ j. cond (place j || e j) a r) in
      let far = leb-false (position_at positions a) (position_at positions r) e in
      subst (Found a (suc k)) (sym is)
      (inr
      record {
        from = omega (arith, l.from);
        to = omega (arith, l.to);
        passes = l.passes;
        least = λ q from to in-q.
            by_cases (ℕ_discrete q a)
            (λ (s : q ≡ a). subst (λ (x : ℕ). position_key positions r ≤ position_key positions x) (sym s) (omega (arith, far, l.to)))
            (λ (d : q ≡ a → ⊥). l.least q (omega arith) (omega arith) in-q);
      }))

  found : (a k : ℕ) → a + k ≤ 680 → Found a k (nearest positions (filter f (count_from a k)))
  found a zero room = inl (refl, λ q from to. absurd (omega arith))
  found a (suc k) room =
      let rest = found (suc a) k (omega arith) in
      let later = nearest positions (filter f (count_from (suc a) k)) in
      let l = filter f (count_from (suc a) k) in
      by_test (f a)
      (λ e. subst (λ (b : Bool). Found a (suc k) (nearest positions (cond b (a ∷ l) l))) (sym e)
      (found_nearer a k later room e rest))
      (λ e. subst (λ (b : Bool). Found a (suc k) (nearest positions (cond b (a ∷ l) l))) (sym e) (found_later a k later e rest))

-- What comes next is the place of the least key, if there is one that may follow.
pub next_found
    : (positions down : List ℕ)
    → ((next_place positions down ≡ 680) × None (may_follow down) 0 680) ⊎ Least positions (may_follow down) 0 680
    (next_place positions down)
unfolding next_place
next_found positions down = found positions (may_follow down) 0 680 (omega arith)
