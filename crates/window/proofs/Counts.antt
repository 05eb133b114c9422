-- How many of a list are such.
use Rattle.std.proofs.Common.{◌≡◌, ℕ, zero, suc, ◌+◌, ◌≤◌, Bool, true, false, cond, List, [], ◌∷◌, ◌++◌, length, drop, sym, refl, ap, ◌∙◌, arith}
use Rattle.basics.specs.Lists.{All, filter}
use Rattle.window.specs.LastThousand.{count_of}

-- 1 for one that is such, else 0.
abbrev pub one : Bool → ℕ
one b = cond b 1 0

module _ {A : Type 0} where
  module _ (such : A → Bool) where
    by_test : (x : A) (xs : List A) (b : Bool) → length (cond b (x ∷ xs) xs) ≡ one b + length xs
    by_test x xs true = omega arith
    by_test x xs false = omega arith

    pub count_cons : (x : A) (xs : List A) → count_of such (x ∷ xs) ≡ one (such x) + count_of such xs
    unfolding count_of
    count_cons x xs = by_test x (filter such xs) (such x)

    pub count_more : (xs : List A) (x : A) → count_of such (xs ++ (x ∷ [])) ≡ count_of such xs + one (such x)
    count_more [] x = omega (arith, count_cons x [])
    count_more (y ∷ ys) x = omega (arith, count_cons y (ys ++ (x ∷ [])), count_cons y ys, count_more ys x)

    pub one_few : (b : Bool) → one b ≤ 1
    one_few true = omega arith
    one_few false = omega arith

    pub count_none : count_of such [] ≡ 0
    unfolding count_of
    count_none = refl

    pub count_few : (xs : List A) → count_of such xs ≤ length xs
    count_few [] = omega (arith, count_none)
    count_few (x ∷ xs) = omega (arith, count_cons x xs, one_few (such x), count_few xs)

  pub count_same : (p q : A → Bool) (xs : List A) → All (λ x. p x ≡ q x) xs → count_of p xs ≡ count_of q xs
  count_same p q [] h = count_none p ∙ sym (count_none q)
  count_same p q (x ∷ xs) h =
      omega (arith, count_cons p x xs, count_cons q x xs, count_same p q xs h.1, ap one h.0)

  pub count_zero : (such : A → Bool) (xs : List A) → All (λ x. such x ≡ false) xs → count_of such xs ≡ 0
  count_zero such [] h = count_none such
  count_zero such (x ∷ xs) h = omega (arith, count_cons such x xs, count_zero such xs h.1, ap one h.0)

  -- What holds of all of a list holds of its end, and of it with one more.
  pub all_drop : (Q : A → Type 0) (n : ℕ) (xs : List A) → All Q xs → All Q (drop n xs)
  all_drop Q zero xs h = h
  all_drop Q (suc n) [] h = h
  all_drop Q (suc n) (x ∷ xs) h = all_drop Q n xs h.1

  pub all_more : (Q : A → Type 0) (xs : List A) {x : A} → All Q xs → Q x → All Q (xs ++ (x ∷ []))
  all_more Q [] h q = (q, tt)
  all_more Q (y ∷ ys) h q = (h.0, all_more Q ys h.1 q)

  pub all_map : {Q R : A → Type 0} → ((x : A) → Q x → R x) → (xs : List A) → All Q xs → All R xs
  all_map f [] h = tt
  all_map f (x ∷ xs) h = (f x h.0, all_map f xs h.1)
