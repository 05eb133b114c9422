-- The search along a chain: a key that is there is on the chain of its hash.
use Rattle.std.proofs.Common.{◌≡◌, ℕ, zero, suc, ◌+◌, ◌-◌, ◌<◌, ◌≤◌, Bool, true, false, cond, eqb, List, length, get_or, replicate, sym, refl, ap, ◌∙◌, arith, eqb-true}
use mathlib.Core.Bool.{false≢true}
use mathlib.Core.Logic.{by_cases}
use native.Mathlib.Decide.{ℕ_discrete, dec_lt}
use lib.ListN.{length-replicate, get_or-replicate}
use borrow.Author.Tests.{eqb-false}
use Rattle.basics.proofs.Booleans.{by_test}
use Rattle.decision.specs.Key.{Key, same_key}
use Rattle.met.specs.views.KeysMet.{hash_of, key_at, count_in, keys_in, key_number, link_at, head_at, last_with, Chained}
use Rattle.met.proofs.Numbers.{same_equal, number_none, number_here}

module _ (at : ℕ → Key) (h : ℕ) where
  -- The last key with a hash is one of the first n,
  last_most : (n : ℕ) → last_with at h n ≤ n
  last_most zero = omega arith
  last_most (suc n) = go (eqb (hash_of (at n)) h) (last_most n)
    where
      go : (b : Bool) → last_with at h n ≤ n → cond b (suc n) (last_with at h n) ≤ suc n
      go true l = omega arith
      go false l = omega arith

  -- has the hash,
  last_hash : (n i : ℕ) → suc i ≡ last_with at h n → hash_of (at i) ≡ h
  last_hash zero i e = absurd (let z : ⊥ = omega arith in z)
  last_hash (suc n) i e = go (eqb (hash_of (at n)) h) refl (last_hash n i) e
    where
      go : (b : Bool) → eqb (hash_of (at n)) h ≡ b → (suc i ≡ last_with at h n → hash_of (at i) ≡ h)
          → suc i ≡ cond b (suc n) (last_with at h n) → hash_of (at i) ≡ h
      go true d rest s =
          let same : i ≡ n = omega arith in
          ap (λ (x : ℕ). hash_of (at x)) same ∙ eqb-true (hash_of (at n)) h d
      go false d rest s = rest s

  -- and none after it has.
  last_after : (n j : ℕ) → last_with at h n ≤ j → j < n → hash_of (at j) ≡ h → ⊥
  last_after zero j l k e = absurd (let z : ⊥ = omega arith in z)
  last_after (suc n) j l k e = go (eqb (hash_of (at n)) h) refl (last_after n j) l
    where
      go : (b : Bool) → eqb (hash_of (at n)) h ≡ b → (last_with at h n ≤ j → j < n → hash_of (at j) ≡ h → ⊥)
          → cond b (suc n) (last_with at h n) ≤ j → ⊥
      go true d rest s = let z : ⊥ = omega arith in z
      go false d rest s =
          by_cases (ℕ_discrete j n)
          (λ (q : j ≡ n). eqb-false (hash_of (at n)) h d (ap (λ (x : ℕ). hash_of (at x)) (sym q) ∙ e))
          (λ (q : ¬ (j ≡ n)). rest s (omega arith) e)

-- Where the search stands: the key before the place has the hash, and none from there on is the one that is looked for.
pub record Searching (t : List ℕ) (key : Key) (after : ℕ) : Type 0 where
  pub most : after ≤ count_in t
  pub same : (i : ℕ) → suc i ≡ after → hash_of (key_at t i) ≡ hash_of key
  pub passed : (j : ℕ) → after ≤ j → j < count_in t → same_key key (key_at t j) ≡ false

module _ (t : List ℕ) (key : Key) (c : Chained t) where
  -- One with another hash is another key.
  other_hash : (j : ℕ) → (hash_of (key_at t j) ≡ hash_of key → ⊥) → same_key key (key_at t j) ≡ false
  other_hash j d =
      by_test (same_key key (key_at t j)) (λ e. absurd (d (ap hash_of (sym (same_equal key (key_at t j) e))))) (λ e. e)

  -- The search begins with the head of the chain,
  pub search_starts : (after : ℕ) → after ≡ head_at t (hash_of key) → hash_of key < 1024 → Searching t key after
  search_starts after e l =
      let d = e ∙ c.heads (hash_of key) l in
      record {
        most = omega (arith, d, last_most (key_at t) (hash_of key) (count_in t));
        same = λ i s. last_hash (key_at t) (hash_of key) (count_in t) i (s ∙ d);
        passed = λ j m k. other_hash j (last_after (key_at t) (hash_of key) (count_in t) j (omega (arith, d)) k);
      }

  module _ (after : ℕ) (s : Searching t key after) (some : after ≡ 0 → ⊥) where
    abbrev i : ℕ
    i = after - 1

    one_less : suc i ≡ after
    one_less = omega arith

    -- goes on at another key
    pub search_on
        : same_key key (key_at t (after - 1)) ≡ false → (next : ℕ) → next ≡ link_at t (after - 1)
        → Searching t key next × (next < after)
    search_on n next e =
        let low : i < count_in t = omega (arith, one_less, s.most) in
        let h = s.same i one_less in
        let d = e ∙ c.links i low ∙ ap (λ (x : ℕ). last_with (key_at t) x i) h in
        let most = last_most (key_at t) (hash_of key) i in (
          record {
            most = omega (arith, d, most, low);
            same = λ k q. last_hash (key_at t) (hash_of key) i k (q ∙ d);
            passed = λ j m k.
                by_cases (dec_lt j i)
                (λ (b : j < i). other_hash j (last_after (key_at t) (hash_of key) i j (omega (arith, d)) b))
                (λ (b : ¬ (j < i)).
                by_cases (ℕ_discrete j i) (λ (q : j ≡ i). ap (λ (x : ℕ). same_key key (key_at t x)) q ∙ n)
                (λ (q : ¬ (j ≡ i)). s.passed j (omega (arith, one_less)) k));
          },
          omega (arith, d, most, one_less),
        )

    -- and is over at this one,
    pub search_here : same_key key (key_at t (after - 1)) ≡ true → after - 1 ≡ key_number (keys_in t) key
    search_here e =
        let low : i < count_in t = omega (arith, one_less, s.most) in
        let z : 0 + i ≡ i = omega arith in
        sym (number_here (key_at t) key 0 (count_in t) i low (ap (λ (x : ℕ). same_key key (key_at t x)) z ∙ e)
        (λ j g l.
        by_test (same_key key (key_at t j))
        (λ y.
        absurd (false≢true
        (sym (c.once j i (omega arith) low)
        ∙ ap (λ (k : Key). same_key k (key_at t i)) (sym (same_equal key (key_at t j) y))
        ∙ e)))
        (λ y. y)))

  -- or where no key is left.
  pub search_ends : (after : ℕ) → Searching t key after → after ≡ 0 → count_in t ≡ key_number (keys_in t) key
  search_ends after s e =
      sym (number_none (key_at t) key 0 (count_in t) (λ j g l. s.passed j (omega arith) (omega arith)))

-- An array of zeros has no key, and every chain is empty.
pub zeros_chained : {t : List ℕ} (n : ℕ) → n ≡ 4097 → t ≡ replicate n 0 → Chained t × (count_in t ≡ 0)
zeros_chained {t} n size e =
    let zeros : (i : ℕ) → i < 4097 → get_or t i 0 ≡ 0 =
    λ i h. ap (λ (l : List ℕ). get_or l i 0) e ∙ get_or-replicate n i 0 0 (omega arith) in
    let none : count_in t ≡ 0 = zeros 4096 (omega arith) in (
      record {
        size = ap length e ∙ length-replicate n 0 ∙ size;
        few = omega arith;
        heads = λ h l. zeros (3072 + h) (omega arith) ∙ sym (ap (last_with (key_at t) h) none);
        links = λ i l. absurd (let z : ⊥ = omega arith in z);
        once = λ i j l k. absurd (let z : ⊥ = omega arith in z);
      },
      none,
    )
