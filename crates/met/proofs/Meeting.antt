-- One key is met: found among those met before, added behind them, or one too many; and then others after it.
use Rattle.std.proofs.Common.{◌≡◌, ℕ, suc, ◌+◌, ◌<◌, ◌≤◌, Bool, true, false, cond, ◌||◌, List, [], ◌∷◌, ◌++◌, length, get_or, sym, refl, ap, ◌∙◌, append-nil, arith, length-append, eq-eqb}
use lib.ListN.{length-map, get_or-map}
use Rattle.basics.specs.Lists.{count_from, any_of}
use Rattle.basics.proofs.Booleans.{by_test}
use Rattle.basics.proofs.Counting.{count_length, count_at_lem}
use Rattle.basics.proofs.Filters.{any_join}
use Rattle.decision.specs.Key.{Key, same_key}
use Rattle.decision.specs.Graph.{new_ones}
use Rattle.decision.proofs.exploring.ExploreSteps.{meet_one}
use Rattle.met.specs.views.KeysMet.{key_number, meet, meet_all, key_at, count_in, keys_in, Chained}

-- A key whose number is below the count is met,
met_before : (keys : List Key) (key : Key) → key_number keys key < length keys → any_of (same_key key) keys ≡ true
met_before [] key h = absurd (let z : ⊥ = omega arith in z)
met_before (k ∷ keys) key h = go (same_key key k) (met_before keys key) h
  where
    go
        : (t : Bool) → (key_number keys key < length keys → any_of (same_key key) keys ≡ true)
        → cond t 0 (suc (key_number keys key)) < suc (length keys) → t || any_of (same_key key) keys ≡ true
    go true f h = refl
    go false f h = f (omega arith)

-- one whose number is not is new.
not_met_before : (keys : List Key) (key : Key) → length keys ≤ key_number keys key → any_of (same_key key) keys ≡ false
not_met_before [] key h = refl
not_met_before (k ∷ keys) key h = go (same_key key k) (not_met_before keys key) h
  where
    go
        : (t : Bool) → (length keys ≤ key_number keys key → any_of (same_key key) keys ≡ false)
        → suc (length keys) ≤ cond t 0 (suc (key_number keys key)) → t || any_of (same_key key) keys ≡ false
    go true f h = absurd (let z : ⊥ = omega arith in z)
    go false f h = f (omega arith)

-- A key's number is at most the number of keys.
number_most : (keys : List Key) (key : Key) → key_number keys key ≤ length keys
number_most [] key = omega arith
number_most (k ∷ keys) key = go (same_key key k) (number_most keys key)
  where
    go : (b : Bool) → key_number keys key ≤ length keys → cond b 0 (suc (key_number keys key)) ≤ suc (length keys)
    go true h = omega arith
    go false h = omega arith

module _ (t : List ℕ) where
  -- There are so many keys,
  pub keys_length : length (keys_in t) ≡ count_in t
  keys_length = length-map (count_from 0 (count_in t)) (key_at t) ∙ count_length 0 (count_in t)

  -- each at its number.
  pub key_at_lem : (k : ℕ) → k < count_in t → get_or (keys_in t) k (key_at t 0) ≡ key_at t k
  key_at_lem k h =
      let e : get_or (count_from 0 (count_in t)) k 0 ≡ k = omega (arith, count_at_lem 0 (count_in t) k h) in
      get_or-map (key_at t) (count_from 0 (count_in t)) k 0 ∙ ap (key_at t) e

  -- A key's number fits a wide field.
  pub number_few : Chained t → (key : Key) → key_number (keys_in t) key ≤ 1024
  number_few chained key = omega (arith, number_most (keys_in t) key, keys_length, chained.few)

  module _ (key : Key) {number : ℕ} (found : number ≡ key_number (keys_in t) key) where
    -- Where a key has a number below the count, nothing is added,
    pub meet_old : number < count_in t → keys_in t ≡ meet (keys_in t) key
    meet_old h =
        ap (λ (b : Bool). cond b (keys_in t) (keys_in t ++ key ∷ []))
        (sym (met_before (keys_in t) key (omega (arith, found, keys_length))))

    -- and where it has not, its number is the count, and it comes last,
    pub new_number_lem : count_in t ≤ number → key_number (keys_in t) key ≡ count_in t
    new_number_lem h = omega (arith, found, number_most (keys_in t) key, keys_length)

    pub meet_new : count_in t ≤ number → keys_in t ++ key ∷ [] ≡ meet (keys_in t) key
    meet_new h =
        ap (λ (b : Bool). cond b (keys_in t) (keys_in t ++ key ∷ []))
        (sym (not_met_before (keys_in t) key (omega (arith, found, keys_length))))

    -- so that there is one key more.
    pub meet_more : count_in t ≤ number → length (meet (keys_in t) key) ≡ count_in t + 1
    meet_more h = omega (arith, ap length (meet_new h), length-append (keys_in t) (key ∷ []), keys_length)

-- Keys are met one after another as they are when looked at one after another.
pub meet_all_lem : (next : Key → List Key) (keys ks : List Key) → meet_all keys ks ≡ keys ++ new_ones same_key keys ks
meet_all_lem next keys [] = sym (append-nil keys)
meet_all_lem next keys (k ∷ ks) = meet_all_lem next (meet keys k) ks ∙ sym (meet_one same_key next keys k ks)

-- What is met stays met.
pub meet_longer : (keys ks : List Key) → length keys ≤ length (meet_all keys ks)
meet_longer keys ks =
    let none : Key → List Key = λ k. [] in
    omega (arith, ap length (meet_all_lem none keys ks), length-append keys (new_ones same_key keys ks))

-- Some keys, then some others, are met as the joined list is.
pub meet_join : (keys ks ls : List Key) → meet_all keys (ks ++ ls) ≡ meet_all (meet_all keys ks) ls
meet_join keys [] ls = refl
meet_join keys (k ∷ ks) ls = meet_join (meet keys k) ks ls

-- A key that was met last may be met again.
pub meet_again : (keys : List Key) (key : Key) → meet (meet keys key) key ≡ meet keys key
meet_again keys key =
    let self : same_key key key ≡ true = rw (eq-eqb key.live key.live refl, eq-eqb key.pending key.pending refl) in
    by_test (any_of (same_key key) keys) (λ e. rw (e, e))
    (λ e.
    let last : any_of (same_key key) (keys ++ key ∷ []) ≡ true = any_join (same_key key) keys (key ∷ []) ∙ rw (e, self) in
    rw (e, last))
