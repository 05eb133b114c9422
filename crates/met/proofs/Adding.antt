-- A key that is added goes behind the others and to the head of its chain, and the chains stay.
use Rattle.std.proofs.Common.{◌≡◌, ℕ, zero, suc, ◌+◌, ◌<◌, ◌≤◌, Bool, false, cond, eqb, List, [], ◌∷◌, ◌++◌, map, length, get_or, set, sym, refl, ap, ◌∙◌, arith, length-set, get_or-set_other, get_or-set_same, eq-eqb, ne_eqb}
use mathlib.Core.Logic.{by_cases}
use native.Mathlib.Decide.{ℕ_discrete}
use Rattle.basics.proofs.Booleans.{by_test}
use Rattle.basics.specs.Lists.{count_from}
use Rattle.basics.proofs.Counting.{count_append}
use Rattle.basics.proofs.Filters.{map_join}
use Rattle.decision.specs.Key.{Key, same_key}
use Rattle.edges.specs.views.VertexKey.{key_with}
use Rattle.met.specs.views.KeysMet.{hash_of, key_at, count_in, keys_in, key_number, link_at, head_at, last_with, Chained}
use Rattle.met.proofs.Numbers.{same_equal, number_all_lem}

-- Keys that agree have the same last one.
last_same
    : (f g : ℕ → Key) (h n : ℕ) → ((i : ℕ) → i < n → f i ≡ g i) → last_with f h n ≡ last_with g h n
last_same f g h zero same = refl
last_same f g h (suc n) same =
    ap (λ (k : Key). cond (eqb (hash_of k) h) (suc n) (last_with f h n)) (same n (omega arith))
    ∙ ap (λ (x : ℕ). cond (eqb (hash_of (g n)) h) (suc n) x) (last_same f g h n (λ i l. same i (omega arith)))

-- Keys that agree are listed alike.
map_same : (f g : ℕ → Key) (i n : ℕ) → ((j : ℕ) → j < i + n → f j ≡ g j) → map f (count_from i n) ≡ map g (count_from i n)
map_same f g i zero same = refl
map_same f g i (suc n) same =
    let first = same i (omega arith) in
    let rest = map_same f g (suc i) n (λ j l. same j (omega arith)) in
    λ j. first j ∷ rest j

-- The array with a key stored as number n, at the head of a chain.
abbrev pub stored : List ℕ → ℕ → ℕ → ℕ → ℕ → List ℕ
stored t n h live pending =
    set (set (set (set (set t n live) (1024 + n) pending) (2048 + n) (get_or t (3072 + h) 0)) (3072 + h) (n + 1)) 4096 (n + 1)

module _ (t : List ℕ) (n h live pending : ℕ) (size : length t ≡ 4097) (room : n < 1024) (fits : h < 1024) where
  abbrev t₁ : List ℕ
  t₁ = set t n live

  abbrev t₂ : List ℕ
  t₂ = set t₁ (1024 + n) pending

  abbrev t₃ : List ℕ
  t₃ = set t₂ (2048 + n) (get_or t (3072 + h) 0)

  abbrev t₄ : List ℕ
  t₄ = set t₃ (3072 + h) (n + 1)

  abbrev t₅ : List ℕ
  t₅ = stored t n h live pending

  long₁ : length t₁ ≡ 4097
  long₁ = length-set t n live ∙ size

  long₂ : length t₂ ≡ 4097
  long₂ = length-set t₁ (1024 + n) pending ∙ long₁

  long₃ : length t₃ ≡ 4097
  long₃ = length-set t₂ (2048 + n) (get_or t (3072 + h) 0) ∙ long₂

  long₄ : length t₄ ≡ 4097
  long₄ = length-set t₃ (3072 + h) (n + 1) ∙ long₃

  long₅ : length t₅ ≡ 4097
  long₅ = length-set t₄ 4096 (n + 1) ∙ long₄

  count_is_lem : count_in t₅ ≡ n + 1
  count_is_lem = get_or-set_same t₄ 4096 (n + 1) 0 (omega (arith, long₄))

  head_is : head_at t₅ h ≡ n + 1
  head_is =
      get_or-set_other t₄ 4096 (3072 + h) (n + 1) 0 (λ e. omega arith)
      ∙ get_or-set_same t₃ (3072 + h) (n + 1) 0 (omega (arith, long₃))

  -- What was read before the last two stores,
  late : (k : ℕ) → k < 3072 → get_or t₅ k 0 ≡ get_or t₃ k 0
  late k l =
      get_or-set_other t₄ 4096 k (n + 1) 0 (λ e. omega arith)
      ∙ get_or-set_other t₃ (3072 + h) k (n + 1) 0 (λ e. omega arith)

  link_is : link_at t₅ n ≡ head_at t h
  link_is = late (2048 + n) (omega arith) ∙ get_or-set_same t₂ (2048 + n) (get_or t (3072 + h) 0) 0 (omega (arith, long₂))

  -- and before the first.
  early : (k : ℕ) → (k ≡ n → ⊥) → (k ≡ 1024 + n → ⊥) → (k ≡ 2048 + n → ⊥) → get_or t₃ k 0 ≡ get_or t k 0
  early k a b c =
      get_or-set_other t₂ (2048 + n) k (get_or t (3072 + h) 0) 0 c
      ∙ get_or-set_other t₁ (1024 + n) k pending 0 b
      ∙ get_or-set_other t n k live 0 a

  head_stays : (g : ℕ) → g < 1024 → (g ≡ h → ⊥) → head_at t₅ g ≡ head_at t g
  head_stays g l d =
      get_or-set_other t₄ 4096 (3072 + g) (n + 1) 0 (λ e. omega arith)
      ∙ get_or-set_other t₃ (3072 + h) (3072 + g) (n + 1) 0 (λ e. d (omega arith))
      ∙ early (3072 + g) (λ e. omega arith) (λ e. omega arith) (λ e. omega arith)

  link_stays : (i : ℕ) → i < n → link_at t₅ i ≡ link_at t i
  link_stays i l =
      late (2048 + i) (omega arith) ∙ early (2048 + i) (λ e. omega arith) (λ e. omega arith) (λ e. omega arith)

  key_stays : (i : ℕ) → i < n → key_at t₅ i ≡ key_at t i
  key_stays i l =
      let first = late i (omega arith) ∙ early i (λ e. omega arith) (λ e. omega arith) (λ e. omega arith) in
      let second = late (1024 + i) (omega arith) ∙ early (1024 + i) (λ e. omega arith) (λ e. omega arith) (λ e. omega arith) in
      λ j. key_with (first j) (second j)

  key_is : key_at t₅ n ≡ key_with live pending
  key_is =
      let first : get_or t₅ n 0 ≡ live =
      late n (omega arith)
      ∙ get_or-set_other t₂ (2048 + n) n (get_or t (3072 + h) 0) 0 (λ e. omega arith)
      ∙ get_or-set_other t₁ (1024 + n) n pending 0 (λ e. omega arith)
      ∙ get_or-set_same t n live 0 (omega arith) in
      let second : get_or t₅ (1024 + n) 0 ≡ pending =
      late (1024 + n) (omega arith)
      ∙ get_or-set_other t₂ (2048 + n) (1024 + n) (get_or t (3072 + h) 0) 0 (λ e. omega arith)
      ∙ get_or-set_same t₁ (1024 + n) pending 0 (omega (arith, long₁)) in
      λ j. key_with (first j) (second j)

  module _ (c : Chained t) (count : n ≡ count_in t) (hash : h ≡ hash_of (key_with live pending)) where
    -- The key is added.
    pub keys_added : keys_in t₅ ≡ keys_in t ++ key_with live pending ∷ []
    keys_added =
        let end : 0 + n ≡ n = omega arith in
        let same = map_same (key_at t₅) (key_at t) 0 n (λ j l. key_stays j (omega arith)) in
        ap (λ (k : ℕ). map (key_at t₅) (count_from 0 k)) count_is_lem
        ∙ ap (map (key_at t₅)) (count_append 0 n 1 ∙ ap (λ (k : ℕ). count_from 0 n ++ k ∷ []) end)
        ∙ map_join (key_at t₅) (count_from 0 n) (n ∷ [])
        ∙ (λ j. same j ++ key_is j ∷ [])
        ∙ ap (λ (k : ℕ). map (key_at t) (count_from 0 k) ++ key_with live pending ∷ []) count

    last_kept : (g m : ℕ) → m ≤ n → last_with (key_at t) g m ≡ last_with (key_at t₅) g m
    last_kept g m l = last_same (key_at t) (key_at t₅) g m (λ i k. sym (key_stays i (omega arith)))

    hash_new : hash_of (key_at t₅ n) ≡ h
    hash_new = ap hash_of key_is ∙ sym hash

    -- The last one with a hash, now that there is one key more.
    last_more : (g : ℕ) → last_with (key_at t₅) g (count_in t₅) ≡ cond (eqb h g) (n + 1) (last_with (key_at t) g (count_in t))
    last_more g =
        let e : n + 1 ≡ suc n = omega arith in
        ap (last_with (key_at t₅) g) (count_is_lem ∙ e)
        ∙ ap (λ (x : ℕ). cond (eqb x g) (suc n) (last_with (key_at t₅) g n)) hash_new
        ∙ ap (λ (x : ℕ). cond (eqb h g) (suc n) x) (sym (last_kept g n (omega arith)) ∙ ap (last_with (key_at t) g) count)
        ∙ ap (λ (x : ℕ). cond (eqb h g) x (last_with (key_at t) g (count_in t))) (sym e)

    heads : (g : ℕ) → g < 1024 → head_at t₅ g ≡ last_with (key_at t₅) g (count_in t₅)
    heads g l =
        by_cases (ℕ_discrete g h)
        (λ (d : g ≡ h).
        ap (head_at t₅) d
        ∙ head_is
        ∙ ap (λ (b : Bool). cond b (n + 1) (last_with (key_at t) g (count_in t))) (sym (eq-eqb h g (sym d)))
        ∙ sym (last_more g))
        (λ (d : ¬ (g ≡ h)).
        head_stays g l d
        ∙ c.heads g l
        ∙ ap (λ (b : Bool). cond b (n + 1) (last_with (key_at t) g (count_in t))) (sym (ne_eqb h g (λ e. d (sym e))))
        ∙ sym (last_more g))

    links : (i : ℕ) → i < count_in t₅ → link_at t₅ i ≡ last_with (key_at t₅) (hash_of (key_at t₅ i)) i
    links i l =
        let below : i < n + 1 = omega (arith, count_is_lem) in
        by_cases (ℕ_discrete i n)
        (λ (d : i ≡ n).
        ap (link_at t₅) d
        ∙ link_is
        ∙ c.heads h fits
        ∙ ap (last_with (key_at t) h) (sym count)
        ∙ last_kept h n (omega arith)
        ∙ ap (λ (g : ℕ). last_with (key_at t₅) g n) (sym hash_new)
        ∙ ap (λ (x : ℕ). last_with (key_at t₅) (hash_of (key_at t₅ x)) x) (sym d))
        (λ (d : ¬ (i ≡ n)).
        let low : i < n = omega arith in
        link_stays i low
        ∙ c.links i (omega arith)
        ∙ last_kept (hash_of (key_at t i)) i (omega arith)
        ∙ ap (λ (k : Key). last_with (key_at t₅) (hash_of k) i) (sym (key_stays i low)))

    -- and every key is on its chain, once, if it was not there.
    pub chained_added : key_number (keys_in t) (key_with live pending) ≡ count_in t → Chained t₅
    chained_added new = record {
      size = long₅;
      few = omega (arith, count_is_lem);
      heads = heads;
      links = links;
      once = once;
    }
      where
        once : (i j : ℕ) → i < j → j < count_in t₅ → same_key (key_at t₅ i) (key_at t₅ j) ≡ false
        once i j l k =
            let below : j < n + 1 = omega (arith, count_is_lem) in
            by_cases (ℕ_discrete j n)
            (λ (d : j ≡ n).
            let low : i < n = omega arith in
            ap (λ (x : ℕ). same_key (key_at t₅ i) (key_at t₅ x)) d
            ∙ (λ x. same_key (key_stays i low x) (key_is x))
            ∙ by_test (same_key (key_at t i) (key_with live pending))
            (λ y.
            let old = number_all_lem (key_at t) (key_with live pending) 0 (count_in t) new i (omega arith) (omega arith) in
            let same = same_equal (key_at t i) (key_with live pending) y in
            ap (λ (x : Key). same_key (key_at t i) x) (sym same) ∙ ap (λ (x : Key). same_key x (key_at t i)) same ∙ old)
            (λ y. y))
            (λ (d : ¬ (j ≡ n)).
            let low : j < n = omega arith in
            (λ x. same_key (key_stays i (omega arith) x) (key_stays j low x)) ∙ c.once i j l (omega arith))
