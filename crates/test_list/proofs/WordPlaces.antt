-- The places of a set, word by word.
use Prim.Native.Nat.{ℕ, zero, suc, ◌+◌, ◌*◌, ◌/◌, ◌%◌, ◌-◌, ◌^◌, ◌≤◌, ◌<◌}
use mathlib.Core.Path.{◌≡◌, refl, sym, ap, ◌∙◌, subst}
use mathlib.Core.Bool.{Bool, true, false, cond}
use mathlib.Core.List.{List, [], ◌∷◌, ◌++◌, map, append-nil}
use native.Mathlib.Numerals.{add-one}
use native.Mathlib.Omega.{arith}
use lib.Dec.{T}
use lib.Bits.{bit_and}
use lib.Count.{count_trailing_zeros}
use lib.ListN.{length, get_or, take, set, length-set, length-append}
use lib.Seq.{take-suc-set, append_snoc}
use Rattle.masks.specs.Mask.{has, members}
use Rattle.masks.proofs.Members.{members_next, members_none}
use Rattle.masks.proofs.Operations.{and_fits}
use Rattle.basics.specs.Lists.{filter, count_from}
use Rattle.sheet_tests.specs.views.TestedPlaces.{has_place, places_in}
use Rattle.basics.proofs.Filters.{filter_join}
use Rattle.sheet_tests.proofs.PlaceSets.{places_below}
use Rattle.basics.proofs.Counting.{count_append}
use Rattle.masks.proofs.Listed.{cons_if, list_from}

-- Where a loop over the members of a word stands: k is the list as it was with count numbers, l as it is with n.
pub record Listing (word base : ℕ) (k : List ℕ) (count : ℕ) (l : List ℕ) (left n : ℕ) : Type 0 where
  pub fits : left < 2 ^ 64
  pub entries : length l ≡ 64
  pub number : n + length (members 64 left) ≡ count + length (members 64 word)
  pub whole : take n l ++ map (λ (j : ℕ). base + j) (members 64 left) ≡ take count k ++ map (λ (j : ℕ). base + j) (members 64 word)

-- At first none is listed.
pub Listing-start
    : (word base : ℕ) (k : List ℕ) (count : ℕ) → word < 2 ^ 64 → length k ≡ 64 → Listing word base k count k word count
Listing-start word base k count h e = record { fits = h; entries = e; number = refl; whole = refl }

module _ {word base : ℕ} {k : List ℕ} {count : ℕ} {l : List ℕ} {left n : ℕ} (s : Listing word base k count l left n) where
  next : 0 < left → members 64 left ≡ count_trailing_zeros 64 left ∷ members 64 (bit_and left (left - 1))
  next h = members_next 64 left s.fits h

  -- While members are left there is room.
  pub listing_room : 0 < left → count + length (members 64 word) ≤ 64 → n < 64
  listing_room h few = omega (arith, s.number, ap length (next h))

  -- A turn lists the lowest member left.
  pub listing_turn
      : 0 < left → n < 64
      → Listing word base k count (set l n (base + count_trailing_zeros 64 left)) (bit_and left (left - 1)) (n + 1)
  listing_turn h room = record {
    fits = and_fits 64 left (left - 1) s.fits;
    entries = length-set l n (base + first) ∙ s.entries;
    number = omega (arith, s.number, ap length (next h));
    whole = ap (λ (t : List ℕ). t ++ map (λ (j : ℕ). base + j) others) stored
        ∙ append_snoc (take n l) (base + first) (map (λ (j : ℕ). base + j) others)
        ∙ ap (λ (t : List ℕ). take n l ++ map (λ (j : ℕ). base + j) t) (sym (next h))
        ∙ s.whole;
  }
    where
      first : ℕ
      first = count_trailing_zeros 64 left

      others : List ℕ
      others = members 64 (bit_and left (left - 1))

      stored : take (n + 1) (set l n (base + first)) ≡ take n l ++ ((base + first) ∷ [])
      stored =
          ap (λ (j : ℕ). take j (set l n (base + first))) (add-one n)
          ∙ take-suc-set l n (base + first) (omega (arith, s.entries))

  -- At the end all are listed.
  pub listing_done
      : left ≡ 0 → take n l ≡ take count k ++ map (λ (j : ℕ). base + j) (members 64 word)
  listing_done e =
      sym (append-nil (take n l))
      ∙ ap (λ (t : List ℕ). take n l ++ map (λ (j : ℕ). base + j) t) (sym (members_none 64 left e))
      ∙ s.whole

  pub listing_number : left ≡ 0 → n ≡ count + length (members 64 word)
  listing_number e = omega (arith, s.number, ap length (members_none 64 left e))

-- Those of a row of numbers that pass a test, as numbers counted from c.
filter_shifted
    : (f g : ℕ → Bool) (c b k : ℕ) → ((j : ℕ) → b ≤ j → j < b + k → f (c + j) ≡ g j)
    → filter f (count_from (c + b) k) ≡ map (λ (j : ℕ). c + j) (list_from k b g)
filter_shifted f g c b zero h = refl
filter_shifted f g c b (suc k) h =
    go (f (c + b)) (g b) (h b (omega arith) (omega arith))
    (ap (λ (a : ℕ). filter f (count_from a k)) up ∙ filter_shifted f g c (suc b) k (λ j l m. h j (omega arith) (omega arith)))
  where
    up : suc (c + b) ≡ c + suc b
    up = omega arith

    go : (x y : Bool) → x ≡ y
        → filter f (count_from (suc (c + b)) k) ≡ map (λ (j : ℕ). c + j) (list_from k (suc b) g)
        → cond x ((c + b) ∷ filter f (count_from (suc (c + b)) k)) (filter f (count_from (suc (c + b)) k))
        ≡ map (λ (j : ℕ). c + j) (cons_if y b (list_from k (suc b) g))
    go true true e i = ap (λ (t : List ℕ). (c + b) ∷ t) i
    go true false e i = absurd (subst T e tt)
    go false true e i = absurd (subst T (sym e) tt)
    go false false e i = i

-- The places below those of word i.
abbrev pub places_to : List ℕ → ℕ → List ℕ
places_to words i = filter (has_place words) (count_from 0 (64 * i))

-- A word more lists its members.
pub places_word
    : (words : List ℕ) (i : ℕ)
    → places_to words i ++ map (λ (j : ℕ). 64 * i + j) (members 64 (get_or words i 0)) ≡ places_to words (i + 1)
unfolding members
places_word words i =
    let p = has_place words in
    let n = 64 * i in
    let e : 64 * (i + 1) ≡ n + 64 = omega arith in
    let shift : 0 + n ≡ n + 0 = omega arith in
    let quotient : (j : ℕ) → j < 64 → (n + j) / 64 ≡ i = λ j l. omega arith in
    let remainder : (j : ℕ) → j < 64 → (n + j) % 64 ≡ j = λ j l. omega arith in
    sym
    (ap (λ (m : ℕ). filter p (count_from 0 m)) e
    ∙ ap (filter p) (count_append 0 n 64)
    ∙ filter_join p (count_from 0 n) (count_from (0 + n) 64)
    ∙ ap (λ (a : ℕ). places_to words i ++ filter p (count_from a 64)) shift
    ∙ ap (λ (t : List ℕ). places_to words i ++ t)
    (filter_shifted p (has (get_or words i 0)) n 0 64
    (λ j h l. λ k. has (get_or words (quotient j (omega arith) k) 0) (remainder j (omega arith) k))))

-- No word has more places than all.
pub places_part : (words : List ℕ) (i : ℕ) → i ≤ length words → places_below words i ≤ length (places_in words)
unfolding places_in
places_part words i h =
    let p = has_place words in
    let rest = 64 * (length words - i) in
    let e : 64 * length words ≡ 64 * i + rest = omega arith in
    let split =
    ap (λ (m : ℕ). length (filter p (count_from 0 m))) e
    ∙ ap (λ (l : List ℕ). length (filter p l)) (count_append 0 (64 * i) rest)
    ∙ ap length (filter_join p (count_from 0 (64 * i)) (count_from (0 + 64 * i) rest))
    ∙ length-append (filter p (count_from 0 (64 * i))) (filter p (count_from (0 + 64 * i) rest)) in
    omega arith

-- All words list all places.
pub places_whole : (words : List ℕ) (i : ℕ) → i ≡ length words → places_to words i ≡ places_in words
unfolding places_in
places_whole words i e = ap (places_to words) e
