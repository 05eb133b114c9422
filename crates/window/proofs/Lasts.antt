-- The last of a list, and a ring that holds them.
use Rattle.std.proofs.Common.{◌≡◌, ℕ, zero, suc, ◌-◌, ◌<◌, ◌≤◌, List, [], ◌∷◌, ◌++◌, map, length, get_or, take, drop, set, sym, refl, ap, ◌∙◌, append_assoc, append-nil, arith, length-append, length-drop, length-take, drop-cons, take-suc-set, drop-set-lt}
use lib.Seq.{drop-append-le, take-length, drop-length}
use Rattle.window.specs.LastThousand.{last_of}
use Rattle.window.specs.views.CellsOf.{from_place}

module _ {A : Type 0} where
  -- One more at the end of a list.
  pub last_more : (n : ℕ) (xs : List A) (x : A) → last_of (suc n) (xs ++ (x ∷ [])) ≡ last_of n xs ++ (x ∷ [])
  unfolding last_of
  last_more n xs x =
      let e : length (xs ++ (x ∷ [])) - suc n ≡ length xs - n = simp length-append (omega arith) in
      ap (λ k. drop k (xs ++ (x ∷ []))) e ∙ drop-append-le (length xs - n) xs (x ∷ []) (omega arith)

  -- "All if fewer came".
  pub last_all : (n : ℕ) (xs : List A) → length xs ≤ n → last_of n xs ≡ xs
  unfolding last_of
  last_all n xs h =
      let e : length xs - n ≡ 0 = omega arith in
      ap (λ k. drop k xs) e

  pub last_length : (n : ℕ) (xs : List A) → n ≤ length xs → length (last_of n xs) ≡ n
  unfolding last_of
  last_length n xs h = length-drop (length xs - n) xs ∙ omega arith

  pub last_few : (n : ℕ) (xs : List A) → length (last_of n xs) ≤ n
  unfolding last_of
  last_few n xs = omega (arith, length-drop (length xs - n) xs)

  -- The oldest, and those after it.
  pub last_oldest : (n : ℕ) (xs : List A) (d : A) → n < length xs → last_of (suc n) xs ≡ get_or (last_of (suc n) xs) 0 d ∷ last_of n xs
  unfolding last_of
  last_oldest n xs d h =
      let from = length xs - suc n in
      let e : suc from ≡ length xs - n = omega arith in
      let f = drop-cons xs from d (omega arith) in
      f ∙ ap (λ l. get_or xs from d ∷ l) (ap (λ k. drop k xs) e) ∙ ap (λ a. a ∷ drop (length xs - n) xs) (sym (ap (λ l. get_or l 0 d) f))

  -- What is left of the ring's answers does not reach to the oldest.
  pub last_rest : (n : ℕ) (x : A) (xs : List A) → n ≤ length xs → last_of n xs ≡ last_of n (x ∷ xs)
  unfolding last_of
  last_rest n x xs h =
      let e : suc (length xs - n) ≡ suc (length xs) - n = omega arith in
      ap (λ k. drop k (x ∷ xs)) e

  -- The answer at the place is the first of the ring; one stored there becomes the last of it.
  pub place_first : (next : ℕ) (ring : List A) (d : A) → next < length ring
      → from_place next ring ≡ get_or ring next d ∷ (drop (suc next) ring ++ take next ring)
  unfolding from_place
  place_first next ring d h = ap (λ l. l ++ take next ring) (drop-cons ring next d h)

  pub place_stored : (next : ℕ) (ring : List A) (x : A) → next < length ring
      → from_place (suc next) (set ring next x) ≡ (drop (suc next) ring ++ take next ring) ++ (x ∷ [])
  unfolding from_place
  place_stored next ring x h =
      ap (λ l. l ++ take (suc next) (set ring next x)) (drop-set-lt (suc next) ring next x (omega arith))
      ∙ ap (λ l. drop (suc next) ring ++ l) (take-suc-set ring next x h)
      ∙ sym (append_assoc (drop (suc next) ring) (take next ring) (x ∷ []))

  -- The place after the last is the first.
  pub place_round : (ring : List A) → from_place (length ring) ring ≡ from_place 0 ring
  unfolding from_place
  place_round ring =
      ap (λ l. l ++ take (length ring) ring) (drop-length ring) ∙ take-length ring ∙ sym (append-nil ring)

  pub place_rest : (next : ℕ) (ring : List A) → next < length ring → suc (length (drop (suc next) ring ++ take next ring)) ≡ length ring
  place_rest next ring h = simp (length-append, length-drop, length-take) (omega arith)

-- A list read through f.
pub map_set : {A B : Type 0} (f : A → B) (xs : List A) (i : ℕ) (x : A) → map f (set xs i x) ≡ set (map f xs) i (f x)
map_set f [] i x = refl
map_set f (y ∷ ys) zero x = refl
map_set f (y ∷ ys) (suc i) x = ap (λ l. f y ∷ l) (map_set f ys i x)
