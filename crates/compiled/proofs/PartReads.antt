-- The parts of place tests in the array of cuts: a part that is written is read back, and all others stay.
use Prim.Native.Nat.{ℕ, zero, suc, ◌+◌, ◌-◌, ◌*◌, ◌≤◌, ◌<◌}
use mathlib.Core.Path.{◌≡◌, refl, ap, ◌∙◌}
use mathlib.Core.List.{List, [], ◌∷◌, ◌++◌, map}
use mathlib.Core.Logic.{◌⊎◌, inl, inr, ⊎_elim}
use native.Mathlib.Omega.{arith}
use lib.ListN.{length, get_or, take, drop, length-map, get_or-append}
use lib.Seq.{length-take-le, get_or-take, get_or-drop, get_or-append-add, ext_get_or}
use Rattle.basics.specs.Lists.{count_from}
use Rattle.basics.proofs.Counting.{count_length}
use Rattle.records.specs.Writing.{splice}
use Rattle.cuts.specs.views.Cuts.{Cut, cut_with, count_at, cut_at, cuts_in, cut_words, part_words}
use Rattle.test_list.proofs.PutLists.{row_at}

-- What is spliced in stands there,
splice_in
    : (l : List ℕ) (at : ℕ) (w : List ℕ) (k j : ℕ) → at ≤ length l → k < length w → j ≡ at + k
    → get_or (splice l at w) j 0 ≡ get_or w k 0
splice_in l at w k j room h e =
    let rest = drop (at + length w) l in
    let spot : j ≡ length (take at l) + k = omega (arith, length-take-le at l room) in
    ap (λ (i : ℕ). get_or (splice l at w) i 0) spot
    ∙ get_or-append-add (take at l) (w ++ rest) k 0
    ∙ get_or-append w rest 0 k h

-- and all else stays.
splice_out
    : (l : List ℕ) (at : ℕ) (w : List ℕ) (k : ℕ) → at + length w ≤ length l → (k < at) ⊎ (at + length w ≤ k)
    → get_or (splice l at w) k 0 ≡ get_or l k 0
splice_out l at w k room (inl h) =
    let front = length-take-le at l (omega arith) in
    get_or-append (take at l) (w ++ drop (at + length w) l) 0 k (omega (arith, front)) ∙ get_or-take at l k 0 h
splice_out l at w k room (inr h) =
    let front = length-take-le at l (omega arith) in
    let rest = drop (at + length w) l in
    let m = k - (at + length w) in
    let spot : k ≡ length (take at l) + (length w + m) = omega (arith, front) in
    let back : at + length w + m ≡ k = omega arith in
    ap (λ (i : ℕ). get_or (splice l at w) i 0) spot
    ∙ get_or-append-add (take at l) (w ++ rest) (length w + m) 0
    ∙ get_or-append-add w rest m 0
    ∙ get_or-drop (at + length w) l m 0
    ∙ ap (λ (i : ℕ). get_or l i 0) back

abbrev no_cut : Cut
no_cut = cut_with 0 0

pub words_length : (xs : List Cut) → length (cut_words xs) ≡ 2 * length xs
words_length [] = refl
words_length (x ∷ xs) = omega (arith, words_length xs)

-- The words of cut k.
word_code : (xs : List Cut) (k : ℕ) → k < length xs → get_or (cut_words xs) (2 * k) 0 ≡ (get_or xs k no_cut).code
word_code [] k h = absurd (let z : ⊥ = omega arith in z)
word_code (x ∷ xs) zero h = refl
word_code (x ∷ xs) (suc k) h =
    let next : 2 * suc k ≡ suc (suc (2 * k)) = omega arith in
    ap (λ (i : ℕ). get_or (cut_words (x ∷ xs)) i 0) next ∙ word_code xs k (omega arith)

word_turns : (xs : List Cut) (k : ℕ) → k < length xs → get_or (cut_words xs) (suc (2 * k)) 0 ≡ (get_or xs k no_cut).turns
word_turns [] k h = absurd (let z : ⊥ = omega arith in z)
word_turns (x ∷ xs) zero h = refl
word_turns (x ∷ xs) (suc k) h =
    let next : suc (2 * suc k) ≡ suc (suc (suc (2 * k))) = omega arith in
    ap (λ (i : ℕ). get_or (cut_words (x ∷ xs)) i 0) next ∙ word_turns xs k (omega arith)

-- A part has as many cuts as it says.
pub cuts_count : (c : List ℕ) (from : ℕ) → length (cuts_in c from) ≡ count_at c from
cuts_count c from = length-map (count_from 0 (count_at c from)) (cut_at c from) ∙ count_length 0 (count_at c from)

-- A part that is written is read back.
pub part_read
    : (c : List ℕ) (from : ℕ) (xs : List Cut) → from + 1 + 2 * length xs ≤ length c
    → cuts_in (splice c from (part_words xs)) from ≡ xs
part_read c from xs room =
    ap (λ (n : ℕ). map (cut_at after from) (count_from 0 n)) count
    ∙ ext_get_or no_cut (map (cut_at after from) (count_from 0 (length xs))) xs many
    (λ k h.
    let inside : k < length xs = omega (arith, many) in
    row_at (cut_at after from) no_cut 0 (length xs) k inside ∙ (λ j. cut_with (code k inside j) (turns k inside j)))
  where
    after : List ℕ
    after = splice c from (part_words xs)

    count : count_at after from ≡ length xs
    count = splice_in c from (part_words xs) 0 from (omega arith) (omega arith) (omega arith)

    many : length (map (cut_at after from) (count_from 0 (length xs))) ≡ length xs
    many = length-map (count_from 0 (length xs)) (cut_at after from) ∙ count_length 0 (length xs)

    code : (k : ℕ) → k < length xs → get_or after (from + 1 + 2 * (0 + k)) 0 ≡ (get_or xs k no_cut).code
    code k h =
        splice_in c from (part_words xs) (suc (2 * k)) _ (omega arith) (omega (arith, words_length xs)) (omega arith)
        ∙ word_code xs k h

    turns : (k : ℕ) → k < length xs → get_or after (from + 2 + 2 * (0 + k)) 0 ≡ (get_or xs k no_cut).turns
    turns k h =
        splice_in c from (part_words xs) (suc (suc (2 * k))) _ (omega arith) (omega (arith, words_length xs)) (omega arith)
        ∙ word_turns xs k h

map_same
    : {B : Type 0} (f g : ℕ → B) (a n : ℕ) → ((k : ℕ) → a ≤ k → k < a + n → f k ≡ g k)
    → map f (count_from a n) ≡ map g (count_from a n)
map_same f g a zero h = refl
map_same f g a (suc n) h =
    λ j. h a (omega arith) (omega arith) j ∷ map_same f g (suc a) n (λ k l m. h k (omega arith) (omega arith)) j

-- The other parts stay.
pub part_other
    : (c : List ℕ) (from : ℕ) (xs : List Cut) (other : ℕ) → from + 1 + 2 * length xs ≤ length c
    → (other + 1 + 2 * count_at c other ≤ from) ⊎ (from + 1 + 2 * length xs ≤ other)
    → cuts_in (splice c from (part_words xs)) other ≡ cuts_in c other
part_other c from xs other room apart =
    ap (λ (n : ℕ). map (cut_at after other) (count_from 0 n)) (stays other (omega arith) (omega arith))
    ∙ map_same (cut_at after other) (cut_at c other) 0 (count_at c other)
    (λ k l h.
    let code = stays (other + 1 + 2 * k) (omega arith) (omega arith) in
    let turns = stays (other + 2 + 2 * k) (omega arith) (omega arith) in
    λ j. cut_with (code j) (turns j))
  where
    after : List ℕ
    after = splice c from (part_words xs)

    stays : (k : ℕ) → other ≤ k → k < other + 1 + 2 * count_at c other → get_or after k 0 ≡ get_or c k 0
    stays k l h =
        splice_out c from (part_words xs) k (omega (arith, words_length xs))
        (⊎_elim (λ (a : other + 1 + 2 * count_at c other ≤ from). inl (omega arith))
        (λ (a : from + 1 + 2 * length xs ≤ other). inr (omega (arith, words_length xs))) apart)
