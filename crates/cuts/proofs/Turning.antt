-- One cut more among those of a part: what is written is the words of the cuts with it.
use Prim.Native.Nat.{ℕ, zero, suc, ◌+◌, ◌*◌, ◌-◌, ◌≤◌, ◌<◌}
use mathlib.Core.Path.{◌≡◌, refl, sym, ap, ◌∙◌}
use mathlib.Core.List.{List, [], ◌∷◌, ◌++◌, map}
use mathlib.Core.Logic.{⊎_elim}
use native.Mathlib.Omega.{arith}
use lib.Bits.{bit_xor}
use lib.ListN.{length, get_or, set, length-append, length-map}
use lib.Seq.{slice, slice_empty, slice-cons}
use borrow.Author.Tests.{lt-ltb, le-ltb}
use Rattle.basics.specs.Lists.{count_from}
use Rattle.basics.proofs.Counting.{count_append, count_length}
use Rattle.basics.proofs.Filters.{map_join}
use Rattle.basics.proofs.Numbers.{le_or_lt}
use Rattle.records.specs.Writing.{splice}
use Rattle.cuts.specs.views.Cuts.{Cut, cut_with, cut_at, count_at, cuts_in, cut_words, part_words, toggle, Spot}
use Rattle.cuts.proofs.Splices.{splice_before, splice_here, splice_one, splice_known, splice_behind}
use Rattle.cuts.proofs.Cutting.{cuts_from, cuts_next, cuts_done}

-- The words of cuts in a row, and their number.
pub words_join : (xs ys : List Cut) → cut_words (xs ++ ys) ≡ cut_words xs ++ cut_words ys
words_join [] ys = refl
words_join (x ∷ xs) ys = ap (λ (l : List ℕ). x.code ∷ x.turns ∷ l) (words_join xs ys)

module _ (c : List ℕ) (from : ℕ) where
  -- Cuts in a part are the words there.
  pub words_are
      : (a m : ℕ) → from + 1 + 2 * (a + m) ≤ length c
      → cut_words (map (cut_at c from) (count_from a m)) ≡ slice (from + 1 + 2 * a) (from + 1 + 2 * (a + m)) c
  words_are a zero h =
      let e : 2 * a ≡ 2 * (a + 0) = omega arith in
      sym (slice_empty (from + 1 + 2 * a) c) ∙ ap (λ (n : ℕ). slice (from + 1 + 2 * a) (from + 1 + n) c) e
  words_are a (suc m) h =
      let to = from + 1 + 2 * (a + suc m) in
      let i = from + 1 + 2 * a in
      let one : suc i ≡ from + 2 + 2 * a = omega arith in
      let two : suc (from + 2 + 2 * a) ≡ from + 1 + 2 * suc a = omega arith in
      let end : from + 1 + 2 * (suc a + m) ≡ to = omega arith in
      let rest : cut_words (map (cut_at c from) (count_from (suc a) m)) ≡ slice (from + 1 + 2 * suc a) to c =
      words_are (suc a) m (omega arith) ∙ ap (λ (n : ℕ). slice (from + 1 + 2 * suc a) n c) end in
      ap (λ (l : List ℕ). get_or c i 0 ∷ get_or c (from + 2 + 2 * a) 0 ∷ l) rest
      ∙ sym
      (slice-cons i to c 0 (omega arith) h
      ∙ ap (λ (n : ℕ). get_or c i 0 ∷ slice n to c) one
      ∙ ap (λ (l : List ℕ). get_or c i 0 ∷ l)
      (slice-cons (from + 2 + 2 * a) to c 0 (omega arith) h
      ∙ ap (λ (n : ℕ). get_or c (from + 2 + 2 * a) 0 ∷ slice n to c) two))

  -- The cuts before the k-th, and those from there on.
  cuts_split
      : (count k : ℕ) → k ≤ count
      → map (cut_at c from) (count_from 0 count) ≡ map (cut_at c from) (count_from 0 k) ++ cuts_from c from count k
  cuts_split count k h =
      let e : count ≡ k + (count - k) = omega arith in
      let none : 0 + k ≡ k = omega arith in
      ap (λ (n : ℕ). map (cut_at c from) (count_from 0 n)) e
      ∙ ap (map (cut_at c from)) (count_append 0 k (count - k))
      ∙ ap (λ (n : ℕ). map (cut_at c from) (count_from 0 k ++ count_from n (count - k))) none
      ∙ map_join (cut_at c from) (count_from 0 k) (count_from k (count - k))

  module _ (code bit : ℕ) where
    -- Cuts below the code stay before it.
    toggle_past
        : (m a : ℕ) (ys : List Cut) → ((j : ℕ) → j < a + m → (cut_at c from j).code < code)
        → toggle code bit (map (cut_at c from) (count_from a m) ++ ys) ≡ map (cut_at c from) (count_from a m) ++ toggle code bit ys
    toggle_past zero a ys h = refl
    toggle_past (suc m) a ys h =
        rw (lt-ltb (cut_at c from a).code code (h a (omega arith)))
        (ap (λ (l : List Cut). cut_at c from a ∷ l) (toggle_past m (suc a) ys (λ j l. h j (omega arith))))

    module _ (k : ℕ) (spot : Spot c from (count_at c from) code k) where
      abbrev count : ℕ
      count = count_at c from

      abbrev before : List Cut
      before = map (cut_at c from) (count_from 0 k)

      split : toggle code bit (cuts_in c from) ≡ before ++ toggle code bit (cuts_from c from count k)
      split =
          ap (toggle code bit) (cuts_split count k spot.within)
          ∙ toggle_past k 0 (cuts_from c from count k) (λ j h. spot.passed j (omega arith))

      -- No cut is at the code: there is one more.
      toggle_new
          : (k < count → (cut_at c from k).code ≡ code → ⊥)
          → toggle code bit (cuts_in c from) ≡ before ++ (cut_with code bit ∷ cuts_from c from count k)
      toggle_new missing =
          split
          ∙ ap (λ (l : List Cut). before ++ l)
          (⊎_elim
          (λ (h : count ≤ k).
          rw (cuts_done c from count k h))
          (λ (h : k < count).
          let r = spot.reached h in
          let m = missing h in
          rw (
            cuts_next c from count k h,
            le-ltb (cut_at c from k).code code r,
            lt-ltb code (cut_at c from k).code (omega arith),
          ))
          (le_or_lt count k))

      -- A cut is there: more rules turn.
      toggle_there
          : k < count → (cut_at c from k).code ≡ code
          → toggle code bit (cuts_in c from)
          ≡ before ++ (cut_with (cut_at c from k).code (bit_xor (cut_at c from k).turns bit) ∷ cuts_from c from count (k + 1))
      toggle_there h e =
          split
          ∙ ap (λ (l : List Cut). before ++ l)
          (rw (
            cuts_next c from count k h,
            le-ltb code (cut_at c from k).code (omega arith),
            le-ltb (cut_at c from k).code code (omega arith),
          ))

      module _ (room : from + 3 + 2 * count ≤ length c) where
        abbrev at : ℕ
        at = from + 1 + 2 * k

        abbrev end : ℕ
        end = from + 1 + 2 * count

        -- The words of the cuts before the k-th, of those from a later one on, and of all with a cut between them.
        words_before : cut_words before ≡ slice (from + 1) at c
        words_before =
            let w = spot.within in
            let start : from + 1 + 2 * 0 ≡ from + 1 = omega arith in
            let stop : from + 1 + 2 * (0 + k) ≡ at = omega arith in
            words_are 0 k (omega arith)
            ∙ ap (λ (n : ℕ). slice n (from + 1 + 2 * (0 + k)) c) start
            ∙ ap (λ (n : ℕ). slice (from + 1) n c) stop

        words_from : (j : ℕ) → j ≤ count → cut_words (cuts_from c from count j) ≡ slice (from + 1 + 2 * j) end c
        words_from j h =
            let stop : from + 1 + 2 * (j + (count - j)) ≡ end = omega arith in
            words_are j (count - j) (omega arith) ∙ ap (λ (n : ℕ). slice (from + 1 + 2 * j) n c) stop

        words_with
            : (x : Cut) (j m : ℕ) → j ≤ count → k + suc (count - j) ≡ m
            → part_words (before ++ (x ∷ cuts_from c from count j))
            ≡ m ∷ (slice (from + 1) at c ++ (x.code ∷ x.turns ∷ slice (from + 1 + 2 * j) end c))
        words_with x j m h e =
            let rest = cuts_from c from count j in
            let sized : (a n : ℕ) → length (map (cut_at c from) (count_from a n)) ≡ n =
            λ a n. length-map (count_from a n) (cut_at c from) ∙ count_length a n in
            let many : length (before ++ (x ∷ rest)) ≡ m =
            omega (arith, length-append before (x ∷ rest), sized 0 k, sized j (count - j)) in
            let words
            : cut_words (before ++ (x ∷ rest))
            ≡ slice (from + 1) at c ++ (x.code ∷ x.turns ∷ slice (from + 1 + 2 * j) end c) =
            words_join before (x ∷ rest)
            ∙ ap (λ (l : List ℕ). l ++ cut_words (x ∷ rest)) words_before
            ∙ ap (λ (l : List ℕ). slice (from + 1) at c ++ (x.code ∷ x.turns ∷ l)) (words_from j h) in
            ap (λ (n : ℕ). n ∷ cut_words (before ++ (x ∷ rest))) many ∙ ap (λ (l : List ℕ). m ∷ l) words

        pub turn_new
            : (k < count → (cut_at c from k).code ≡ code → ⊥)
            → set (set (set (splice c (at + 2) (slice at end c)) (at + 1) bit) at code) from (count + 1)
            ≡ splice c from (part_words (toggle code bit (cuts_in c from)))
        turn_new missing =
            let w = spot.within in
            let rest = slice at end c in
            let two : at + 2 ≡ at + 1 + 1 = omega arith in
            let more : k + suc (count - k) ≡ count + 1 = omega arith in
            ap (λ (n : ℕ). set (set (set (splice c n rest) (at + 1) bit) at code) from (count + 1)) two
            ∙ ap (λ (l : List ℕ). set (set l at code) from (count + 1)) (splice_before c rest (at + 1) bit (omega arith))
            ∙ ap (λ (l : List ℕ). set l from (count + 1))
            (splice_before c (bit ∷ rest) at code (omega arith)
            ∙ splice_known c (code ∷ bit ∷ rest) (from + 1) at (omega arith) (omega arith))
            ∙ splice_before c (slice (from + 1) at c ++ (code ∷ bit ∷ rest)) from (count + 1) (omega arith)
            ∙ ap (splice c from) (sym (ap part_words (toggle_new missing) ∙ words_with (cut_with code bit) k (count + 1) w more))

        pub turn_there
            : k < count → (cut_at c from k).code ≡ code
            → set c (at + 1) (bit_xor (get_or c (at + 1) 0) bit) ≡ splice c from (part_words (toggle code bit (cuts_in c from)))
        turn_there h e =
            let w = spot.within in
            let rest = slice (from + 1 + 2 * (k + 1)) end c in
            let here : at + 1 ≡ from + 2 + 2 * k = omega arith in
            let next : at + 1 + 1 ≡ from + 1 + 2 * (k + 1) = omega arith in
            let same : k + suc (count - (k + 1)) ≡ count = omega arith in
            let new = bit_xor (cut_at c from k).turns bit in
            ap (λ (n : ℕ). set c (at + 1) (bit_xor (get_or c n 0) bit)) here
            ∙ splice_one c (at + 1) new (omega arith)
            ∙ splice_behind c (new ∷ []) (at + 1) end (omega arith) (omega arith)
            ∙ ap (λ (n : ℕ). splice c (at + 1) (new ∷ slice n end c)) next
            ∙ splice_here c (new ∷ rest) at (omega arith)
            ∙ splice_known c ((cut_at c from k).code ∷ new ∷ rest) (from + 1) at (omega arith) (omega arith)
            ∙ splice_here c (slice (from + 1) at c ++ ((cut_at c from k).code ∷ new ∷ rest)) from (omega arith)
            ∙ ap (splice c from)
            (sym
            (ap part_words (toggle_there h e)
            ∙ words_with (cut_with (cut_at c from k).code new) (k + 1) count (omega arith) same))
