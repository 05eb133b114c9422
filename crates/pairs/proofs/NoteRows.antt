-- Loops over the notes in an array: the notes from i on are the one at i and those from i + 1 on.
use Prim.Native.Nat.{ℕ, zero, suc, ◌+◌, ◌-◌, ◌≤◌, ◌<◌}
use mathlib.Core.Path.{◌≡◌, sym, ap, ◌∙◌, subst}
use mathlib.Core.List.{List, [], ◌∷◌, map}
use native.Mathlib.Numerals.{add-one}
use native.Mathlib.Omega.{arith}
use lib.ListN.{length, get_or, take, drop, length-map, drop_of_length-le, get_or-map}
use lib.Seq.{length-take-le, drop-cons, get_or-take, take_all}
use Rattle.std.proofs.lemmas.List.{drop-take, drop-map}
use Rattle.basics.specs.Lists.{All}
use Rattle.patterns.specs.views.Note.{Note}
use Rattle.patterns.specs.views.NoteCode.{note_of}
use Rattle.sheet.specs.views.NoteArray.{notes_in}

module _ (codes : List ℕ) (n : ℕ) (within : n ≤ length codes) where
  notes_length : length (notes_in codes n) ≡ n
  unfolding notes_in
  notes_length = length-map (take n codes) note_of ∙ length-take-le n codes within

  note_at : (i : ℕ) (d : ℕ) → i < n → get_or (notes_in codes n) i (note_of d) ≡ note_of (get_or codes i d)
  unfolding notes_in
  note_at i d h = get_or-map note_of (take n codes) i d ∙ ap note_of (get_or-take n codes i d h)

  -- The notes from i on.
  pub notes_next : (i : ℕ) → i < n → drop i (notes_in codes n) ≡ note_of (get_or codes i 0) ∷ drop (i + 1) (notes_in codes n)
  notes_next i h =
      drop-cons (notes_in codes n) i (note_of 0) (omega (arith, notes_length))
      ∙ ap (λ (j : ℕ). get_or (notes_in codes n) i (note_of 0) ∷ drop j (notes_in codes n)) (sym (add-one i))
      ∙ ap (λ (x : Note). x ∷ drop (i + 1) (notes_in codes n)) (note_at i 0 h)

  -- There are none from n on.
  pub notes_end : (i : ℕ) → n ≤ i → drop i (notes_in codes n) ≡ []
  notes_end i h = drop_of_length-le (notes_in codes n) {i = i} (omega (arith, notes_length))

  -- They are the notes of the rest of the array,
  pub notes_later
      : (i : ℕ) → i ≤ n → notes_in (take (n - i) (drop i codes)) (length (take (n - i) (drop i codes))) ≡ drop i (notes_in codes n)
  unfolding notes_in
  notes_later i h =
      let rest = take (n - i) (drop i codes) in
      let all : i + (n - i) ≡ n = omega arith in
      ap (map note_of)
      (take_all (length rest) rest (omega arith)
      ∙ sym (drop-take i (n - i) codes)
      ∙ ap (λ (k : ℕ). drop i (take k codes)) all)
      ∙ sym (drop-map note_of i (take n codes))

  -- and what holds of each note holds of them and of the one at i.
  pub notes_all : (Q : Note → Type 0) (i : ℕ) → All Q (notes_in codes n) → All Q (drop i (notes_in codes n))
  notes_all Q i h = all_drop i (notes_in codes n) h
    where
      all_drop : (j : ℕ) (ns : List Note) → All Q ns → All Q (drop j ns)
      all_drop zero ns k = k
      all_drop (suc j) [] k = k
      all_drop (suc j) (x ∷ ns) k = all_drop j ns k.1

  pub notes_each : (Q : Note → Type 0) (i : ℕ) → All Q (notes_in codes n) → i < n → Q (note_of (get_or codes i 0))
  notes_each Q i h l = (subst (All Q) (notes_next i l) (notes_all Q i h)).0
