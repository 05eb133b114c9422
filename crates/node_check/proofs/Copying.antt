-- Records that are read and written again, one after another, at the position at which they were read. One law for rows of any
-- number of things.
use Prim.Native.Nat.{ℕ, suc, ◌+◌, ◌-◌, ◌<◌, ◌≤◌}
use mathlib.Core.Path.{◌≡◌, refl, sym, ap, subst, ◌∙◌}
use mathlib.Core.List.{List, [], ◌∷◌, ◌++◌}
use native.Mathlib.Omega.{arith}
use lib.ListN.{length, drop, length-drop, length-append}
use Rattle.records.specs.Fields.{IsByte}
use Rattle.records.specs.Reading.{Reading, took, refused, read_row}
use Rattle.records.specs.Writing.{splice}
use Rattle.records.proofs.Rows.{row_none}
use Rattle.records.proofs.Writing.{splice_none, splice_more, splice_length}
use Rattle.basics.specs.Lists.{All}
use Rattle.graph.specs.views.Rewriting.{IsTook, read_or}
use Rattle.graph.proofs.Spelling.{Spelled, begins_read, begins_length}
use Rattle.graph.proofs.RowsLeft.{row_there, others_left, first_others}
use Rattle.records.proofs.ByteLists.{bytes_drop}

-- How many bytes a reading took, and what was read where something was.
abbrev pub bytes_of : {A : Type 0} → Reading A → ℕ
bytes_of (took a x) = a
bytes_of (refused q) = 0

pub read_there : {A : Type 0} (r : Reading A) (other : A) → IsTook r → r ≡ took (bytes_of r) (read_or other r)
read_there (took a x) other h = refl
read_there (refused q) other h = absurd h

module _ {A : Type 0} (one : List ℕ → Reading A) (row : List A → List ℕ) (s : List ℕ) where
  -- The bytes of the n things from a position on.
  abbrev pub bytes_at : ℕ → ℕ → List ℕ
  bytes_at n at = row (read_or [] (read_row [] ◌∷◌ one n (drop at s)))

  -- Of count things from start on i were written, up to a position: the rest, written there, completes them.
  pub record PartCopied (start count : ℕ) (before buf : List ℕ) (at i : ℕ) : Type 0 where
    pub fewer : i ≤ count
    pub there : at ≤ length s
    pub fits : length s ≤ length buf
    pub left : IsTook (read_row [] ◌∷◌ one (count - i) (drop at s))
    pub size : start + length (bytes_at count start) ≡ at + length (bytes_at (count - i) at)
    pub whole : splice before start (bytes_at count start) ≡ splice buf at (bytes_at (count - i) at)

  -- Before the first nothing was written.
  pub copied_starts
      : (start count : ℕ) (buf : List ℕ) → start ≤ length s → length s ≤ length buf
      → IsTook (read_row [] ◌∷◌ one count (drop start s)) → PartCopied start count buf buf start 0
  copied_starts start count buf there fits left =
      let none : count ≡ count - 0 = omega arith in
      record {
        fewer = omega arith;
        there = there;
        fits = fits;
        left = subst (λ (n : ℕ). IsTook (read_row [] ◌∷◌ one n (drop start s))) none left;
        size = ap (λ (n : ℕ). start + length (bytes_at n start)) none;
        whole = ap (λ (n : ℕ). splice buf start (bytes_at n start)) none;
      }

module _
    {A : Type 0} (bytes : A → List ℕ) (Good : A → Type 0) (one : List ℕ → Reading A) (each : Spelled bytes Good one)
    (row : List A → List ℕ) (none : row [] ≡ []) (more : (x : A) (xs : List A) → row (x ∷ xs) ≡ bytes x ++ row xs)
    {s : List ℕ} (h : All IsByte s)
  where
    module _ {start count : ℕ} {before buf : List ℕ} {at i : ℕ} (c : PartCopied one row s start count before buf at i) where
      -- After the last all are written.
      pub copied_ends
          : count ≤ i → (at ≡ start + length (bytes_at one row s count start)) × (buf ≡ splice before start (bytes_at one row s count start))
      copied_ends done =
          let empty : bytes_at one row s (count - i) at ≡ [] =
          ap (λ r. row (read_or [] r)) (row_none [] ◌∷◌ one (count - i) (drop at s) (omega arith)) ∙ none in (
            omega (arith, c.size, ap length empty),
            splice_none buf at ∙ sym (c.whole ∙ ap (splice buf at) empty),
          )

      module _ (next : i < count) where
        one_more : count - i ≡ suc (count - (i + 1))
        one_more = omega arith

        -- The next thing is there to be read.
        pub copied_first : {q : ℕ} → one (drop at s) ≡ refused q → ⊥
        copied_first e = row_there one s (count - i) (count - (i + 1)) at one_more c.left e

        pub first_there : IsTook (one (drop at s))
        first_there = go (one (drop at s)) refl
          where
            go : (r : Reading A) → one (drop at s) ≡ r → IsTook r
            go (took a x) e = tt
            go (refused q) e = copied_first e

        module _ {a : ℕ} {x : A} (e : one (drop at s) ≡ took a x) where
          size_first : length (bytes x) ≡ a
          size_first = (begins_read bytes Good each (drop at s) (bytes_drop at s h) e).size

          inside : at + a ≤ length s
          inside =
              omega (arith, begins_length bytes Good (begins_read bytes Good each (drop at s) (bytes_drop at s h) e), length-drop at s, c.there)

          -- It fits the buffer.
          pub copied_fits : at + length (bytes x) ≤ length buf
          copied_fits = omega (arith, size_first, inside, c.fits)

          abbrev rest : Reading (List A)
          rest = read_row [] ◌∷◌ one (count - (i + 1)) (drop (at + a) s)

          rest_left : IsTook rest
          rest_left = others_left one s (count - i) (count - (i + 1)) at one_more c.left e

          first_more : bytes_at one row s (count - i) at ≡ bytes x ++ bytes_at one row s (count - (i + 1)) (at + a)
          first_more =
              ap row (first_others one s (count - i) (count - (i + 1)) at one_more c.left e) ∙ more x (read_or [] rest)

          -- One more is written.
          pub Copied-next
              : {buf' : List ℕ} {at' : ℕ} → at' ≡ at + length (bytes x) → buf' ≡ splice buf at (bytes x)
              → PartCopied one row s start count before buf' at' (i + 1)
          Copied-next {buf'} {at'} e-at e-buf =
              let here : at + a ≡ at' = sym (e-at ∙ ap (λ (n : ℕ). at + n) size_first) in
              let at_back = sym e-at in
              let buf-back = sym e-buf in
              let same : length buf' ≡ length buf = ap length e-buf ∙ splice_length buf at (bytes x) copied_fits in
              record {
                fewer = omega arith;
                there = omega (arith, inside);
                fits = omega (arith, c.fits);
                left = subst (λ (n : ℕ). IsTook (read_row [] ◌∷◌ one (count - (i + 1)) (drop n s))) here rest_left;
                size =
                    c.size
                    ∙ ap (λ (l : List ℕ). at + length l) first_more
                    ∙ ap (λ (n : ℕ). at + n) (length-append (bytes x) (bytes_at one row s (count - (i + 1)) (at + a)))
                    ∙ sum (length (bytes x)) (length (bytes_at one row s (count - (i + 1)) (at + a)))
                    ∙ (λ j. at_back j + length (bytes_at one row s (count - (i + 1)) (here j)));
                whole =
                    c.whole
                    ∙ ap (splice buf at) first_more
                    ∙ sym (splice_more buf at (bytes x) (bytes_at one row s (count - (i + 1)) (at + a)) copied_fits)
                    ∙ (λ j. splice (buf-back j) (at_back j) (bytes_at one row s (count - (i + 1)) (here j)));
              }
            where
              sum : (m n : ℕ) → at + (m + n) ≡ at + m + n
              sum m n = omega arith
