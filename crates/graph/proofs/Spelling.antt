-- Readers and writers that fit together: reading what was written brings back the same thing, and what was read from bytes
-- and is written again is those bytes. One law for rows of any number of things.
use Prim.Native.Nat.{ℕ, zero, suc, ◌+◌}
use mathlib.Core.Path.{◌≡◌, refl, sym, ap, ap₂, subst, ◌∙◌}
use mathlib.Core.List.{List, [], ◌∷◌, ◌++◌, append_assoc}
use lib.ListN.{length, drop, length-append}
use lib.Seq.{drop-append_seam, drop-drop}
use Rattle.records.specs.Fields.{IsByte}
use Rattle.records.specs.Reading.{Reading, took, refused, after, and_then, read_row}
use Rattle.records.proofs.Rows.{row_split}
use Rattle.basics.specs.Lists.{All}
use Rattle.records.proofs.ByteLists.{bytes_drop}

module _ {A : Type 0} (bytes : A → List ℕ) (Good : A → Type 0) where
  -- s begins with the a bytes of the good thing x.
  pub record Begins (s : List ℕ) (a : ℕ) (x : A) : Type 0 where
    pub good : Good x
    pub size : length (bytes x) ≡ a
    pub begins : s ≡ bytes x ++ drop a s

  -- If anything was read from s, then s begins with it.
  abbrev pub Reads : List ℕ → Reading A → Type 0
  Reads s (took a x) = Begins s a x
  Reads s (refused q) = Unit

  -- The reader brings back what is written, whatever follows it, and reads nothing else.
  pub record Spelled (one : List ℕ → Reading A) : Type 0 where
    pub brought : (x : A) (rest : List ℕ) → Good x → one (bytes x ++ rest) ≡ took (length (bytes x)) x
    pub read : (s : List ℕ) → All IsByte s → Reads s (one s)

  -- What was read stands at the front.
  pub begins_read
      : {one : List ℕ → Reading A} → Spelled one → (s : List ℕ) → All IsByte s → {a : ℕ} {x : A} → one s ≡ took a x
      → Begins s a x
  begins_read spelled s h e = subst (Reads s) e (spelled.read s h)

  module _ {s : List ℕ} {a : ℕ} {x : A} (b : Begins s a x) where
    -- The bytes that were read and those that are left are all.
    pub begins_length : length s ≡ a + length (drop a s)
    begins_length = ap length b.begins ∙ length-append (bytes x) (drop a s) ∙ ap (λ k. k + length (drop a s)) b.size

-- n good things.
abbrev pub GoodRow : {A : Type 0} → (A → Type 0) → ℕ → List A → Type 0
GoodRow Good n xs = (length xs ≡ n) × All Good xs

-- Rows of things that are read and written one after another.
module _
    {A : Type 0} (bytes : A → List ℕ) (Good : A → Type 0) (one : List ℕ → Reading A) (each : Spelled bytes Good one)
    (row : List A → List ℕ) (none : row [] ≡ []) (more : (x : A) (xs : List A) → row (x ∷ xs) ≡ bytes x ++ row xs)
  where
    abbrev reads : ℕ → List ℕ → Reading (List A)
    reads = read_row [] ◌∷◌ one

    -- A row that is written is brought back.
    row_brought : (xs : List A) (rest : List ℕ) → All Good xs → reads (length xs) (row xs ++ rest) ≡ took (length (row xs)) xs
    unfolding read_row
    row_brought [] rest h = ap (λ (l : List ℕ). took (length l) []) (sym none)
    row_brought (x ∷ xs) rest h =
        let s = bytes x ++ (row xs ++ rest) in
        let whole : row (x ∷ xs) ++ rest ≡ s = rw (more x xs) (append_assoc (bytes x) (row xs) rest) in
        let size : length (bytes x) + length (row xs) ≡ length (row (x ∷ xs)) = rw (more x xs) (sym (length-append (bytes x) (row xs))) in
        ap (reads (suc (length xs))) whole
        ∙ ap (λ (r : Reading A). and_then r (λ a y. after a (◌∷◌ y) (reads (length xs) (drop a s))))
        (each.brought x (row xs ++ rest) h.0)
        ∙ ap (λ (l : List ℕ). after (length (bytes x)) (◌∷◌ x) (reads (length xs) l)) (drop-append_seam (bytes x) (row xs ++ rest))
        ∙ ap (after (length (bytes x)) (◌∷◌ x)) (row_brought xs rest h.1)
        ∙ ap (λ (k : ℕ). took k (x ∷ xs)) size

    -- A row that was read is good, and the bytes begin with it.
    row_read
        : (n : ℕ) (s : List ℕ) → All IsByte s → {a : ℕ} {xs : List A} → reads n s ≡ took a xs
        → Begins row (GoodRow Good n) s a xs
    unfolding read_row
    row_read zero s h {a} {xs} e =
        let ea : 0 ≡ a = cc in
        let exs : ◌≡◌ {A = List A} [] xs = cc in
        subst (λ (k : ℕ). Begins row (GoodRow Good zero) s k xs) ea
        (subst (λ (l : List A). Begins row (GoodRow Good zero) s 0 l) exs
        (record { good = (refl, tt); size = ap length none; begins = sym (ap (λ (l : List ℕ). l ++ s) none) }))
    row_read (suc n) s h {a} {xs} e =
        let r = row_split [] ◌∷◌ one n s e in
        let x = r.first in
        let i = r.first_bytes in
        let j = r.rest_bytes in
        let b = begins_read bytes Good each s h r.read_first in
        let bs = row_read n (drop i s) (bytes_drop i s h) r.read_rest in
        subst (λ (k : ℕ). Begins row (GoodRow Good (suc n)) s k xs) (sym r.all_bytes)
        (subst (λ (l : List A). Begins row (GoodRow Good (suc n)) s (i + j) l) (sym r.joined)
        (record {
          good = (ap suc bs.good.0, (b.good, bs.good.1));
          size = ap length (more x r.rest) ∙ length-append (bytes x) (row r.rest) ∙ ap₂ ◌+◌ b.size bs.size;
          begins =
              b.begins
              ∙ ap (λ (l : List ℕ). bytes x ++ l) (bs.begins ∙ ap (λ (l : List ℕ). row r.rest ++ l) (drop-drop j i s))
              ∙ sym (append_assoc (bytes x) (row r.rest) (drop (i + j) s))
              ∙ ap (λ (l : List ℕ). l ++ drop (i + j) s) (sym (more x r.rest));
        }))

    -- Rows are read and written as their things are.
    pub row_spelled : (n : ℕ) → Spelled row (GoodRow Good n) (reads n)
    row_spelled n =
        record {
          brought = λ xs rest h. ap (λ (k : ℕ). reads k (row xs ++ rest)) (sym h.0) ∙ row_brought xs rest h.1;
          read = λ s h. all_read s (reads n s) (λ a xs e. row_read n s h e);
        }
      where
        all_read
            : (s : List ℕ) (r : Reading (List A))
            → ((a : ℕ) (xs : List A) → r ≡ took a xs → Begins row (GoodRow Good n) s a xs) → Reads row (GoodRow Good n) s r
        all_read s (took a xs) f = f a xs refl
        all_read s (refused q) f = tt
