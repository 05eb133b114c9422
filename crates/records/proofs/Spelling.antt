-- Bytes that spell what is read from them: one after another, and in rows.
use Prim.Native.Nat.{ℕ, zero, suc, ◌+◌}
use mathlib.Core.Path.{◌≡◌, refl, sym, ap, subst, ◌∙◌}
use mathlib.Core.List.{List, [], ◌++◌, append_assoc}
use lib.ListN.{length, drop, length-append}
use lib.Seq.{drop-drop, drop-append_seam}
use Rattle.records.specs.Reading.{Reading, took, after, and_then, read_row}
use Rattle.records.proofs.Rows.{row_split}

-- The list begins with these bytes, which are k.
pub record Spelled (bytes : List ℕ) (k : ℕ) (s : List ℕ) : Type 0 where
  pub begins : s ≡ bytes ++ drop k s
  pub many : k ≡ length bytes

-- No bytes spell nothing.
pub spelled_none : (s : List ℕ) → Spelled [] 0 s
spelled_none s = record { begins = refl; many = refl }

-- Bytes behind bytes.
pub spelled_join
    : {xs ys s : List ℕ} {a b : ℕ} → Spelled xs a s → Spelled ys b (drop a s) → Spelled (xs ++ ys) (a + b) s
spelled_join {xs} {ys} {s} {a} {b} first second =
    record {
      begins =
          first.begins
          ∙ ap (xs ++◌) (second.begins ∙ ap (ys ++◌) (drop-drop b a s))
          ∙ sym (append_assoc xs ys (drop (a + b) s));
      many = (λ j. first.many j + second.many j) ∙ sym (length-append xs ys);
    }

-- Bytes of one thing, then bytes of a row, are read as a row of one more.
pub row_joined
    : {A L : Type 0} (empty : L) (join : A → L → L) (one : List ℕ → Reading A) (n : ℕ) (xs rest : List ℕ) {b : ℕ}
    {x : A} {l : L}
    → one (xs ++ rest) ≡ took (length xs) x → read_row empty join one n rest ≡ took b l
    → read_row empty join one (suc n) (xs ++ rest) ≡ took (length xs + b) (join x l)
unfolding read_row
row_joined empty join one n xs rest {x = x} first others =
    ap (λ r. and_then r (λ a y. after a (join y) (read_row empty join one n (drop a (xs ++ rest))))) first
    ∙ ap (λ (s : List ℕ). after (length xs) (join x) (read_row empty join one n s)) (drop-append_seam xs rest)
    ∙ ap (after (length xs) (join x)) others

module _ {A L : Type 0} (empty : L) (join : A → L → L) (one : List ℕ → Reading A)
    (Good : List ℕ → Type 0) (good-rest : (a : ℕ) (s : List ℕ) → Good s → Good (drop a s)) where
  -- What holds of each thing that is read from a good list holds of a row of them.
  pub row_holds
      : (Q : A → Type 0) (R : L → Type 0) → R empty → ((x : A) (l : L) → Q x → R l → R (join x l))
      → ((s : List ℕ) (k : ℕ) (x : A) → Good s → one s ≡ took k x → Q x)
      → (n : ℕ) (s : List ℕ) {k : ℕ} {l : L} → Good s → read_row empty join one n s ≡ took k l → R l
  unfolding read_row
  row_holds Q R none more each zero s {k} {l} g e = let is : empty ≡ l = cc in subst R is none
  row_holds Q R none more each (suc n) s g e =
      let r = row_split empty join one n s e in
      subst R (sym r.joined)
      (more r.first r.rest (each s r.first_bytes r.first g r.read_first)
      (row_holds Q R none more each n (drop r.first_bytes s) (good-rest r.first_bytes s g) r.read_rest))

  -- Where each thing is spelled by the bytes that it took, so is a row of them.
  pub row_spelled
      : (bytes_of : A → List ℕ) (rowBytes : L → List ℕ) → rowBytes empty ≡ []
      → ((x : A) (l : L) → rowBytes (join x l) ≡ bytes_of x ++ rowBytes l)
      → ((s : List ℕ) (k : ℕ) (x : A) → Good s → one s ≡ took k x → Spelled (bytes_of x) k s)
      → (n : ℕ) (s : List ℕ) {k : ℕ} {l : L} → Good s → read_row empty join one n s ≡ took k l → Spelled (rowBytes l) k s
  unfolding read_row
  row_spelled bytes_of rowBytes none more each zero s {k} {l} g e =
      let is : l ≡ empty = cc in
      let no_bytes : k ≡ 0 = cc in
      subst (λ (b : List ℕ). Spelled b k s) (sym (ap rowBytes is ∙ none))
      (subst (λ (i : ℕ). Spelled [] i s) (sym no_bytes) (spelled_none s))
  row_spelled bytes_of rowBytes none more each (suc n) s {k} g e =
      let r = row_split empty join one n s e in
      let rest = good-rest r.first_bytes s g in
      subst (λ (b : List ℕ). Spelled b k s) (sym (ap rowBytes r.joined ∙ more r.first r.rest))
      (subst (λ (i : ℕ). Spelled (bytes_of r.first ++ rowBytes r.rest) i s) (sym r.all_bytes)
      (spelled_join (each s r.first_bytes r.first g r.read_first)
      (row_spelled bytes_of rowBytes none more each n (drop r.first_bytes s) rest r.read_rest)))
