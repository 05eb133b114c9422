-- Laws of readings: what a view of a reading says of it, and rows of things read one after another.
use Prim.Native.Nat.{ℕ, zero, suc, ◌+◌, ◌-◌}
use mathlib.Core.Path.{◌≡◌, refl, ap, ◌∙◌}
use mathlib.Core.Bool.{Bool, true, false}
use mathlib.Core.List.{List}
use native.Mathlib.Omega.{arith}
use lib.ListN.{drop}
use Rattle.records.specs.Reading.{Reading, took, refused, ask, map_reading, after, and_then, read_row}

-- A view of what was read shows that something was read, and what it comes to.
pub took_view
    : {A B : Type 0} (f : A → B) (x : Reading A) {a : ℕ} {y : B} → took a y ≡ map_reading f x
    → (z : A) × (x ≡ took a z) × (y ≡ f z)
took_view f (took b z) e = (z, (cc), (cc))
took_view f (refused q) e = let z : ◌≡◌ {A = ℕ} 0 1 = cc in absurd (omega arith)

-- A view of a refusal is that refusal.
pub refused_view : {A B : Type 0} (f : A → B) (x : Reading A) {q : ℕ} → refused q ≡ map_reading f x → x ≡ refused q
refused_view f (took b z) e = let z : ◌≡◌ {A = ℕ} 0 1 = cc in absurd (omega arith)
refused_view f (refused q) e = cc

-- A view of what follows a question: the question, then the view.
pub map_ask
    : {A B : Type 0} (f : A → B) (q : ℕ) (b : Bool) (x : Reading A)
    → map_reading f (ask q b x) ≡ ask q b (map_reading f x)
map_ask f q true x = refl
map_ask f q false x = refl

-- What holds of a refusal, and of what follows where the answer is yes, holds after the question.
pub ask_holds
    : {A : Type 0} (P : Reading A → Type 0) (q : ℕ) (b : Bool) (x : Reading A) → P (refused q) → (b ≡ true → P x)
    → P (ask q b x)
ask_holds P q true x no_case yes-case = yes-case refl
ask_holds P q false x no_case yes-case = no_case

-- What was read before goes into the view.
pub map_after
    : {A B C : Type 0} (g : B → C) (a : ℕ) (f : A → B) (x : Reading A)
    → map_reading g (after a f x) ≡ after a (λ y. g (f y)) x
map_after g a f (took b x) = refl
map_after g a f (refused q) = refl

-- What was read after something else was read, and a refusal after it.
pub after_took
    : {A B : Type 0} (a : ℕ) (f : A → B) (x : Reading A) {k : ℕ} {y : B} → after a f x ≡ took k y
    → (b : ℕ) × (z : A) × (x ≡ took b z) × (k ≡ a + b) × (y ≡ f z)
after_took a f (took b z) e = (b, z, refl, (cc), (cc))
after_took a f (refused q) e = let z : ◌≡◌ {A = ℕ} 0 1 = cc in absurd (omega arith)

module _ {A L : Type 0} (empty : L) (join : A → L → L) (one : List ℕ → Reading A) where
  -- A row that was read: its first, of firstBytes, and n others behind it, of restBytes.
  pub record RowRead (n : ℕ) (s : List ℕ) (bytes : ℕ) (row : L) : Type 0 where
    pub first_bytes : ℕ
    pub first : A
    pub rest_bytes : ℕ
    pub rest : L
    pub read_first : one s ≡ took first_bytes first
    pub read_rest : read_row empty join one n (drop first_bytes s) ≡ took rest_bytes rest
    pub all_bytes : bytes ≡ first_bytes + rest_bytes
    pub joined : row ≡ join first rest

  row_after
      : (n : ℕ) (s : List ℕ) {k : ℕ} {row : L} (r : Reading A) → one s ≡ r
      → and_then r (λ a x. after a (join x) (read_row empty join one n (drop a s))) ≡ took k row → RowRead n s k row
  row_after n s (took a x) h e =
      let (b, xs, read, bytes, all) = after_took a (join x) (read_row empty join one n (drop a s)) e in
      record {
        first_bytes = a;
        first = x;
        rest_bytes = b;
        rest = xs;
        read_first = h;
        read_rest = read;
        all_bytes = bytes;
        joined = all;
      }
  row_after n s (refused q) h e = let z : ◌≡◌ {A = ℕ} 0 1 = cc in absurd (omega arith)

  -- A row of one or more that was read, taken apart.
  pub row_split
      : (n : ℕ) (s : List ℕ) {k : ℕ} {row : L} → read_row empty join one (suc n) s ≡ took k row → RowRead n s k row
  unfolding read_row
  row_split n s e = row_after n s (one s) refl e

  -- As many things are read as are asked for.
  pub row_size
      : (size : L → ℕ) → size empty ≡ 0 → ((x : A) (l : L) → size (join x l) ≡ suc (size l)) → (n : ℕ) (s : List ℕ)
      → {k : ℕ} {row : L} → read_row empty join one n s ≡ took k row → size row ≡ n
  unfolding read_row
  row_size size none more zero s {row = row} e = let is : row ≡ empty = cc in ap size is ∙ none
  row_size size none more (suc n) s e =
      let r = row_split n s e in
      ap size r.joined
      ∙ more r.first r.rest
      ∙ ap suc (row_size size none more n (drop r.first_bytes s) r.read_rest)

module _ {A L : Type 0} (empty : L) (join : A → L → L) (one : List ℕ → Reading A) (n : ℕ) (s : List ℕ) where
  -- A row of none takes no bytes.
  pub row_none : n ≡ 0 → read_row empty join one n s ≡ took 0 empty
  unfolding read_row
  row_none e = ap (λ (k : ℕ). read_row empty join one k s) e

  module _ (some : n ≡ 0 → ⊥) where
    Row-step
        : read_row empty join one n s
        ≡ and_then (one s) (λ a x. after a (join x) (read_row empty join one (n - 1) (drop a s)))
    unfolding read_row
    Row-step =
        let e : n ≡ suc (n - 1) = omega arith in ap (λ (k : ℕ). read_row empty join one k s) e

    -- A row of which the first is refused is refused.
    pub row_refused : {q : ℕ} → one s ≡ refused q → read_row empty join one n s ≡ refused q
    row_refused e =
        Row-step ∙ ap (λ x. and_then x (λ a x. after a (join x) (read_row empty join one (n - 1) (drop a s)))) e

    -- A row of which the first was read goes on behind it with one less.
    pub row_next
        : {a : ℕ} {x : A} → one s ≡ took a x
        → read_row empty join one n s ≡ after a (join x) (read_row empty join one (n - 1) (drop a s))
    row_next e = Row-step ∙ ap (λ x. and_then x (λ a x. after a (join x) (read_row empty join one (n - 1) (drop a s)))) e
