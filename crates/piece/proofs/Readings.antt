-- Laws of readings: the bytes that they took, and rows of things read one after another.
use Prim.Native.Nat.{ℕ, zero, suc, ◌+◌, ◌≤◌, ◌<◌}
use mathlib.Core.Path.{◌≡◌, refl, ap}
use mathlib.Core.Bool.{Bool, true, false, ◌&&◌}
use mathlib.Core.Logic.{◌⊎◌, inl, inr}
use mathlib.Core.List.{List}
use native.Mathlib.Omega.{arith}
use lib.ListN.{length, drop, length-drop}
use lib.Dec.{leb}
use borrow.Author.Tests.{le-leb, lt-leb}
use Rattle.records.specs.Reading.{Reading, took, refused, ask, map_reading, after, and_then, read_row}

-- The bytes that a reading took, 0 where it was refused.
abbrev pub bytes_of : {A : Type 0} → Reading A → ℕ
bytes_of (took a x) = a
bytes_of (refused q) = 0

-- Another view of what was read took the same bytes.
pub bytes_map : {A B : Type 0} (f : A → B) (r : Reading A) → bytes_of (map_reading f r) ≡ bytes_of r
bytes_map f (took a x) = refl
bytes_map f (refused q) = refl

-- A reading with a bytes before it took at most a more.
pub bytes_after : {A B : Type 0} (a : ℕ) (f : A → B) (r : Reading A) → bytes_of (after a f r) ≤ a + bytes_of r
bytes_after a f (took b x) = omega arith
bytes_after a f (refused q) = omega arith

-- Another view of a reading with bytes before it.
pub map_after
    : {A B C : Type 0} (a : ℕ) (f : A → B) (g : B → C) (r : Reading A)
    → map_reading g (after a f r) ≡ after a (λ x. x) (map_reading (λ x. g (f x)) r)
map_after a f g (took b x) = refl
map_after a f g (refused q) = refl

-- P holds of what was read, if anything was.
abbrev pub Took : {A : Type 0} → (A → Type 0) → Reading A → Type 0
Took P (took a x) = P x
Took P (refused q) = Unit

-- What holds of each thing read holds of the view of it with bytes before.
pub took_after
    : {A B : Type 0} (P : A → Type 0) (Q : B → Type 0) (a : ℕ) (f : A → B) → ((x : A) → P x → Q (f x))
    → (r : Reading A) → Took P r → Took Q (after a f r)
took_after P Q a f h (took b x) k = h x k
took_after P Q a f h (refused q) k = tt

-- Two views of what was read are the same where they are the same of everything of which P holds.
pub same_views
    : {A B : Type 0} (P : A → Type 0) (f g : A → B) → ((x : A) → P x → f x ≡ g x)
    → (r : Reading A) → Took P r → map_reading f r ≡ map_reading g r
same_views P f g h (took a x) k = ap (took a) (h x k)
same_views P f g h (refused q) k = refl

-- What holds of the empty row, and of each longer row where it holds of the shorter one, holds of a row that was read.
pub row_took
    : {A L : Type 0} (Q : ℕ → L → Type 0) (empty : L) (join : A → L → L) (one : List ℕ → Reading A)
    → Q 0 empty → ((n : ℕ) (x : A) (l : L) → Q n l → Q (suc n) (join x l))
    → (n : ℕ) (s : List ℕ) → Took (Q n) (read_row empty join one n s)
unfolding read_row
row_took Q empty join one none more zero s = none
row_took {A} Q empty join one none more (suc n) s = next (one s) (λ a. row_took Q empty join one none more n (drop a s))
  where
    next
        : (r : Reading A) → ((a : ℕ) → Took (Q n) (read_row empty join one n (drop a s)))
        → Took (Q (suc n)) (and_then r (λ a x. after a (join x) (read_row empty join one n (drop a s))))
    next (took a x) others =
        took_after (Q n) (Q (suc n)) a (join x) (more n x) (read_row empty join one n (drop a s)) (others a)
    next (refused q) others = tt

-- No thing in a row takes more bytes than there are, so neither does the row.
pub row_within
    : {A L : Type 0} (empty : L) (join : A → L → L) (one : List ℕ → Reading A)
    → ((s : List ℕ) → bytes_of (one s) ≤ length s)
    → (n : ℕ) (s : List ℕ) → bytes_of (read_row empty join one n s) ≤ length s
unfolding read_row
row_within empty join one within zero s = omega arith
row_within {A} {L} empty join one within (suc n) s =
    next (one s) (within s) (λ a. row_within empty join one within n (drop a s))
  where
    next
        : (r : Reading A) → bytes_of r ≤ length s
        → ((a : ℕ) → bytes_of (read_row empty join one n (drop a s)) ≤ length (drop a s))
        → bytes_of (and_then r (λ a x. after a (join x) (read_row empty join one n (drop a s)))) ≤ length s
    next (took a x) h others =
        omega (arith, bytes_after a (join x) (read_row empty join one n (drop a s)), others a, length-drop a s)
    next (refused q) h others = omega arith

-- Where something was read after a question, the answer was yes.
pub asked
    : {A : Type 0} (q : ℕ) (b : Bool) (r : Reading A) {a : ℕ} {x : A} → ask q b r ≡ took a x
    → (b ≡ true) × (r ≡ took a x)
asked q true r e = (refl, e)
asked q false r e = let no-yes : ◌≡◌ {A = ℕ} 0 1 = cc in absurd (omega arith)

-- Whether an arity is 1 to the most: it is,
pub inside : (n most : ℕ) → 1 ≤ n → n ≤ most → leb 1 n && leb n most ≡ true
inside n most least few = rw (le-leb 1 n least, le-leb n most few)

-- or it is not.
pub outside : (n most : ℕ) → (n < 1) ⊎ (most < n) → leb 1 n && leb n most ≡ false
outside n most (inl none) = rw (lt-leb 1 n none)
outside n most (inr many) =
    elim (leb 1 n) as (λ b. b && leb n most ≡ false) [ true ↦ lt-leb n most many | false ↦ refl ]

-- Two readings that are the same took the same bytes.
pub took_bytes : {A : Type 0} {a b : ℕ} {x y : A} → took a x ≡ took b y → a ≡ b
took_bytes e = cc
