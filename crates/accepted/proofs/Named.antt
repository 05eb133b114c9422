-- Which numbers a reading can be refused with.
use Prim.Native.Nat.{ℕ, zero, suc}
use mathlib.Core.Bool.{Bool, true, false}
use mathlib.Core.List.{List}
use lib.ListN.{drop}
use Rattle.records.specs.Reading.{Reading, took, refused, ask, after, and_then, read_row, map_reading}

module _ (P : ℕ → Type 0) where
  -- A refusal has one of the numbers.
  abbrev pub Named : {A : Type 0} → Reading A → Type 0
  Named (took a x) = Unit
  Named (refused q) = P q

  pub ask_named : {A : Type 0} (q : ℕ) (b : Bool) (x : Reading A) → P q → Named x → Named (ask q b x)
  ask_named q true x h k = k
  ask_named q false x h k = h

  pub then_named
      : {A B : Type 0} (x : Reading A) (f : ℕ → A → Reading B) → Named x → ((a : ℕ) (y : A) → Named (f a y))
      → Named (and_then x f)
  then_named (took a y) f h k = k a y
  then_named (refused q) f h k = h

  pub after_named : {A B : Type 0} (a : ℕ) (f : A → B) (x : Reading A) → Named x → Named (after a f x)
  after_named a f (took b y) h = h
  after_named a f (refused q) h = h

  pub map_named : {A B : Type 0} (f : A → B) (x : Reading A) → Named x → Named (map_reading f x)
  map_named f (took a y) h = h
  map_named f (refused q) h = h

  pub row_named
      : {A L : Type 0} (empty : L) (join : A → L → L) (one : List ℕ → Reading A) → ((s : List ℕ) → Named (one s))
      → (n : ℕ) (s : List ℕ) → Named (read_row empty join one n s)
  unfolding read_row
  row_named empty join one each zero s = tt
  row_named empty join one each (suc n) s =
      then_named (one s) (λ a x. after a (join x) (read_row empty join one n (drop a s))) (each s)
      (λ a x. after_named a (join x) (read_row empty join one n (drop a s)) (row_named empty join one each n (drop a s)))

-- What names a refusal under one set of numbers names it under a larger one.
pub named_wider
    : (P Q : ℕ → Type 0) → ((q : ℕ) → P q → Q q) → {A : Type 0} (x : Reading A) → Named P x → Named Q x
named_wider P Q h (took a x) k = tt
named_wider P Q h (refused q) k = h q k
