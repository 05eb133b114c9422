-- A row read one thing a turn into what is held so far, as cells or notes: what is read and what is still to come are the whole
-- row, for any number of things.
use Prim.Native.Nat.{ℕ, suc, ◌+◌, ◌-◌, ◌*◌, ◌<◌}
use mathlib.Core.Path.{◌≡◌, refl, sym, ap, ◌∙◌}
use mathlib.Core.List.{List}
use native.Mathlib.Nat.{suc-mul, add_comm}
use native.Mathlib.Omega.{arith}
use lib.ListN.{drop}
use lib.Seq.{drop-drop}
use Rattle.records.specs.Reading.{Reading, took, refused, map_reading, after, and_then, read_row}

-- How a row is read and held: each thing by `one`, a step behind the one before it, what is held with it by `hold`, and with
-- all of a row by `hold_all`, which is the same one by one.
pub record RowOf (T L A : Type 0) : Type 0 where
  pub empty : L
  pub join : T → L → L
  pub one : List ℕ → Reading T
  pub step : ℕ
  pub hold : ℕ → A → T → A
  pub hold_all : ℕ → A → L → A
  pub holds_none : (p : ℕ) (x : A) → hold_all p x empty ≡ x
  pub holds_more : (p : ℕ) (x : A) (t : T) (l : L) → hold_all p x (join t l) ≡ hold_all (p + step) (hold p x t) l

-- Before turn i of n one thing is to come and then the others,
pub one_to_come : (n i : ℕ) → i < n → n - i ≡ suc (n - (i + 1))
one_to_come n i h = omega arith

-- which take up the room of one and that of the others.
pub turn_room : (n i size : ℕ) → i < n → (n - i) * size ≡ size + (n - (i + 1)) * size
turn_room n i size h =
    ap (λ (k : ℕ). k * size) (one_to_come n i h)
    ∙ suc-mul (n - (i + 1)) size
    ∙ add_comm ((n - (i + 1)) * size) size

-- The same reading with a bytes before it.
abbrev pub later : {A : Type 0} → ℕ → Reading A → Reading A
later a r = after a (λ x. x) r

-- No bytes before a reading leave it as it is,
later_none : {A : Type 0} (r : Reading A) → later 0 r ≡ r
later_none (took b x) = ap (λ (k : ℕ). took k x) (omega arith)
later_none (refused q) = refl

-- and a bytes and then b are a + b.
later_later : {A : Type 0} (a b : ℕ) (r : Reading A) → later a (later b r) ≡ later (a + b) r
later_later a b (took k x) = ap (λ (n : ℕ). took n x) (omega arith)
later_later a b (refused q) = refl

module _ {T L A : Type 0} (row : RowOf T L A) where
  -- The thing that the bytes begin with, and n things of which the first stands at place p, held with x.
  abbrev pub held_one : ℕ → A → List ℕ → Reading A
  held_one p x s = map_reading (row.hold p x) (row.one s)

  abbrev pub held_row : ℕ → ℕ → A → List ℕ → Reading A
  held_row n p x s = map_reading (row.hold_all p x) (read_row row.empty row.join row.one n s)

  -- A row of which k things are still to come, in the bytes of s from `at` on.
  abbrev pub row_from : List ℕ → ℕ → ℕ → ℕ → A → Reading A
  row_from s at k p x = later at (held_row k p x (drop at s))

  -- Two views of a reading behind a bytes.
  map_later
      : (p : ℕ) (x : A) (a : ℕ) (t : T) (others : Reading L)
      → map_reading (row.hold_all p x) (after a (row.join t) others)
      ≡ later a (map_reading (row.hold_all (p + row.step) (row.hold p x t)) others)
  map_later p x a t (took b l) = ap (took (a + b)) (row.holds_more p x t l)
  map_later p x a t (refused q) = refl

  -- One thing is held, and then the others behind it.
  one_more
      : (k p : ℕ) (x : A) (s : List ℕ)
      → held_row (suc k) p x s ≡ and_then (held_one p x s) (λ a then. later a (held_row k (p + row.step) then (drop a s)))
  unfolding read_row
  one_more k p x s = first (row.one s)
    where
      others : ℕ → Reading L
      others a = read_row row.empty row.join row.one k (drop a s)

      first
          : (r : Reading T)
          → map_reading (row.hold_all p x) (and_then r (λ a t. after a (row.join t) (others a)))
          ≡ and_then (map_reading (row.hold p x) r)
          (λ a then. later a (held_row k (p + row.step) then (drop a s)))
      first (took a t) = map_later p x a t (others a)
      first (refused q) = refl

  module _ (s : List ℕ) where
    -- Before the first turn the whole row is to come;
    pub row_begun : (n k p : ℕ) (x : A) → k ≡ n → row_from s 0 k p x ≡ held_row n p x s
    row_begun n k p x all = rw all (later_none (held_row n p x s))

    -- where none is to come, the bytes so far are the row's.
    pub row_ended : (at k p : ℕ) (x : A) → k ≡ 0 → took at x ≡ row_from s at k p x
    unfolding read_row
    row_ended at k p x none =
        rw (none, row.holds_none p x) (ap (λ (b : ℕ). took b x) (omega arith))

    module _ (at k p : ℕ) (x : A) (others : ℕ) (some : k ≡ suc others) where
      next_turn
          : {r : Reading A} → r ≡ held_one p x (drop at s)
          → later at (and_then r (λ a then. later a (held_row others (p + row.step) then (drop a (drop at s)))))
          ≡ row_from s at k p x
      next_turn read = rw (some, one_more others p x (drop at s), read)

      -- Where the next thing was refused, so is the row;
      pub row_stops : {q : ℕ} → refused q ≡ held_one p x (drop at s) → refused q ≡ row_from s at k p x
      row_stops read = next_turn read

      -- where it was read, the others are to come behind it.
      pub row_goes_on
          : {a step : ℕ} {then : A} → took a then ≡ held_one p x (drop at s) → step ≡ row.step
          → row_from s (at + a) others (p + step) then ≡ row_from s at k p x
      row_goes_on {a} {step} {then} read is =
          rw (is, ← drop-drop a at s)
          (sym (later_later at a (held_row others (p + row.step) then (drop a (drop at s)))) ∙ next_turn read)
