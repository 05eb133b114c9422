-- Bytes written one piece behind another: what is left to be written completes the whole.
use Prim.Native.Nat.{ℕ, ◌+◌}
use mathlib.Core.Path.{◌≡◌, refl, sym, ap, ◌∙◌}
use mathlib.Core.List.{List, [], ◌++◌, append-nil}
use native.Mathlib.Omega.{arith}
use lib.ListN.{length, length-append}
use Rattle.records.specs.Writing.{splice}
use Rattle.records.proofs.Writing.{splice_none, splice_more, splice_length}
use Rattle.emit.specs.views.Written.{Room, Wrote}

module _ (before : List ℕ) (start : ℕ) (all : List ℕ) where
  -- The rest, written at a position of the buffer, completes the whole.
  pub record Left (buf : List ℕ) (at : ℕ) (rest : List ℕ) : Type 0 where
    pub same : length buf ≡ length before
    pub size : start + length all ≡ at + length rest
    pub whole : splice before start all ≡ splice buf at rest

-- At first all is left.
pub left_start : (before : List ℕ) (start : ℕ) (all rest : List ℕ) → all ≡ rest → Left before start all before start rest
left_start before start all rest e = record {
  same = refl;
  size = ap (λ (l : List ℕ). start + length l) e;
  whole = ap (splice before start) e;
}

module _ {before : List ℕ} {start : ℕ} {all : List ℕ} (room : Room before start all) where
  -- Where nothing is left, all is written.
  pub left_end : {buf : List ℕ} {at : ℕ} {rest : List ℕ} → Left before start all buf at rest → rest ≡ []
      → Wrote before start all at buf
  left_end {buf} {at} {rest} l none = (
    omega (arith, l.size, ap length none),
    splice_none buf at ∙ sym (l.whole ∙ ap (splice buf at) none),
  )

  module _ {buf : List ℕ} {at : ℕ} {rest : List ℕ} (l : Left before start all buf at rest) (next more : List ℕ)
      (e : rest ≡ next ++ more) where
    -- The next piece fits,
    pub left_room : Room buf at next
    left_room = omega (arith, l.same, l.size, ap length e, length-append next more)

    -- and once it is written, the others are left.
    pub left_next : {buf' : List ℕ} {at' : ℕ} → Wrote buf at next at' buf' → Left before start all buf' at' more
    left_next {buf'} {at'} w =
        let pos = sym w.0 in
        let now = sym w.1 in
        record {
          same = ap length w.1 ∙ splice_length buf at next left_room ∙ l.same;
          size = omega (arith, l.size, w.0, ap length e, length-append next more);
          whole = l.whole
              ∙ ap (splice buf at) e
              ∙ sym (splice_more buf at next more left_room)
              ∙ (λ i. splice (now i) (pos i) more);
        }

-- Two pieces, one behind the other, are the whole.
module _ (before : List ℕ) (start : ℕ) {all : List ℕ} (first second : List ℕ) (joined : all ≡ first ++ second)
    (room : Room before start all) where
  at_first : Left before start all before start all
  at_first = left_start before start all all refl

  -- The first fits,
  pub first_room : Room before start first
  first_room = left_room room at_first first second joined

  module _ {buf : List ℕ} {at : ℕ} (w : Wrote before start first at buf) where
    behind : Left before start all buf at second
    behind = left_next room at_first first second joined w

    -- behind it the second,
    pub second_room : Room buf at second
    second_room = left_room room behind second [] (sym (append-nil second))

    -- and both are written.
    pub both_wrote : {buf' : List ℕ} {end : ℕ} → Wrote buf at second end buf' → Wrote before start all end buf'
    both_wrote last = left_end room (left_next room behind second [] (sym (append-nil second)) last) refl
