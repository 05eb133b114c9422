-- Lists of bytes: what stands at each index, and what follows, joins or is written.
use Prim.Native.Nat.{ℕ, zero, suc}
use mathlib.Core.List.{List, [], ◌∷◌, ◌++◌}
use native.Mathlib.Omega.{arith}
use lib.ListN.{get_or, drop}
use Rattle.records.specs.Fields.{IsByte, AreBytes, wide_then}

-- Where all are bytes, one stands at each index: 0 behind the last.
pub byte_at : (s : List ℕ) (i : ℕ) → AreBytes s → IsByte (get_or s i 0)
byte_at [] i h = omega arith
byte_at (b ∷ s) zero h = h.0
byte_at (b ∷ s) (suc i) h = byte_at s i h.1

-- Where a byte stands at each index, all are bytes.
pub bytes_all : (s : List ℕ) → ((i : ℕ) → IsByte (get_or s i 0)) → AreBytes s
bytes_all [] h = tt
bytes_all (b ∷ s) h = (h 0, bytes_all s (λ i. h (suc i)))

-- What follows bytes are bytes.
pub bytes_drop : (n : ℕ) (s : List ℕ) → AreBytes s → AreBytes (drop n s)
bytes_drop zero s h = h
bytes_drop (suc n) [] h = tt
bytes_drop (suc n) (b ∷ s) h = bytes_drop n s h.1

-- Bytes and bytes after them are bytes, and so is a wide field with bytes after it.
pub bytes_append : (xs ys : List ℕ) → AreBytes xs → AreBytes ys → AreBytes (xs ++ ys)
bytes_append [] ys first second = second
bytes_append (x ∷ xs) ys first second = (first.0, bytes_append xs ys first.1 second)

pub wide_bytes : (x : ℕ) (rest : List ℕ) → AreBytes rest → AreBytes (wide_then x rest)
wide_bytes x rest h = (omega arith, (omega arith, h))
