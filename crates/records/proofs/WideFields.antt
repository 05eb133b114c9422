-- A wide field and its two bytes.
use Prim.Native.Nat.{ℕ, ◌<◌}
use mathlib.Core.Path.{◌≡◌}
use native.Mathlib.Omega.{arith}
use Rattle.records.specs.Fields.{IsByte, wide_of, high_byte, low_byte}

-- Two bytes make a number of two bytes.
pub wide_bound : (high low : ℕ) → IsByte high → IsByte low → wide_of high low < 65536
wide_bound high low h l = omega arith

-- Its bytes are the two that made it.
pub high_of_lem : (high low : ℕ) → IsByte high → IsByte low → high_byte (wide_of high low) ≡ high
high_of_lem high low h l = omega arith

pub low_of_lem : (high low : ℕ) → IsByte high → IsByte low → low_byte (wide_of high low) ≡ low
low_of_lem high low h l = omega arith

-- A number of two bytes is made of its bytes.
pub wide_of_lem : (x : ℕ) → x < 65536 → wide_of (high_byte x) (low_byte x) ≡ x
wide_of_lem x h = omega arith
