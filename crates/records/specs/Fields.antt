-- The fields of records (document 01, "Records").
use Rattle.std.specs.Prelude.{ℕ, ◌+◌, ◌*◌, ◌/◌, ◌%◌, ◌<◌, List, ◌∷◌, get_or}
use Rattle.basics.specs.Lists.{All}

-- Bytes are numbers below 256.
abbrev pub IsByte : ℕ → Type 0
IsByte b = b < 256

abbrev pub AreBytes : List ℕ → Type 0
AreBytes bytes = All IsByte bytes

-- "A wide field is two bytes, high byte first; the others are one byte."
abbrev pub wide_of : ℕ → ℕ → ℕ
wide_of high low = high * 256 + low

-- The field of one byte that stands at i, and the wide field of which the high byte stands there.
abbrev pub byte_at : List ℕ → ℕ → ℕ
byte_at bytes i = get_or bytes i 0

abbrev pub wide_at : List ℕ → ℕ → ℕ
wide_at bytes i = wide_of (byte_at bytes i) (byte_at bytes (i + 1))

-- The two bytes of a wide field, and what follows it.
abbrev pub high_byte : ℕ → ℕ
high_byte x = x / 256 % 256

abbrev pub low_byte : ℕ → ℕ
low_byte x = x % 256

abbrev pub wide_then : ℕ → List ℕ → List ℕ
wide_then x bytes = high_byte x ∷ low_byte x ∷ bytes
