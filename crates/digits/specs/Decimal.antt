-- Numbers as decimal digits, in characters (document 01, "One listing").
use Rattle.std.specs.Prelude.{ℕ, zero, suc, ◌+◌, ◌/◌, ◌%◌, cond, List, [], ◌∷◌, ◌++◌, ltb}

-- The character of a digit below 16: 0 to 9, then a to f, "lower-case".
abbrev pub digit : ℕ → ℕ
digit d = cond (ltb d 10) (0x30 + d) (0x57 + d)

-- The decimal digits of a number of at most so many, the highest first: those of its tenth where that is not 0, then the last one.
unfoldable pub decimal_in : ℕ → ℕ → List ℕ
decimal_in zero n = []
decimal_in (suc k) n =
    let tenth = decimal_in k (n / 10) in cond (ltb n 10) (digit n ∷ []) (tenth ++ (digit (n % 10) ∷ []))

-- A number has no more digits than one more than itself.
unfoldable pub decimal : ℕ → List ℕ
decimal n = decimal_in (suc n) n
