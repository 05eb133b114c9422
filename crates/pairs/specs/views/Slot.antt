-- Where a number belongs in an ascending list.
use Rattle.std.specs.Prelude.{ℕ, suc, ◌+◌, ◌≡◌, cond, List, [], ◌∷◌, ltb, drop}

-- How many numbers below c the list begins with.
abbrev pub slot : ℕ → List ℕ → ℕ
slot c [] = 0
slot c (y ∷ ys) = cond (ltb y c) (suc (slot c ys)) 0

-- The first i numbers of the list are below c, so that its slot is behind them.
abbrev pub Passed : ℕ → ℕ → List ℕ → Type 0
Passed i c l = slot c l ≡ i + slot c (drop i l)
