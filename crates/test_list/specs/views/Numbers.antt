-- The numbers of a sheet's tests (document 01, "Places and tests": "numbered from 0"), by what they test.
use Rattle.std.specs.Prelude.{ℕ, suc, ◌<◌, List, [], ◌∷◌, get_or, set}

-- A table from places to numbers: the places of a list are numbered from t on. A place past the table's end has no number.
abbrev pub number_all : List ℕ → ℕ → List ℕ → List ℕ
number_all [] t numbers = numbers
number_all (p ∷ places) t numbers = number_all places (suc t) (set numbers p t)

-- Each number in the table is below 64.
abbrev pub Small : List ℕ → Type 0
Small numbers = (p : ℕ) → get_or numbers p 0 < 64
