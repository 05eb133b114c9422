-- The parents of all places as text (document 02, request 13: "Print the table").
use Rattle.std.specs.Prelude.{ℕ, zero, suc, List, [], ◌∷◌, ◌++◌}
use Rattle.digits.specs.Decimal.{decimal}
use Rattle.places.specs.Numbering.{parent_at}

-- "place, a space and parent", as decimal digits. Each line ends with a line feed.
abbrev pub place_line : ℕ → ℕ → List ℕ
place_line place parent = decimal place ++ (0x20 ∷ (decimal parent ++ (0x0a ∷ [])))

-- The lines of the n places from p on; the parent of an argument is 680.
unfoldable pub lines_from : ℕ → ℕ → List ℕ
lines_from p zero = []
lines_from p (suc n) = place_line p (parent_at p) ++ lines_from (suc p) n

-- "A program writes 680 lines": those of places 0 to 679.
abbrev pub parent_lines : List ℕ
parent_lines = lines_from 0 680
