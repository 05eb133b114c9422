-- The numbers of a sheet's own questions (document 01, "Questions at the counter").
use Rattle.std.specs.Prelude.{ℕ, ◌≤◌}

-- The number is one of those from the first to the last.
abbrev pub Between : ℕ → ℕ → ℕ → Type 0
Between first last q = (first ≤ q) × (q ≤ last)

-- "Sheet", "At each pattern", "At a rule's end", "At the sheet's end": 1 to 11.
abbrev pub SheetQuestion : ℕ → Type 0
SheetQuestion = Between 1 11
