-- Cells that are used again: what stands in them is told from few of them, and which are emptied.
use Rattle.std.specs.Prelude.{ℕ, ◌+◌, ◌*◌, ◌≤◌, ◌<◌, ◌≡◌, List, length, get_or}

-- The cell behind that of place p tells whether anything stands below p: where it is empty, so are all the cells of p, which are as
-- many as that, but for p's own.
abbrev pub TellsBelow : ℕ → ℕ → List ℕ → Type 0
TellsBelow many p cells = get_or cells (p + 1) 0 ≡ 0 → (i : ℕ) → p < i → i < p + many → get_or cells i 0 ≡ 0

-- So it is of the argument at place p, which has 85 cells, and of its four children, which have 21 each.
pub record ArgumentTells (p : ℕ) (cells : List ℕ) : Type 0 where
  pub own : TellsBelow 85 p cells
  pub children : (k : ℕ) → k < 4 → TellsBelow 21 (p + 1 + 21 * k) cells

-- The cells from place p on are emptied up to place end, and the others are as they were.
pub record Emptied (p end : ℕ) (old new : List ℕ) : Type 0 where
  pub size : length new ≡ length old
  pub within : (i : ℕ) → p ≤ i → i < end → get_or new i 0 ≡ 0
  pub before : (i : ℕ) → i < p → get_or new i 0 ≡ get_or old i 0
  pub behind : (i : ℕ) → end ≤ i → get_or new i 0 ≡ get_or old i 0
