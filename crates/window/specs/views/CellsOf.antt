-- What the cells of a window hold when these answers, all of them taken, were fed to a fresh one.
use Rattle.std.specs.Prelude.{◌≡◌, ℕ, ◌+◌, ◌<◌, ◌≤◌, Bool, ◌&&◌, ◌||◌}
use Rattle.std.specs.Prelude.{List, ◌++◌, map, length, take, drop, ◌==◌, slice_index, slice_index_or}
use Rattle.window.specs.LastThousand.{Given, is_commit, last_of, count_of}
use Rattle.window.specs.Cells.{answer_in}

-- The ring from a place on, then from its start up to that place: where the next answer goes, the oldest stands.
unfoldable pub from_place : {A : Type 0} → ℕ → List A → List A
from_place next ring = drop next ring ++ take next ring

-- Cell j counts this answer: the cell of its word, or of its rule where it is a commit.
unfoldable pub counted_at : ℕ → Given → Bool
counted_at j g = j == 1 + g.word || (is_commit g && j == 5 + g.rule)

-- The answers in the ring.
abbrev pub ring_in : List ℕ → List Given
ring_in cells = map answer_in (drop 70 cells)

pub record CellsOf (answers : List Given) (cells : List ℕ) : Type 0 where
  pub sized : length cells ≡ 1070
  -- Cell 0 holds a place of the ring, cell 1 how many of the last 1,000 there are.
  pub placed : slice_index_or cells 0 0 < 1000
  pub held : slice_index_or cells 1 0 ≡ length (last_of 1000 answers)
  -- So many answers of the ring, up to the place where the next one goes, are the last 1,000 in their order.
  pub ring : last_of (slice_index cells 1) (from_place (slice_index cells 0) (ring_in cells)) ≡ last_of 1000 answers
  -- Cells 2 to 69 hold their counts.
  pub counts : (j : ℕ) → 2 ≤ j → j < 70 → slice_index cells j ≡ count_of (counted_at j) (last_of 1000 answers)
