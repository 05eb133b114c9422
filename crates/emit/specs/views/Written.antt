-- Bytes written at a position of a lent buffer (document 01, "Records", "Graph").
use Rattle.std.specs.Prelude.{ℕ, ◌+◌, ◌≤◌, ◌≡◌, List, length}
use Rattle.records.specs.Writing.{splice}

-- The buffer has room for the bytes there.
abbrev pub Room : List ℕ → ℕ → List ℕ → Type 0
Room buffer at bytes = at + length bytes ≤ length buffer

-- The bytes were written there: no other byte changed, and the last position is the one behind them.
abbrev pub Wrote : List ℕ → ℕ → List ℕ → ℕ → List ℕ → Type 0
Wrote before at bytes behind after = (behind ≡ at + length bytes) × (after ≡ splice before at bytes)
