-- How records are written into a lent buffer (document 01, "Questions at the counter"): "A graph shorter than its buffer leaves
-- the bytes after it, and so does every other writer."
use Rattle.std.specs.Prelude.{ℕ, ◌+◌, List, ◌++◌, length, take, drop}

-- The buffer with a record at a position: what stood before it, the record, and what stood after it.
abbrev pub splice : List ℕ → ℕ → List ℕ → List ℕ
splice buffer at bytes = take at buffer ++ (bytes ++ drop (at + length bytes) buffer)
