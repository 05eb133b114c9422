-- The counts of the four words as one number, 16 bits each.
use Rattle.std.specs.Prelude.{ℕ, ◌+◌, ◌*◌}
use Rattle.window.specs.declared.WordCounts.{WordCounts}

-- "The count of each answer word": commit lowest, then execute, suspend, fail.
abbrev pub packed_words : WordCounts → ℕ
packed_words x = x.commit + 0x1_0000 * x.execute + 0x1_0000_0000 * x.suspend + 0x1_0000_0000_0000 * x.fail
