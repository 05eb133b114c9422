-- The pairs of a sheet as tests.
use Rattle.std.specs.Prelude.{ℕ, ◌/◌, ◌%◌}
use Rattle.sheet_tests.specs.SheetTests.{Test, pair}

-- The pair that a number stands for.
abbrev pub code_pair : ℕ → Test
code_pair c = pair (c / 0x1_0000) (c % 0x1_0000)
