-- Runs of codes, each with the set of the live rules that want something of it: of symbols, of compounds, which are one code each,
-- and of numbers.
use Rattle.std.specs.Prelude.{ℕ, ◌+◌, ◌*◌, ◌/◌, ◌%◌, cond, List, map, ltb, get_or, set}
use Rattle.basics.specs.Lists.{count_from}
use Rattle.decision.specs.Cases.{Case, symbols_case, compound_case, numbers_case}

pub record Run : Type 0 where
  pub low : ℕ
  pub high : ℕ
  pub set : ℕ

-- Runs in an array, three numbers each, and with one more.
abbrev pub run_at : List ℕ → ℕ → Run
run_at runs k = record { low = get_or runs (3 * k) 0; high = get_or runs (3 * k + 1) 0; set = get_or runs (3 * k + 2) 0 }

abbrev pub runs_in : List ℕ → ℕ → List Run
runs_in runs n = map (run_at runs) (count_from 0 n)

abbrev pub with_run : List ℕ → ℕ → Run → List ℕ
with_run runs n r = set (set (set runs (3 * n) r.low) (3 * n + 1) r.high) (3 * n + 2) r.set

-- The case whose codes run from one to another.
abbrev pub run_case : ℕ → ℕ → Case
run_case low high =
    cond (ltb low 0x200_0000) (symbols_case (low % 0x1_0000) (high % 0x1_0000))
    (cond (ltb low 0x300_0000) (compound_case (low / 256 % 0x1_0000) (low % 256))
    (numbers_case (low % 0x100_0000) (high % 0x100_0000)))
