-- What the functions of a window hand back.
use Rattle.std.specs.Prelude.{ℕ, cond, List, slice_index, Result, Ok, Err}
use Rattle.window.specs.LastThousand.{Given, is_taken}
use Rattle.records.specs.declared.refusal.Refusal.{Refusal}
use Rattle.records.specs.declared.refusal.Refusal.TheVariants.{NoSuchAnswer}
use Rattle.window.specs.declared.WordCounts.{WordCounts}

-- What became of an answer that was fed.
abbrev pub fed_of : Given → Result Unit Refusal
fed_of g = cond (is_taken g) (Ok tt) (Err NoSuchAnswer)

-- The counts of the four words, as the cells hold them.
abbrev pub words_in : List ℕ → WordCounts
words_in cells =
    record {
      commit = slice_index cells 2;
      execute = slice_index cells 3;
      suspend = slice_index cells 4;
      fail = slice_index cells 5;
    }
