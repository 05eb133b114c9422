-- The records of a rule in a row, as the code goes over its bytes: a compound's arguments follow it, so all that need be kept on
-- the way is how many patterns are still to come.
use Rattle.std.specs.Prelude.{Option, Some, None, Result, Ok, Err, ℕ, zero, suc, ◌+◌, ◌*◌, ◌≤◌, ◌≡◌, List, [], ◌∷◌, length, drop}
use Rattle.patterns.specs.declared.PatternRecord.{PatternRecord}
use Rattle.patterns.specs.declared.PatternRecord.TheVariants.{Anything, Symbol, Series, Range, Gauged, Compound, Variable, Ranged}
use Rattle.records.specs.declared.refusal.Refusal.{Refusal}
use Rattle.patterns.specs.views.PatternRecord.{record_bytes, pattern_head}
use Rattle.rule_rows.specs.declared.Row.{Row}
use Rattle.rule_rows.specs.declared.Next.{Next}

-- How many patterns follow a record as its arguments.
abbrev pub arguments_of : PatternRecord → ℕ
arguments_of Anything = 0
arguments_of (Symbol a) = 0
arguments_of (Series l h) = 0
arguments_of (Range l h) = 0
arguments_of (Gauged g l h) = 0
arguments_of (Compound a n) = n
arguments_of (Variable v) = 0
arguments_of (Ranged v l h) = 0

abbrev pub head_then : Result PatternRecord Refusal → (PatternRecord → List PatternRecord) → List PatternRecord
head_then (Ok r) rest = r ∷ rest r
head_then (Err q) rest = []

-- The records that bytes begin with, of so many patterns: at most so many records, and none from the first cut one on.
unfoldable pub row_records : ℕ → ℕ → List ℕ → List PatternRecord
row_records zero patterns s = []
row_records (suc most) zero s = []
row_records (suc most) (suc patterns) s =
    head_then (pattern_head s) (λ r. row_records most (patterns + arguments_of r) (drop (record_bytes r) s))

-- "Each rule's argument patterns": a rule has at most a record for each of the 680 places.
abbrev pub rule_records : ℕ → List ℕ → List PatternRecord
rule_records arity s = row_records 680 arity s

-- The records from where a row goes on.
abbrev pub records_from : List ℕ → Row → List PatternRecord
records_from s row = row_records row.most row.patterns (drop row.at s)

-- The same, where the next one was read.
abbrev pub records_with : List ℕ → Option Next → List PatternRecord
records_with s (Some next) = next.what ∷ records_from s next.rest
records_with s None = []

-- The row goes on inside the bytes, and the patterns to come can be counted.
pub record Going (s : List ℕ) (row : Row) : Type 0 where
  pub inside : row.at ≤ length s
  pub counted : row.patterns + 255 * row.most ≤ 0x10_0000

-- Behind a record the row goes on with one less to come.
abbrev pub GoesOn : List ℕ → Row → Option Next → Type 0
GoesOn s row (Some next) =
    Going s next.rest × (suc next.rest.most ≡ row.most) × (next.rest.at ≡ row.at + record_bytes next.what)
GoesOn s row None = Unit
