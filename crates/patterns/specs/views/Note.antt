-- A note: a record of a rule, with its place.
use Rattle.std.specs.Prelude.{ℕ}
use Rattle.patterns.specs.declared.PatternRecord.{PatternRecord}

pub record Note : Type 0 where
  pub place : ℕ
  pub what : PatternRecord

abbrev pub note : ℕ → PatternRecord → Note
note n r = record { place = n; what = r }
