-- What tidying a sheet hands back (document 02, request 2).
use Rattle.std.specs.Prelude.{List, ℕ, Ok, Err}
use Rattle.std.specs.Prelude as std
use Rattle.records.specs.Written.{Result}
use Rattle.records.specs.Refusals.{number}
use Rattle.records.specs.declared.refusal.Refusal.{Refusal}

-- What is handed back, with the buffer as it is then.
abbrev pub left_by : std.Result ℕ Refusal → List ℕ → Result
left_by (Ok n) buffer = record { refusal = 0; bytes = n; buffer = buffer }
left_by (Err r) buffer = record { refusal = number r; bytes = 0; buffer = buffer }
