-- What writing the order of a track drawing hands back (document 02, request 14).
use Rattle.std.specs.Prelude.{List, ℕ, Ok, Err}
use Rattle.std.specs.Prelude as std
use Rattle.records.specs.Written.{Result}
use Rattle.records.specs.Refusals.{number}
use Rattle.records.specs.declared.refusal.Refusal.{Refusal}

-- What is handed back, with the buffer as it is then.
abbrev pub left_by : std.Result Unit Refusal → List ℕ → Result
left_by (Ok u) buffer = record { refusal = 0; bytes = 1360; buffer = buffer }
left_by (Err r) buffer = record { refusal = number r; bytes = 0; buffer = buffer }
