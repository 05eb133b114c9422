-- What tidying a sheet answers, and what it leaves in the lent buffer (document 02, request 2).
use Rattle.std.specs.Prelude.{ℕ, List}
use Rattle.records.specs.Reading.{and_then}
use Rattle.records.specs.Written.{Result, result_of, ask_fits}
use Rattle.sheet_tests.specs.CheckSheet.{accept_sheet}
use Rattle.tidy.specs.TidySheet.{tidy_bytes}

-- "It refuses a buffer that is too short (31), after the sheet's questions." Else the tidy sheet stands at the front of the buffer.
unfoldable pub tidied : List ℕ → List ℕ → Result
tidied s buffer = result_of buffer (and_then (accept_sheet s) (λ _ sheet. ask_fits 31 buffer (tidy_bytes sheet)))
