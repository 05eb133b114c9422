-- What the reader of a sheet's first record hands back: the record, of 3 bytes, or the question that got a no.
use Rattle.std.specs.Prelude.{Result}
use Rattle.records.specs.Reading.{Reading, took}
use Rattle.records.specs.Refusals.{reading_in}
use Rattle.records.specs.declared.refusal.Refusal.{Refusal}
use Rattle.sheet.specs.declared.Header.{Header}
use Rattle.sheet.specs.Sheet.{SheetHead}

abbrev pub header_read : Result Header Refusal → Reading SheetHead
header_read = reading_in (λ h. took 3 (record { arity = h.arity; rule_count = h.rules }))
