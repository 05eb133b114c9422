-- In which order a build asks the tests of a sheet: the lowest pending test first, as document 01 does, or by a loaded table
-- (document 02, request 1).
use Rattle.std.specs.Prelude.{ℕ, List}
use Rattle.records.specs.Reading.{Reading, took, map_reading}
use Rattle.terms.specs.Pattern.{Patterns}
use Rattle.decision.specs.Graph.{lowest_first}
use Rattle.decision.specs.PlaceOrder.{order_by}
use Rattle.order.specs.Table.{read_table}

pub data Asking : Type 0 where
  lowest : Asking
  by_table : List ℕ → Asking

-- The order of the tests of rules, or the number of the question that refuses the table.
abbrev pub read_asking : Asking → Reading (List Patterns → List ℕ)
read_asking lowest = took 0 lowest_first
read_asking (by_table table) = map_reading order_by (read_table table)
