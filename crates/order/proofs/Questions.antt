-- Which numbers a table can be refused with: 28 to 30.
use Prim.Native.Nat.{ℕ}
use mathlib.Core.List.{List}
use native.Mathlib.Omega.{arith}
use lib.Dec.{eqb}
use lib.ListN.{length}
use Rattle.records.specs.Reading.{took, ask}
use Rattle.accepted.specs.Questions.{Between}
use Rattle.accepted.proofs.Named.{Named, ask_named, map_named}
use Rattle.order.specs.Table.{table_places, each_once, parents_first, read_table}
use Rattle.order.specs.Asking.{Asking, lowest, by_table, read_asking}

pub table_named : (bytes : List ℕ) → Named (Between 28 30) (read_table bytes)
unfolding read_table
table_named bytes =
    let places = table_places bytes in
    let first = ask 30 (parents_first places) (took 1360 places) in
    ask_named (Between 28 30) 28 (eqb (length bytes) 1360) (ask 29 (each_once places) first) (omega arith, omega arith)
    (ask_named (Between 28 30) 29 (each_once places) first (omega arith, omega arith)
    (ask_named (Between 28 30) 30 (parents_first places) (took 1360 places) (omega arith, omega arith) tt))

pub asking_named : (asking : Asking) → Named (Between 28 30) (read_asking asking)
asking_named lowest = tt
asking_named (by_table table) = map_named (Between 28 30) _ (read_table table) (table_named table)
