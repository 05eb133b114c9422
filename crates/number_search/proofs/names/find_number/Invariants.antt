-- `number_search::names::find_number` meets its contract: the cases that are left lead where all do.
use Rattle.number_search.proofs.NamesPassed.{Passed}
use Rattle.number_search.proofs.names.find_number.Given as goal

abbrev pub invariant-loop-i : goal.invariant-loop-i
invariant-loop-i l =
    Passed l.graph l.low l.high l.neither l.start l.count l.at l.i
