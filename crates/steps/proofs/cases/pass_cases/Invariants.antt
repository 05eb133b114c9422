-- `steps::cases::pass_cases` meets its contract: with the best so far, the cases that are left lead where all do.
use Rattle.steps.proofs.CasesLeft.{Passed}
use Rattle.steps.proofs.cases.pass_cases.Given as goal

abbrev pub invariant-loop : goal.invariant-loop
invariant-loop l =
    Passed l.graph l.neither l.low l.high l.start l.count l.at l.counter l.begun l.node
