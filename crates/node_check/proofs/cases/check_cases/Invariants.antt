-- `node_check::cases::check_cases` meets its contract: what was found and what is still to be read give what all cases give.
use Rattle.node_check.proofs.CasesPass.{resume}
use Rattle.node_check.specs.views.CaseRanges.{cases_found}
use Rattle.graph.specs.ReadGraph.{read_cases}
use Rattle.records.specs.Reading.{map_reading}
use lib.ListN.{length, drop}
use mathlib.Core.Path.{◌≡◌}
use Prim.Native.Nat.{◌-◌, ◌≤◌}
use Rattle.node_check.proofs.cases.check_cases.Given as goal

abbrev pub invariant-loop : goal.invariant-loop
invariant-loop l =
    (l.at ≤ length l.s)
    × (map_reading (cases_found l.nodes) (read_cases l.count l.s)
    ≡ resume l.nodes l.at l.end l.inside l.ascend (read_cases (l.count - l.counter) (drop l.at l.s)))
