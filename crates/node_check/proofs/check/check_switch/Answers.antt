-- `node_check::check::check_switch` meets its contract: cases have few bytes.
use native.Mathlib.Omega.{arith}
use Rattle.node_check.proofs.Switches.{switch_bytes}
use Rattle.node_check.proofs.check.check_switch.Goals as goal

pub overflow_add-result : goal.overflow_add-result
overflow_add-result c = omega (arith, switch_bytes c.args.count c.args.nodes c.args.s.now c.check_cases.result c.check_cases.ensures c.in_ok-cases.was, c.ranges)
