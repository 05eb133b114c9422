-- Up or down, modulo 65,536.
use Rattle.std.proofs.Common.{arith}
use Rattle.window.proofs.moved_count.Goals as goal

pub returns-then-enters : goal.returns-then-enters
returns-then-enters c = rw c.if-enters.true c.wrapping_add_u16.ensures.value

pub returns : goal.returns
returns c =
    let wraps = c.wrapping_sub_u16.ensures.value in
    rw c.if-enters.false (omega arith)
