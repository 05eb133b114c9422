-- `order::table::is_new` meets its contract: one test after the other.
use mathlib.Core.Path.{sym, ap}
use mathlib.Core.Bool.{Bool, ◌&&◌}
use borrow.Author.Tests.{lt-ltb, le-ltb}
use lib.Dec.{eqb}
use lib.ListN.{get_or}
use Rattle.order.proofs.table.is_new.Goals as goal

pub returns-then-p-lt680 : goal.returns-then-p-lt680
returns-then-p-lt680 c =
    let a = c.args in
    sym (ap (λ (b : Bool). b && eqb (get_or a.down.now a.p 0) 0) (lt-ltb a.p 680 c.if-p-lt680.true))

pub returns : goal.returns
returns c =
    let a = c.args in
    sym (ap (λ (b : Bool). b && eqb (get_or a.down.now a.p 0) 0) (le-ltb a.p 680 c.if-p-lt680.false))
