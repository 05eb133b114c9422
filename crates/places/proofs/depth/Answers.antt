-- `depth` meets its contract: it takes the remainders that the numbering takes.
use mathlib.Core.Path.{◌∙◌}
use Prim.Native.Nat.{◌-◌, ◌%◌}
use native.Mathlib.Nat.{mod-one}
use Rattle.places.proofs.Levels.{levels_of_neighbour, levels_of_other}
use Rattle.places.proofs.depth.Goals as goal

pub returns-then-in_argument-eq0 : goal.returns-then-in_argument-eq0
returns-then-in_argument-eq0 c = rw (levels_of_neighbour 3 c.args.p c.if-in_argument-eq0.true)

pub returns-then-in_child-eq0 : goal.returns-then-in_child-eq0
returns-then-in_child-eq0 c =
    let p = c.args.p in
    rw (levels_of_other 3 p c.if-in_argument-eq0.false ∙ levels_of_neighbour 2 (p % 85 - 1) c.if-in_child-eq0.true)

pub returns-then-in_child-eq0-2 : goal.returns-then-in_child-eq0-2
returns-then-in_child-eq0-2 c =
    let p = c.args.p in
    rw
    (levels_of_other 3 p c.if-in_argument-eq0.false
    ∙ levels_of_other 2 (p % 85 - 1) c.if-in_child-eq0.false
    ∙ levels_of_neighbour 1 ((p % 85 - 1) % 21 - 1) c.if-in_child-eq0-2.true)

pub returns-else-in_child-eq0-2 : goal.returns-else-in_child-eq0-2
returns-else-in_child-eq0-2 c =
    let p = c.args.p in
    let n = (p % 85 - 1) % 21 - 1 in
    rw
    (levels_of_other 3 p c.if-in_argument-eq0.false
    ∙ levels_of_other 2 (p % 85 - 1) c.if-in_child-eq0.false
    ∙ levels_of_other 1 n c.if-in_child-eq0-2.false
    ∙ levels_of_neighbour 0 (n % 5 - 1) (mod-one (n % 5 - 1)))
