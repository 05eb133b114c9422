-- Three times as much room is enough; else it is measured.
use mathlib.Core.Path.{sym, ap}
use Prim.Native.Nat.{ℕ, ◌+◌}
use lib.Dec.{leb}
use lib.ListN.{length, drop, length-drop}
use borrow.Author.Tests.{le-leb}
use native.Mathlib.Omega.{arith}
use Rattle.tidying.specs.views.TidyRows.{tidy_rows}
use Rattle.tidying.proofs.RowBounds.{rows_three}
use Rattle.tidying.proofs.sheets.fits.Goals as goal

pub returns-then-s-room : goal.returns-then-s-room
returns-then-s-room c =
    let s = c.args.s.now in
    let rows = tidy_rows c.args.arity c.args.rules (drop 3 s) in
    sym (le-leb (3 + length rows) c.args.room (omega (arith, c.if-s-room.true, c.requires, rows_three c.args.arity c.args.rules (drop 3 s), length-drop 3 s)))

pub measure-requires : goal.measure-requires
measure-requires c = c.requires

pub returns : goal.returns
returns c = ap (λ (k : ℕ). leb k c.args.room) c.measure.ensures.value
