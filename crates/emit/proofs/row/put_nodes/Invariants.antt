-- `row::put_nodes` meets its contract. The loop's invariant: the nodes of the keys from a number on are left to be written.
use mathlib.Core.Path.{◌≡◌}
use lib.ListN.{length}
use Rattle.met.specs.views.KeysMet.{keys_in}
use Rattle.emit.specs.views.Laid.{keys_bytes}
use Rattle.emit.proofs.WritingOn.{Left}
use Rattle.emit.proofs.InTurn.{keys_left}
use Rattle.emit.proofs.row.put_nodes.Given as goal

abbrev pub invariant-loop-i : goal.invariant-loop-i
invariant-loop-i l =
    (length l.buf ≡ length l.initial.buf) × (length l.runs ≡ 579)
    × Left l.initial.buf l.start (keys_bytes l.s l.c (keys_in l.keys)) l.buf l.at (keys_left l.s l.c l.keys l.i)
