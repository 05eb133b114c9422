-- A loop over the notes: the rule has turned at what those passed want.
use Prim.Native.Nat.{◌≤◌}
use lib.ListN.{drop}
use Rattle.sheet.specs.views.NoteArray.{notes_in}
use Rattle.compiled.proofs.NoteTurns.{CutsLeft}
use Rattle.compiled.proofs.cut.cut_rule.Given as goal

abbrev pub invariant-loop-k : goal.invariant-loop-k
invariant-loop-k l =
    (l.k ≤ l.n)
    × CutsLeft l.numbers l.rules l.i l.ranges.low l.ranges.high (notes_in l.notes l.n) l.initial.c (drop l.k (notes_in l.notes l.n)) l.c
