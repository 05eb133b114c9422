-- A loop over the notes: the pairs of those passed with all later ones are kept.
use Prim.Native.Nat.{◌≤◌}
use mathlib.Core.Path.{◌≡◌}
use lib.ListN.{length}
use Rattle.pairs.specs.views.KeptPairs.{pairs_in}
use Rattle.pairs.proofs.NotePairs.{pairs_from}
use Rattle.pairs.proofs.rule.pair_rule.Given as goal

abbrev pub invariant-loop-i : goal.invariant-loop-i
invariant-loop-i l =
    (l.pairs ≤ 65) × (length l.codes ≡ 65)
    × (pairs_from l.notes l.n l.i (pairs_in l.codes l.pairs)
    ≡ pairs_from l.notes l.n 0 (pairs_in l.initial.codes l.count))
