-- A loop over the later notes: the pairs with those passed are kept.
use Rattle.std.proofs.Common.{◌≡◌, length}
use Rattle.pairs.specs.views.KeptPairs.{pairs_in}
use Rattle.pairs.specs.views.PutAt.{PutAt}
use Rattle.pairs.proofs.NotePairs.{with_from}
use Rattle.pairs.proofs.rule.pairs_with.Given as goal

abbrev pub invariant-loop-code : goal.invariant-loop-code
invariant-loop-code l =
    PutAt l.codes l.put
    × (with_from l.place l.v l.later (length l.later) l.code-index (pairs_in l.codes l.put.count)
    ≡ with_from l.place l.v l.later (length l.later) 0 (pairs_in l.initial.codes l.count))
