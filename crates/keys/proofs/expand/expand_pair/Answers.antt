-- `expand::expand_pair` meets its contract.
use native.Mathlib.Omega.{arith}
use Rattle.keys.proofs.EdgesInTurn.{most_more, pair_met}
use Rattle.keys.proofs.expand.expand_pair.Goals as goal

pub meet_two-requires : goal.meet_two-requires
meet_two-requires c = c.requires.0

pub returns : goal.returns
returns c =
    let a = c.args in
    let met = c.meet_two.ensures in record {
      by_index = λ cuts.
          pair_met a.s.now cuts a.asked c.requires.1 c.by_none-differ.ensures
          c.by_other-other.ensures _ c.meet_two.result c.meet_two.new.keys met.met;
      chained = (met.chained.0, most_more c.meet_two.result (omega arith) met.chained.1);
    }
