-- The refusal's number, and the cells that the feed leaves.
use mathlib.Core.Path.{ap, ◌∙◌}
use Rattle.window.specs.LastThousand.{given}
use Rattle.packing.proofs.ByNumber.{refusal_numbered}
use Rattle.records.specs.Refusals.{refusal_in}
use Rattle.window.proofs.Steps.{fed_refusal}
use Rattle.voltunnis.proofs.window_calls.vt_window_feed.Goals as goal

pub returns : goal.returns
returns c =
    let a = c.args in
    let fed = c.feed.ensures in record {
      value = c.fed_refusal.ensures
          ∙ refusal_numbered c.feed.result c.numbered.ensures
          ∙ ap refusal_in fed.value
          ∙ fed_refusal (given a.word a.rule);
      window_after = fed.window_after;
    }
