-- `edges::keys::by_unknown` meets its contract: all rules stay live, and the tests that the unknown settles are not left.
use mathlib.Core.Path.{◌∙◌}
use Rattle.edges.specs.views.KeysBehind.{minus}
use Rattle.edges.proofs.keys.by_unknown.Goals as goal

pub returns : goal.returns
unfolding minus
returns c =
    c.lead.ensures
    ∙ rw (c.settled.ensures, c.minus-left.ensures, c.under.ensures)
