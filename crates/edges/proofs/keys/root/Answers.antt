-- `edges::keys::root` meets its contract: all rules are live, and all tests are left.
use mathlib.Core.Path.{◌∙◌}
use Rattle.edges.specs.views.KeysBehind.{full}
use Rattle.edges.proofs.keys.root.Goals as goal

pub returns : goal.returns
unfolding full
returns c =
    c.lead.ensures
    ∙ rw (
      c.settled.ensures,
      c.full-left.ensures,
      c.tests.ensures,
      c.full-live.ensures,
      c.rules.ensures,
    )
