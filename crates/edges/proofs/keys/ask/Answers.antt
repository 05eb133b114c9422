-- `edges::keys::ask` meets its contract: each part is that of what the edges share.
use Rattle.edges.specs.views.KeysBehind.{minus, without}
use Rattle.edges.proofs.keys.ask.Goals as goal

pub returns : goal.returns
unfolding minus without
returns c =
    rw (
      c.settled.ensures,
      c.minus.ensures,
      c.column.ensures,
      c.remove-left.ensures,
    )
