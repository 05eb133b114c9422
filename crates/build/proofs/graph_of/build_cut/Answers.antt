-- The rules are put into tables and cuts, and the graph is grown from these.
use mathlib.Core.Path.{◌∙◌}
use Rattle.build.proofs.GrownBytes.{compiled_written, compiled_parted}
use Rattle.build.proofs.graph_of.build_cut.Goals as goal

pub build_tables-requires : goal.build_tables-requires
build_tables-requires c =
    let (order, all, g) = c.requires in
    compiled_parted (c.table_rules.ensures order all g)

pub returns : goal.returns
returns c = λ order all g.
    let a = c.args in
    c.build_tables.ensures
    ∙ compiled_written a.arity a.buf.now g.accepted (c.table_rules.ensures order all g)
