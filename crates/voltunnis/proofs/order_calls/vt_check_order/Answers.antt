-- The number of the check's refusal.
use mathlib.Core.Path.{◌∙◌}
use Rattle.packing.proofs.ByNumber.{refusal_numbered}
use Rattle.voltunnis.proofs.order_calls.vt_check_order.Goals as goal

pub returns : goal.returns
returns c =
    c.table_refusal.ensures ∙ refusal_numbered c.check_order.result c.numbered.ensures ∙ c.check_order.ensures
