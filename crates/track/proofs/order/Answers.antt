-- `track::order` meets its contract: 37, then 38, then the table.
use Rattle.track.proofs.PutInOrder.{not_long, no_room, written}
use Rattle.track.proofs.order.Goals as goal

pub returns-then-positions-ne1360 : goal.returns-then-positions-ne1360
returns-then-positions-ne1360 c = not_long _ _ c.if-positions-ne1360.true

pub returns-then-buf-lt1360 : goal.returns-then-buf-lt1360
returns-then-buf-lt1360 c = no_room _ _ c.if-positions-ne1360.false c.if-buf-lt1360.true

pub put_order-requires : goal.put_order-requires
put_order-requires c = (c.if-positions-ne1360.false, c.if-buf-lt1360.false)

pub returns : goal.returns
returns c =
    written _ _ _ c.if-positions-ne1360.false c.if-buf-lt1360.false
    c.put_order.ensures
