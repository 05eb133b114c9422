-- `row::put_header` meets its contract.
use Rattle.emit.proofs.row.put_header.Goals as goal

pub returns : goal.returns
returns c =
    let high = c.high in
    let low = c.low in
    let put = c.put in
    simp (high.ensures, low.ensures) at put.ensures
