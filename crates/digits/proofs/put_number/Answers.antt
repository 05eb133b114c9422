-- `digits::put_number` meets its contract: the digits, then the byte after them.
use mathlib.Core.List.{[], ◌∷◌}
use Rattle.digits.specs.Decimal.{decimal}
use Rattle.records.proofs.Wrote.{first_fits, rest_fits, wrote_more}
use Rattle.digits.proofs.put_number.Goals as goal

pub put_decimal-end-requires : goal.put_decimal-end-requires
put_decimal-end-requires c =
    let a = c.args in first_fits a.buf.now a.at (decimal a.n) (a.after ∷ []) c.requires

pub put-requires : goal.put-requires
put-requires c =
    let a = c.args in
    rest_fits a.buf.now a.at (decimal a.n) (a.after ∷ []) c.requires c.put_decimal-end.ensures

pub returns : goal.returns
returns c =
    let a = c.args in
    let digits = c.put_decimal-end.ensures in
    wrote_more a.buf.now a.at (decimal a.n) (a.after ∷ []) c.requires digits c.put.ensures
