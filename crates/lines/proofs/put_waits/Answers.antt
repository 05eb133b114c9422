-- `lines::put_waits` meets its contract: the digits, then the line feed.
use mathlib.Core.List.{[], ◌∷◌}
use Rattle.lines.specs.Lines.{hex_digits}
use Rattle.lines.proofs.Wrote.{first_fits, rest_fits, wrote_more}
use Rattle.lines.proofs.put_waits.Goals as goal

pub put_hex-end-requires : goal.put_hex-end-requires
put_hex-end-requires c =
    let a = c.args in first_fits a.buf.now a.at (hex_digits 16 a.waits) (0x0a ∷ []) c.requires

pub put-requires : goal.put-requires
put-requires c =
    let a = c.args in
    rest_fits a.buf.now a.at (hex_digits 16 a.waits) (0x0a ∷ []) c.requires c.put_hex-end.ensures

pub returns : goal.returns
returns c =
    let a = c.args in
    let digits = c.put_hex-end.ensures in
    wrote_more a.buf.now a.at (hex_digits 16 a.waits) (0x0a ∷ []) c.requires digits c.put.ensures
