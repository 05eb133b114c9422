-- `met::add` meets its contract.
use Rattle.std.proofs.Common.{◌<◌, arith}
use Rattle.met.proofs.Adding.{keys_added, chained_added}
use Rattle.met.proofs.add.Goals as goal

pub returns : goal.returns
returns c =
    let a = c.args in
    let t = c.args.t.now in
    let chained = c.requires.0 in
    let n = c.count-n in
    let h = c.hash-h in
    let few : n.result < 1024 = omega (arith, n.ensures, c.requires.1) in (
      keys_added t n.result h.result a.live a.pending chained.size few h.ensures.1 chained n.ensures
          h.ensures.0,
      chained_added t n.result h.result a.live a.pending chained.size few h.ensures.1 chained n.ensures
          h.ensures.0 c.requires.2,
    )
