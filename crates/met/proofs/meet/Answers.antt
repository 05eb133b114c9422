-- `met::meet` meets its contract.
use Rattle.std.proofs.Common.{◌∙◌, arith}
use Rattle.edges.specs.views.VertexKey.{key_in}
use Rattle.met.proofs.Meeting.{meet_old, meet_new, new_number_lem, meet_more}
use Rattle.met.proofs.meet.Goals as goal

pub returns-then-number-n : goal.returns-then-number-n
returns-then-number-n c =
    let a = c.args in
    let number = c.find-number in
    let n = c.count-n in
    let below = c.if-number-n.true in record {
      t_after = (
        λ l. meet_old a.t.now (key_in a.key) number.ensures (omega (arith, n.ensures, below)),
        λ l. absurd (omega (arith, n.ensures, below, c.requires.few)),
      );
      chained = c.requires;
    }

pub returns-then-n-ge1024 : goal.returns-then-n-ge1024
returns-then-n-ge1024 c =
    let a = c.args in
    let number = c.find-number in
    let n = c.count-n in
    let above = c.if-number-n.false in
    let full = c.if-n-ge1024.true in record {
      t_after = (
        λ l. absurd (omega (arith, above, full)),
        λ l. omega (
          arith,
          meet_more a.t.now (key_in a.key) number.ensures (omega (arith, n.ensures, above)),
          n.ensures,
          full,
        ),
      );
      chained = c.requires;
    }

pub add-requires : goal.add-requires
add-requires c =
    let a = c.args in
    let number = c.find-number in
    let n = c.count-n in (
      c.requires,
      omega (arith, n.ensures, c.if-n-ge1024.false),
      new_number_lem a.t.now (key_in a.key) number.ensures (omega (arith, n.ensures, c.if-number-n.false)),
    )

pub returns : goal.returns
returns c =
    let a = c.args in
    let number = c.find-number in
    let n = c.count-n in
    let above = c.if-number-n.false in
    let room = c.if-n-ge1024.false in
    let same = new_number_lem a.t.now (key_in a.key) number.ensures (omega (arith, n.ensures, above)) in record {
      t_after = (
        λ l. c.add.ensures.0
            ∙ meet_new a.t.now (key_in a.key) number.ensures (omega (arith, n.ensures, above)),
        λ l. absurd (omega (arith, number.ensures, same, n.ensures, room)),
      );
      chained = c.add.ensures.1;
    }
