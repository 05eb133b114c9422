-- `put_first` meets its contract: the line of a piece, or that of a refusal.
use mathlib.Core.Path.{sym, ap, ◌∙◌}
use native.Mathlib.Omega.{arith}
use Rattle.std.specs.Prelude.{Result}
use Rattle.records.specs.Reading.{refused}
use Rattle.records.specs.declared.refusal.Refusal.{Refusal}
use Rattle.walk_all.specs.declared.First.{First}
use Rattle.walk_all.specs.views.FirstPiece.{first_of}
use Rattle.piece_lines.specs.views.Turned.{answered}
use Rattle.piece_lines.proofs.Turns.{turned_last}
use Rattle.piece_lines.proofs.put_first.Goals as goal

pub returns-in-Err : goal.returns-in-Err
returns-in-Err c =
    let a = c.args in
    let call = c.put_refused in record {
      out_after = turned_last a.out.now a.at a.number call.ensures.value
          (ap (λ (x : Result (First Refusal) Refusal). answered (first_of x)) c.in-Err.is ∙ ap refused (sym c.number.ensures));
      by_index = λ bytes w. omega (arith, call.ensures.upper_bound);
    }
