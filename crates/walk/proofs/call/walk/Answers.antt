-- `walk::call::walk` meets its contract: the sheet is refused, or the piece is asked about.
use mathlib.Core.Path.{ap, subst, ◌∙◌}
use native.Mathlib.Omega.{arith}
use Rattle.sheet_tests.specs.views.TestsRead.{CountsTests}
use Rattle.accepted.proofs.FoundTests.{found_accepts, found_refuses}
use Rattle.std.proofs.lemmas.Result.{err_from_is_err_and}
use Rattle.walk.specs.Walking.{reply_values}
use Rattle.walk.proofs.Replies.{sheet_refuses, sheet_accepts}
use Rattle.walk.proofs.call.walk.Goals as goal

pub walk_piece-requires : goal.walk_piece-requires
walk_piece-requires c =
    let words = c.read_tests.new.words in
    let codes = c.read_tests.new.codes in
    let held = c.read_tests.ensures.held in
    let counted = subst (CountsTests words) c.in_ok-read.was held.counted in record {
      arrays = record { all_words = held.all_words; all_codes = held.all_codes; few_tests = omega (arith, counted.0, counted.1) };
      accepted_tests = found_accepts c.args.sheet.now words codes c.read_tests.ensures.result_after c.in_ok-read.was;
    }

pub returns-in_err-read : goal.returns-in_err-read
returns-in_err-read c =
    let a = c.args in
    let words = c.read_tests.new.words in
    let codes = c.read_tests.new.codes in
    let no = err_from_is_err_and c.from_residual.result c.from_residual.ensures.1 in
    rw (no.1, no.2)
    (ap reply_values
    (sheet_refuses a.sheet.now a.graph.now a.piece.now
    (found_refuses a.sheet.now words codes c.read_tests.ensures.result_after c.in_err-read.was)))

pub returns : goal.returns
returns c =
    let a = c.args in
    let words = c.read_tests.new.words in
    let codes = c.read_tests.new.codes in
    let t = found_accepts a.sheet.now words codes c.read_tests.ensures.result_after c.in_ok-read.was in
    ap reply_values (c.walk_piece.ensures t ∙ sheet_accepts a.sheet.now a.graph.now a.piece.now t.read.accepted)
