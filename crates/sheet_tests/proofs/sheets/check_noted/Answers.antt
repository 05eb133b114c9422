-- The tests are read, then counted.
use Rattle.sheet_tests.specs.CheckSheet.{accept_sheet}
use Rattle.sheet_tests.proofs.Checking.{check_yes}
use Rattle.sheet_tests.proofs.sheets.check_noted.Goals as goal

pub returns-clause-result_value : goal.returns-clause-result_value
returns-clause-result_value c =
    let read = c.tests_noted in
    check_yes read.new.words read.new.codes c.in_ok-read.was read.ensures.held (accept_sheet c.args.s.now)
    read.ensures.result_after
