-- The first record, then the rules.
use Rattle.std.proofs.Common.{sym, ap, ◌∙◌, arith}
use Rattle.records.proofs.Parts.{rest, rest_length}
use Rattle.sheet.specs.views.HeaderRead.{header_read}
use Rattle.sheet.specs.ReadSheet.{read_rules, end_sheet}
use Rattle.sheet_tests.specs.CheckSheet.{ask_tests}
use Rattle.sheet_tests.specs.views.TestsRead.{sheet_found}
use Rattle.sheet_tests.proofs.Checking.{handed_on, header_refused, header_known, header_read_lem}
use Rattle.sheet_tests.proofs.sheets.tests_noted.Goals as goal

pub returns-in_err-header-clause-result_after : goal.returns-in_err-header-clause-result_after
returns-in_err-header-clause-result_after c =
    handed_on c.args.words.now c.args.codes.now _ _ c.from_residual.ensures.1
    (header_refused c.args.s.now c.args.words.now c.args.codes.now _
    (sym (ap header_read c.in_err-header.was) ∙ c.read_header.ensures))

pub slice_bounds-read_rules-count : goal.slice_bounds-read_rules-count
slice_bounds-read_rules-count c =
    omega (arith, header_known c.args.s.now (sym (ap header_read c.in_ok-header.was) ∙ c.read_header.ensures))

pub slice_bounds-read_rules-start : goal.slice_bounds-read_rules-start
slice_bounds-read_rules-start c =
    omega (arith, header_known c.args.s.now (sym (ap header_read c.in_ok-header.was) ∙ c.read_header.ensures))

pub read_rules-requires : goal.read_rules-requires
read_rules-requires c =
    let known = header_known c.args.s.now (sym (ap header_read c.in_ok-header.was) ∙ c.read_header.ensures) in
    (known.1, c.requires.0, c.requires.1, known.2, c.requires.2, c.requires.3)

pub returns-clause-result_after : goal.returns-clause-result_after
returns-clause-result_after c =
    let s = c.args.s.now in
    let arity = c.in_ok-header.header.arity in
    let rules = c.in_ok-header.header.rules in
    c.read_rules.ensures.result_after
    ∙ (λ j. sheet_found (ask_tests (end_sheet arity (rest_length s 3 j) (read_rules arity rules (rest s 3 j)))))
    ∙ sym (ap sheet_found (header_read_lem s (sym (ap header_read c.in_ok-header.was) ∙ c.read_header.ensures)))
