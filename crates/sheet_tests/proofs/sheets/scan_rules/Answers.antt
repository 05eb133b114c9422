-- A loop over the rules: what comes of those left, with what is gathered, is what comes of all.
use Rattle.std.proofs.Common.{sym, ◌∙◌, arith}
use lib.ListN.{length-set}
use Rattle.records.specs.Fields.{AreBytes}
use Rattle.sheet.proofs.NoteArrays.{handed_on}
use Rattle.sheet_tests.specs.views.Gathered.{held}
use Rattle.sheet_tests.proofs.Starting.{starts_put, start_next}
use Rattle.sheet_tests.proofs.Scanning.{bytes_known, scan_end, scan_refused}
use Rattle.sheet_tests.proofs.MarkedRules.{RuleMarked, rule_marked, marks_refused, names_apart, names_meets, marked_placed, scan_turn}
use Rattle.sheet_tests.proofs.sheets.scan_rules.Goals as goal
use Rattle.sheet_tests.proofs.sheets.scan_rules.Goals.{In_ok-read}

-- The rule that was read.
rule_read
    : (c : In_ok-read) → AreBytes c.args.s.now
    → RuleMarked c.args.arity c.loop-i.at c.args.s.now c.loop-i.words c.read_marks.new.words c.read_marks.new.notes
    c.in_ok-read.read.bytes c.in_ok-read.read.notes
rule_read c bytes =
    let turn = c.loop-i in
    rule_marked c.args.arity turn.at c.args.s.now turn.words turn.notes _ _ c.read_marks.result
    c.read_marks.ensures.result_after c.requires.0 bytes turn.invariant.3 c.in_ok-read.was c.read_marks.ensures.took_within.0

pub returns-in_err-read-clause-result_after : goal.returns-in_err-read-clause-result_after
returns-in_err-read-clause-result_after c =
    let turn = c.loop-i in
    let s = c.args.s.now in
    let no =
    marks_refused c.args.arity turn.at s turn.words turn.notes _ _ c.read_marks.result c.read_marks.ensures.result_after
    c.in_err-read.was in
    handed_on _ _ _ c.from_residual.ensures.1
    (scan_refused c.args.arity c.args.rules s turn.i turn.at (held turn.words turn.codes turn.count) (omega arith) no
    ∙ turn.invariant.5)

pub returns-then-not-common-clause-result_after : goal.returns-then-not-common-clause-result_after
returns-then-not-common-clause-result_after c =
    let turn = c.loop-i in
    let s = c.args.s.now in
    let bytes = bytes_known s (λ i. omega (arith, c.type_inv.s i)) in
    let rule = rule_read (goal.at.returns-then-not-common-clause-result_after c).In_ok-read bytes in
    scan_refused c.args.arity c.args.rules s turn.i turn.at (held turn.words turn.codes turn.count) (omega arith)
    (names_apart rule (sym c.common.ensures ∙ c.if-not-common.true))
    ∙ turn.invariant.5

pub gather_rule-count-requires : goal.gather_rule-count-requires
gather_rule-count-requires c =
    let turn = c.loop-i in
    let bytes = bytes_known c.args.s.now (λ i. omega (arith, c.type_inv.s i)) in
    let rule = rule_read (goal.at.gather_rule-count-requires c).In_ok-read bytes in
    let told = c.read_marks.ensures.took_within in
    (rule.made, told.0.entries, marked_placed rule, told.1, turn.invariant.1, turn.invariant.4)

pub loop-i-preserved : goal.loop-i-preserved
loop-i-preserved c =
    let turn = c.loop-i in
    let s = c.args.s.now in
    let bytes = bytes_known s (λ i. omega (arith, c.type_inv.s i)) in
    let rule = rule_read (goal.at.loop-i-preserved c).In_ok-read bytes in
    let meet = sym c.common.ensures ∙ c.if-not-common.false in
    let gathered = c.gather_rule-count.ensures in (
      omega (arith, rule.used),
      gathered.words_len.1,
      c.read_marks.ensures.took_within.0.entries,
      gathered.words_len.0,
      gathered.words_len.2,
      scan_turn rule bytes meet c.args.rules turn.i turn.codes turn.count _ (omega arith) gathered.result_after
          ∙ turn.invariant.5,
      length-set turn.starts turn.i turn.at ∙ turn.invariant.6,
      start_next c.args.arity s turn.i turn.at turn.invariant.7 (names_meets rule meet),
      starts_put c.args.arity s turn.i turn.at turn.invariant.7 turn.starts
          (omega (arith, turn.invariant.6, c.requires.4)) turn.invariant.0 turn.invariant.8,
    )

pub returns-clause-result_after : goal.returns-clause-result_after
returns-clause-result_after c =
    let turn = c.loop-i in
    scan_end c.args.arity c.args.rules c.args.s.now turn.i turn.at (held turn.words turn.codes turn.count) (omega arith)
    ∙ turn.invariant.5
