-- The rules are read and their tests gathered; then question 10, and question 11.
use Rattle.std.proofs.Common.{◌∙◌, arith}
use Rattle.records.specs.Fields.{AreBytes}
use Rattle.sheet_tests.proofs.Scanning.{bytes_known}
use Rattle.sheet_tests.proofs.Checking.{RulesRead, at_start, rules_gathered, places_few, tests_many, tests_number, check_many, check_accepted}
use Rattle.sheet_tests.proofs.sheets.read_rules.Goals as goal
use Rattle.sheet_tests.proofs.sheets.read_rules.Goals.{In_ok-scan}

-- The rules that were read.
rules_read
    : (c : In_ok-scan) → AreBytes c.args.s.now
    → RulesRead c.args.arity c.args.rules c.args.s.now c.scan_rules.new.words c.scan_rules.new.codes
    c.in_ok-scan.scan.bytes c.in_ok-scan.scan.pairs
rules_read c bytes =
    let a = c.args in
    rules_gathered a.arity a.rules a.s.now c.scan_rules.new.words c.scan_rules.new.codes (omega arith) bytes c.in_ok-scan.was
    (c.scan_rules.ensures.result_after ∙ at_start a.arity a.rules a.s.now c.requires.1 c.requires.2)

pub returns-then-scan-gt64-clause-result_after : goal.returns-then-scan-gt64-clause-result_after
returns-then-scan-gt64-clause-result_after c =
    let bytes = bytes_known c.args.s.now (λ i. omega (arith, c.type_inv.s i)) in
    let read = rules_read (goal.at.returns-then-scan-gt64-clause-result_after c).In_ok-scan bytes in
    check_many read (omega arith) (tests_many read (omega arith))

pub overflow_add-places : goal.overflow_add-places
overflow_add-places c =
    let words = c.scan_rules.new.words in
    omega (arith, c.count_places-places.ensures, places_few words, c.scan_rules.ensures.scanned.all_words)

pub returns-then-places-scan-gt64-clause-result_after : goal.returns-then-places-scan-gt64-clause-result_after
returns-then-places-scan-gt64-clause-result_after c =
    let bytes = bytes_known c.args.s.now (λ i. omega (arith, c.type_inv.s i)) in
    let read = rules_read (goal.at.returns-then-places-scan-gt64-clause-result_after c).In_ok-scan bytes in
    let many = tests_number read (omega arith) (omega (arith, c.scan_rules.ensures.scanned.all_codes)) in
    check_many read (omega arith) (omega (arith, c.count_places-places.ensures))

pub returns-clause-result_after : goal.returns-clause-result_after
returns-clause-result_after c =
    let bytes = bytes_known c.args.s.now (λ i. omega (arith, c.type_inv.s i)) in
    let read = rules_read (goal.at.returns-clause-result_after c).In_ok-scan bytes in
    let many = tests_number read (omega arith) (omega (arith, c.scan_rules.ensures.scanned.all_codes)) in
    check_accepted read (omega arith) (omega (arith, c.count_places-places.ensures)) (omega arith)
