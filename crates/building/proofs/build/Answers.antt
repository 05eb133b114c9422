-- The sheet's questions, then its graph.
use mathlib.Core.Path.{refl, ◌∙◌}
use native.Mathlib.Omega.{arith}
use Rattle.std.proofs.lemmas.Result.{err_from_is_err_and}
use Rattle.records.proofs.Parts.{rest}
use Rattle.sheet_tests.proofs.Scanning.{bytes_known}
use Rattle.accepted.proofs.FoundTests.{found_accepts, found_refuses}
use Rattle.decision.specs.Graph.{lowest_first}
use Rattle.order.specs.Asking.{lowest}
use Rattle.building.proofs.SheetTables.{few_tests_lem, lowest_listed, outcome_refused, sheet_kept, outcome_kept}
use Rattle.building.proofs.build.Goals as goal

pub list_sheet-requires : goal.list_sheet-requires
list_sheet-requires c =
    let s = c.args.sheet.now in
    let tests = c.read_tests.ensures in
    let found = found_accepts s _ _ tests.result_after c.in_ok-read.was in
    let few = few_tests_lem _ _ c.in_ok-read.was tests.held in record {
      words_len = (tests.held.all_words, tests.held.all_codes, few);
      s_value = (refl, refl);
    }

pub slice_bounds-build_listed-count : goal.slice_bounds-build_listed-count
slice_bounds-build_listed-count c =
    let s = c.args.sheet.now in
    let tests = c.read_tests.ensures in
    let found = found_accepts s _ _ tests.result_after c.in_ok-read.was in
    omega (arith, found.read.whole)

pub slice_bounds-build_listed-start : goal.slice_bounds-build_listed-start
slice_bounds-build_listed-start c =
    let s = c.args.sheet.now in
    let tests = c.read_tests.ensures in
    let found = found_accepts s _ _ tests.result_after c.in_ok-read.was in
    omega (arith, found.read.whole)

pub build_listed-requires : goal.build_listed-requires
build_listed-requires c =
    let s = c.args.sheet.now in
    let tests = c.read_tests.ensures in
    let found = found_accepts s _ _ tests.result_after c.in_ok-read.was in
    let bytes = bytes_known s (λ i. omega (arith, c.type_inv.sheet i)) in
    let held = sheet_kept s _ _ _ _ _ found (rest s 3) bytes in
    let few = few_tests_lem _ _ c.in_ok-read.was tests.held in
    let list = c.list_sheet.ensures in
    (lowest_first found.read.sheet.rules, found.read.sheet.rules, lowest_listed held tests.held.all_codes few list.numbers_after list.s_after)

pub returns-in_err-read : goal.returns-in_err-read
returns-in_err-read c =
    let s = c.args.sheet.now in
    let tests = c.read_tests.ensures in
    let out = err_from_is_err_and c.from_residual.result c.from_residual.ensures.1 in
    rw (out.1, out.2)
    (outcome_refused lowest s c.args.buf.now _ (found_refuses s _ _ tests.result_after c.in_err-read.was))

pub returns : goal.returns
returns c =
    let s = c.args.sheet.now in
    let tests = c.read_tests.ensures in
    let found = found_accepts s _ _ tests.result_after c.in_ok-read.was in
    let bytes = bytes_known s (λ i. omega (arith, c.type_inv.sheet i)) in
    let held = sheet_kept s _ _ _ _ _ found (rest s 3) bytes in
    let few = few_tests_lem _ _ c.in_ok-read.was tests.held in
    let list = c.list_sheet.ensures in
    c.build_listed.ensures _ _ (lowest_listed held tests.held.all_codes few list.numbers_after list.s_after)
    ∙ outcome_kept lowest s c.args.buf.now _ _ _ _ _ found lowest_first refl
