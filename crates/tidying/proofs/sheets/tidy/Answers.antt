-- The sheet's questions, then 31; then the header and the rules are written.
use mathlib.Core.Path.{sym, ap, ◌∙◌}
use lib.ListN.{length, drop}
use borrow.Author.Tests.{leb-true, leb-false}
use native.Mathlib.Omega.{arith}
use Prim.Native.Nat.{◌+◌, ◌≤◌}
use Rattle.std.proofs.lemmas.Result.{err_from_is_err_and}
use Rattle.records.proofs.ByteLists.{bytes_all}
use Rattle.sheet_tests.specs.CheckSheet.{sheet_check_values}
use Rattle.accepted.proofs.CheckedSheets.{check_refuses}
use Rattle.tidying.specs.views.TidyRows.{tidy_rows}
use Rattle.tidying.proofs.RowBounds.{rows_few}
use Rattle.tidying.proofs.TidiedSheets.{tidy_refused, sheet_whole, tidy_large, tidy_written}
use Rattle.tidying.proofs.sheets.tidy.Goals as goal

pub fits-requires : goal.fits-requires
fits-requires c =
    let s = c.args.sheet.now in
    let buffer = c.args.buffer.now in
    let bytes = bytes_all s (λ i. omega (arith, c.shared_slice_known-1.given i)) in
    let told = sym (ap sheet_check_values c.in_ok-sizes.was) ∙ c.check_sheet.ensures in
    let x = c.in_ok-sizes.sizes in
    sheet_whole s bytes x told

pub returns-then-not-fits : goal.returns-then-not-fits
returns-then-not-fits c =
    let s = c.args.sheet.now in
    let buffer = c.args.buffer.now in
    let bytes = bytes_all s (λ i. omega (arith, c.shared_slice_known-1.given i)) in
    let told = sym (ap sheet_check_values c.in_ok-sizes.was) ∙ c.check_sheet.ensures in
    let x = c.in_ok-sizes.sizes in
    let rows = tidy_rows x.arity x.rules (drop 3 s) in
    tidy_large s bytes x told buffer (leb-false (3 + length rows) (length buffer) (sym c.fits.ensures ∙ c.if-not-fits.true))

pub put-start-requires : goal.put-start-requires
put-start-requires c =
    let s = c.args.sheet.now in
    let buffer = c.args.buffer.now in
    let bytes = bytes_all s (λ i. omega (arith, c.shared_slice_known-1.given i)) in
    let told = sym (ap sheet_check_values c.in_ok-sizes.was) ∙ c.check_sheet.ensures in
    let x = c.in_ok-sizes.sizes in
    let rows = tidy_rows x.arity x.rules (drop 3 s) in
    let room : 3 + length rows ≤ length buffer = leb-true (3 + length rows) (length buffer) (sym c.fits.ensures ∙ c.if-not-fits.false) in
    omega (arith, room)

pub put_rules-end-requires : goal.put_rules-end-requires
put_rules-end-requires c =
    let s = c.args.sheet.now in
    let buffer = c.args.buffer.now in
    let bytes = bytes_all s (λ i. omega (arith, c.shared_slice_known-1.given i)) in
    let told = sym (ap sheet_check_values c.in_ok-sizes.was) ∙ c.check_sheet.ensures in
    let x = c.in_ok-sizes.sizes in
    let rows = tidy_rows x.arity x.rules (drop 3 s) in
    let room : 3 + length rows ≤ length buffer = leb-true (3 + length rows) (length buffer) (sym c.fits.ensures ∙ c.if-not-fits.false) in
    (sheet_whole s bytes x told, omega (arith, c.put-start.ensures.0, c.buffer-1.given, room))

pub overflow_cast-result : goal.overflow_cast-result
overflow_cast-result c =
    let s = c.args.sheet.now in
    let buffer = c.args.buffer.now in
    let bytes = bytes_all s (λ i. omega (arith, c.shared_slice_known-1.given i)) in
    let told = sym (ap sheet_check_values c.in_ok-sizes.was) ∙ c.check_sheet.ensures in
    let x = c.in_ok-sizes.sizes in
    omega (arith, c.put-start.ensures.0, c.put_rules-end.ensures.0, rows_few x.arity x.rules (drop 3 s))

pub returns-in_err-sizes : goal.returns-in_err-sizes
returns-in_err-sizes c =
    let s = c.args.sheet.now in
    let out = err_from_is_err_and c.from_residual.result c.from_residual.ensures.1 in
    rw (out.1, out.2)
    (tidy_refused s c.args.buffer.now _
    (check_refuses s _ (sym (ap sheet_check_values c.in_err-sizes.was) ∙ c.check_sheet.ensures)))

pub returns : goal.returns
returns c =
    let s = c.args.sheet.now in
    let buffer = c.args.buffer.now in
    let bytes = bytes_all s (λ i. omega (arith, c.shared_slice_known-1.given i)) in
    let told = sym (ap sheet_check_values c.in_ok-sizes.was) ∙ c.check_sheet.ensures in
    let x = c.in_ok-sizes.sizes in
    let rows = tidy_rows x.arity x.rules (drop 3 s) in
    let room : 3 + length rows ≤ length buffer = leb-true (3 + length rows) (length buffer) (sym c.fits.ensures ∙ c.if-not-fits.false) in
    tidy_written s bytes x told buffer room
    c.put-start.ensures.0 c.put-start.ensures.1 c.put_rules-end.ensures.0 c.put_rules-end.ensures.1
