-- The sheet's questions, those of the table, then the graph in its order.
use Prim.Native.Nat.{ℕ, ◌<◌}
use mathlib.Core.Path.{◌≡◌, refl, sym, ap, ◌∙◌}
use mathlib.Core.List.{List}
use native.Mathlib.Omega.{arith}
use Rattle.basics.specs.Lists.{All}
use Rattle.std.specs.Prelude.{Result, Ok, Err}
use Rattle.records.specs.Reading.{took, refused}
use Rattle.records.specs.Refusals.{number}
use Rattle.records.specs.declared.refusal.Refusal.{Refusal}
use Rattle.std.proofs.lemmas.Result.{err_from_is_err_and}
use Rattle.records.proofs.Parts.{rest}
use Rattle.sheet_tests.proofs.Scanning.{bytes_known}
use Rattle.accepted.proofs.FoundTests.{found_accepts, found_refuses}
use Rattle.order.specs.Table.{read_table}
use Rattle.order.specs.views.TableRead.{table_read}
use Rattle.order.specs.Asking.{by_table}
use Rattle.order.proofs.EveryPlace.{once_below}
use Rattle.order.proofs.TableAsks.{Ordering, table_ordering}
use Rattle.build.proofs.ListedTables.{listed_sizes}
use Rattle.building.proofs.SheetTables.{few_tests_lem, lowest_listed, ordered_listed, outcome_refused, table_refused}
use Rattle.building.proofs.SheetTables.{sheet_kept, ordered_kept}
use Rattle.building.proofs.build_ordered.Goals as goal

-- What is read of an accepted table, and of a refused one.
table_taken_lem
    : (table places : List ℕ) (r : Result Unit Refusal) {u : Unit} → r ≡ Ok u → table_read places r ≡ read_table table
    → read_table table ≡ took 1360 places
table_taken_lem table places r e read = sym read ∙ ap (table_read places) e

table_refuses
    : (table places : List ℕ) (r : Result Unit Refusal) {q : Refusal} → r ≡ Err q → table_read places r ≡ read_table table
    → read_table table ≡ refused (number q)
table_refuses table places r e read = sym read ∙ ap (table_read places) e

places_inside : {table places : List ℕ} → Ordering table places → All (λ (p : ℕ). p < 680) places
places_inside {table} {places} t = once_below places t.once

pub list_sheet-requires : goal.list_sheet-requires
list_sheet-requires c =
    let s = c.args.sheet.now in
    let tests = c.read_tests.ensures in
    let few = few_tests_lem _ _ c.in_ok-read.was tests.held in record {
      words_len = (tests.held.all_words, tests.held.all_codes, few);
      s_value = (refl, refl);
    }

pub by_places-requires : goal.by_places-requires
by_places-requires c =
    let s = c.args.sheet.now in
    let tests = c.read_tests.ensures in
    let found = found_accepts s _ _ tests.result_after c.in_ok-read.was in
    let bytes = bytes_known s (λ i. omega (arith, c.type_inv.sheet i)) in
    let held = sheet_kept s _ _ _ _ _ found (rest s 3) bytes in
    let few = few_tests_lem _ _ c.in_ok-read.was tests.held in
    let list = c.list_sheet.ensures in
    let read = table_taken_lem c.args.table.now _ _ c.in_ok-read_table.was c.read_table.ensures in
    let g = lowest_listed held tests.held.all_codes few list.numbers_after list.s_after in
    let t = table_ordering c.args.table.now _ read in
    let known = listed_sizes g in
    (t.size, places_inside t, known.0, known.1, known.2)

pub slice_bounds-build_listed-count : goal.slice_bounds-build_listed-count
slice_bounds-build_listed-count c =
    let s = c.args.sheet.now in
    let tests = c.read_tests.ensures in
    let found = found_accepts s _ _ tests.result_after c.in_ok-read.was in
    omega (arith, found.read.whole)

pub slice_bounds-build_listed-start : goal.slice_bounds-build_listed-start
slice_bounds-build_listed-start c =
    let s = c.args.sheet.now in
    let tests = c.read_tests.ensures in
    let found = found_accepts s _ _ tests.result_after c.in_ok-read.was in
    omega (arith, found.read.whole)

pub build_listed-requires : goal.build_listed-requires
build_listed-requires c =
    let s = c.args.sheet.now in
    let tests = c.read_tests.ensures in
    let found = found_accepts s _ _ tests.result_after c.in_ok-read.was in
    let bytes = bytes_known s (λ i. omega (arith, c.type_inv.sheet i)) in
    let held = sheet_kept s _ _ _ _ _ found (rest s 3) bytes in
    let few = few_tests_lem _ _ c.in_ok-read.was tests.held in
    let list = c.list_sheet.ensures in
    let read = table_taken_lem c.args.table.now _ _ c.in_ok-read_table.was c.read_table.ensures in
    let turned = c.by_places.ensures in
    (_, found.read.sheet.rules, ordered_listed held tests.held.all_codes few list.numbers_after list.s_after c.args.table.now read turned)

pub returns-in_err-read : goal.returns-in_err-read
returns-in_err-read c =
    let s = c.args.sheet.now in
    let tests = c.read_tests.ensures in
    let out = err_from_is_err_and c.from_residual.result c.from_residual.ensures.1 in
    rw (out.1, out.2)
    (outcome_refused (by_table c.args.table.now) s c.args.buf.now _
    (found_refuses s _ _ tests.result_after c.in_err-read.was))

pub returns-in_err-read_table : goal.returns-in_err-read_table
returns-in_err-read_table c =
    let s = c.args.sheet.now in
    let tests = c.read_tests.ensures in
    let found = found_accepts s _ _ tests.result_after c.in_ok-read.was in
    let out = err_from_is_err_and c.from_residual-in_err-read_table.result c.from_residual-in_err-read_table.ensures.1 in
    rw (out.1, out.2)
    (table_refused c.args.table.now s c.args.buf.now _ found.read.accepted
    (table_refuses c.args.table.now _ _ c.in_err-read_table.was c.read_table.ensures))

pub returns : goal.returns
returns c =
    let s = c.args.sheet.now in
    let tests = c.read_tests.ensures in
    let found = found_accepts s _ _ tests.result_after c.in_ok-read.was in
    let bytes = bytes_known s (λ i. omega (arith, c.type_inv.sheet i)) in
    let held = sheet_kept s _ _ _ _ _ found (rest s 3) bytes in
    let few = few_tests_lem _ _ c.in_ok-read.was tests.held in
    let list = c.list_sheet.ensures in
    let read = table_taken_lem c.args.table.now _ _ c.in_ok-read_table.was c.read_table.ensures in
    let turned = c.by_places.ensures in
    c.build_listed.ensures _ _
    (ordered_listed held tests.held.all_codes few list.numbers_after list.s_after c.args.table.now read turned)
    ∙ ordered_kept c.args.table.now s c.args.buf.now _ _ _ _ _ found read
