-- A loop over the rules: those left, written behind what was written, make the whole.
use Rattle.rule_rows.specs.views.Row.{rule_records}
use Prim.Native.Nat.{ℕ, ◌+◌, ◌≤◌}
use mathlib.Core.Path.{◌≡◌, refl, sym, ap, ◌∙◌}
use mathlib.Core.List.{List}
use lib.ListN.{length, drop}
use native.Mathlib.Omega.{arith}
use Rattle.records.specs.Writing.{splice}
use Rattle.records.proofs.Writing.{splice_none}
use Rattle.tidy_rows.specs.declared.Moved.{Moved}
use Rattle.tidy_rows.specs.views.TidyRow.{tidy_onward}
use Rattle.tidying.specs.views.TidyRows.{tidy_rows}
use Rattle.tidying.proofs.RuleTurns.{rows_all, rows_done, turn_size, turn_row, turn_written}
use Rattle.tidying.proofs.sheets.put_rules.Goals as goal

pub loop-init : goal.loop-init
loop-init c =
    let s = c.args.s.now in
    let all = rows_all c.args.arity c.args.rules s in
    (c.requires.0, refl, ap (λ (l : List ℕ). c.args.start + length l) all, ap (splice c.args.buf.now c.args.start) all)

pub meet_row-requires : goal.meet_row-requires
meet_row-requires c = (record { inside = c.loop.invariant.0; counted = omega arith }, refl)

pub put_rule-moved-requires : goal.put_rule-moved-requires
put_rule-moved-requires c =
    let turn = c.loop in
    let s = c.args.s.now in
    let arity = c.args.arity in
    let rules = c.args.rules in
    let at = c.loop.at in
    let i = c.loop.counter in
    let inv = c.loop.invariant in
    let buf = c.loop.buf in
    let end = c.loop.end in
    let here = c.loop-test.true in
    let is = c.meet_row.ensures.words_after in
    let row = ap length (turn_row arity rules s i at here refl is) in
    let room : end + length (tidy_onward (record { words = c.meet_row.new.words; count = 0 }) (rule_records arity (drop at s)))
    ≤ length buf =
    omega (arith, row, turn_size arity rules s i at here refl, inv.1, inv.2, c.requires.1) in
    (record { inside = inv.0; counted = omega arith }, omega arith, c.meet_row.ensures.words_len, room)

pub loop-preserved : goal.loop-preserved
loop-preserved c =
    let turn = c.loop in
    let s = c.args.s.now in
    let arity = c.args.arity in
    let rules = c.args.rules in
    let at = c.loop.at in
    let i = c.loop.counter in
    let inv = c.loop.invariant in
    let buf = c.loop.buf in
    let end = c.loop.end in
    let here = c.loop-test.true in
    let is = c.meet_row.ensures.words_after in
    let row = ap length (turn_row arity rules s i at here refl is) in
    let room : end + length (tidy_onward (record { words = c.meet_row.new.words; count = 0 }) (rule_records arity (drop at s)))
    ≤ length buf =
    omega (arith, row, turn_size arity rules s i at here refl, inv.1, inv.2, c.requires.1) in
    let put = c.put_rule-moved.ensures in
    let from = ap (λ (m : Moved). m.from) put.value in
    let to = ap (λ (m : Moved). m.to) put.value in (
      put.from_in_bounds,
      c.buf-1.given ∙ inv.1,
      omega (arith, to, row, turn_size arity rules s i at here from, inv.2),
      turn_written arity rules s i at here from is buf end room put.buf_after to ∙ inv.3,
    )

pub shape_of-buf : goal.shape_of-buf
shape_of-buf c = c.loop.invariant.1

pub returns : goal.returns
returns c =
    let turn = c.loop in
    let s = c.args.s.now in
    let arity = c.args.arity in
    let rules = c.args.rules in
    let at = c.loop.at in
    let i = c.loop.counter in
    let inv = c.loop.invariant in
    let buf = c.loop.buf in
    let end = c.loop.end in
    let none = rows_done arity rules s i at c.loop-test.false in
    let to : end ≡ c.args.start + length (tidy_rows arity rules (drop 3 s)) = omega (arith, inv.2, ap length none) in
    (to, splice_none buf end ∙ ap (splice buf end) (sym none) ∙ inv.3)
