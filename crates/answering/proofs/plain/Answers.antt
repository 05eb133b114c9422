-- The sheet is checked, then the piece is answered for.
use Prim.Native.Nat.{ℕ, ◌-◌}
use mathlib.Core.Path.{sym, ap, subst, ◌∙◌}
use mathlib.Core.List.{List}
use native.Mathlib.Omega.{arith}
use lib.ListN.{length, take, drop, length-replicate}
use Rattle.std.proofs.lemmas.Result.{err_from_is_err_and}
use Rattle.records.proofs.ByteLists.{bytes_all}
use Rattle.records.proofs.Parts.{rest}
use Rattle.sheet_tests.specs.CheckSheet.{sheet_check_values}
use Rattle.sheet_tests.specs.views.Starts.{StartsIn, check_starts}
use Rattle.accepted.specs.views.AcceptedAs.{AcceptedAs}
use Rattle.accepted.proofs.CheckedSheets.{check_accepts, check_refuses}
use Rattle.plain.specs.Plain.{piece_reading, reading_values}
use Rattle.rule_by_rule.specs.views.SheetRules.{SheetRules}
use Rattle.answering.proofs.PieceAnswers.{sheet_refused, sheet_answers}
use Rattle.answering.proofs.RulesBehind.{sheet_rules}
use Rattle.answering.proofs.plain.Goals as goal
use Rattle.answering.proofs.plain.Goals.{In_ok-sizes}

pub check_noted-requires : goal.check_noted-requires
check_noted-requires c = (length-replicate {A = ℕ} 680 0, length-replicate {A = ℕ} 64 0)

-- Where the sheet was accepted.
module _ (c : In_ok-sizes) where
  abbrev known : AcceptedAs c.args.sheet.now c.in_ok-sizes.sizes.arity c.in_ok-sizes.sizes.rules
  known =
      check_accepts c.args.sheet.now c.in_ok-sizes.sizes
      (sym (ap sheet_check_values c.in_ok-sizes.was) ∙ c.check_noted.ensures.result_value)

  abbrev rules
      : let s = c.args.sheet.now in
      SheetRules (take (length s - 3) (drop 3 s)) c.in_ok-sizes.sizes.arity c.in_ok-sizes.sizes.rules
  rules =
      let s = c.args.sheet.now in
      sheet_rules s (bytes_all s (λ i. omega (arith, c.type_inv.sheet i))) known

pub slice_bounds-answer_piece-count : goal.slice_bounds-answer_piece-count
slice_bounds-answer_piece-count c = omega (arith, (known (goal.at.slice_bounds-answer_piece-count c).In_ok-sizes).whole)

pub slice_bounds-answer_piece-start : goal.slice_bounds-answer_piece-start
slice_bounds-answer_piece-start c = omega (arith, (known (goal.at.slice_bounds-answer_piece-start c).In_ok-sizes).whole)

pub answer_piece-requires : goal.answer_piece-requires
answer_piece-requires c =
    let s = c.args.sheet.now in
    let told = c.check_noted.ensures.check_starts in
    let starts =
    subst (check_starts (drop 3 s) c.check_noted.new.starts) c.in_ok-sizes.was
    told.0 in (
      rules (goal.at.answer_piece-requires c).In_ok-sizes,
      told.1,
      starts.0,
      subst
          (λ (l : List ℕ).
          StartsIn c.in_ok-sizes.sizes.arity l c.check_noted.new.starts
          c.in_ok-sizes.sizes.rules)
          (sym (rest s 3)) starts.1,
    )

pub returns-in_err-sizes : goal.returns-in_err-sizes
returns-in_err-sizes c =
    let a = c.args in
    let out = err_from_is_err_and c.from_residual.result c.from_residual.ensures.1 in
    rw (out.1, out.2)
    (sheet_refused a.sheet.now a.piece.now
    (check_refuses a.sheet.now _ (sym (ap sheet_check_values c.in_err-sizes.was) ∙ c.check_noted.ensures.result_value)))

pub returns : goal.returns
returns c =
    let a = c.args in
    let s = a.sheet.now in
    let p = a.piece.now in
    let is = known (goal.at.returns c).In_ok-sizes in
    c.answer_piece.ensures (rules (goal.at.returns c).In_ok-sizes)
    ∙ ap (λ (n : ℕ). reading_values (piece_reading n is.sheet.rules p)) (sym is.arity_is)
    ∙ sheet_answers s p is.accepted
