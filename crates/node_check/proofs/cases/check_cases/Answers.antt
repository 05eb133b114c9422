-- `node_check::cases::check_cases` meets its contract: what was found and what is still to be read give what all cases give.
use Rattle.node_check.proofs.CasesPass.{case_fits, pass_starts, pass_next, pass_refused, pass_ends}
use Rattle.std.specs.Prelude.{Ok}
use Rattle.graph.specs.views.NodeRecord.{case_head}
use Rattle.records.proofs.Parts.{rest}
use lib.ListN.{drop, length-drop}
use native.Mathlib.Omega.{arith}
use mathlib.Core.Path.{◌≡◌, sym, ap, ◌∙◌}
use Rattle.records.proofs.ByteLists.{bytes_all}
use Rattle.std.proofs.lemmas.Result.{err_from_is_err_and}
use Rattle.node_check.proofs.cases.check_cases.Goals as goal
use Rattle.node_check.proofs.cases.check_cases.Goals.{In_ok-c}

pub loop-init : goal.loop-init
loop-init c = let a = c.args in (omega arith, pass_starts a.nodes a.count a.s.now (bytes_all a.s.now (λ i. omega (arith, c.type_inv.s i))))

-- The case that was told.
told : (c : In_ok-c) → case_head (drop c.loop.at c.args.s.now) ≡ Ok c.in_ok-c.c
told c = ap case_head (sym (rest c.args.s.now c.loop.at)) ∙ sym c.in_ok-c.ensures

pub returns-in_err-c : goal.returns-in_err-c
returns-in_err-c c =
    let a = c.args in
    let loop = c.loop in
    let p = err_from_is_err_and c.from_residual.result c.from_residual.ensures.1 in
    rw (p.1, p.2)
    (sym
    (loop.invariant.1
    ∙ pass_refused a.nodes a.count a.s.now loop.counter loop.at loop.end loop.inside loop.ascend (omega arith)
    (ap case_head (sym (rest a.s.now loop.at)) ∙ sym c.in_err-c.ensures)))

pub overflow_add-at : goal.overflow_add-at
overflow_add-at c =
    let s = c.args.s.now in
    let loop = c.loop in
    let fits = case_fits (drop loop.at s) (told (goal.at.overflow_add-at c).In_ok-c) in
    omega (arith, ap (λ r. r.bytes) c.case_range-range.ensures, length-drop loop.at s)

pub loop-preserved : goal.loop-preserved
loop-preserved c =
    let a = c.args in
    let s = c.args.s.now in
    let loop = c.loop in
    let head = told (goal.at.loop-preserved c).In_ok-c in
    let fits = case_fits (drop loop.at s) head in (
      omega (arith, ap (λ r. r.bytes) c.case_range-range.ensures, length-drop loop.at s),
      simp (c.comes_after-ascend.ensures, c.case_range-range.ensures)
          (loop.invariant.1
          ∙ pass_next a.nodes a.count s loop.counter loop.at loop.end loop.inside loop.ascend (omega arith) c.in_ok-c.c head),
    )

pub returns : goal.returns
returns c =
    let a = c.args in
    let loop = c.loop in
    sym (loop.invariant.1 ∙ pass_ends a.nodes a.count a.s.now loop.counter loop.at loop.end loop.inside loop.ascend (omega arith))
