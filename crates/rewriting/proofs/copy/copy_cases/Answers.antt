-- `rewriting::copy::copy_cases` meets its contract: the cases that are left, written behind those that were, complete them.
use Rattle.std.specs.Prelude.{Ok}
use Rattle.node_check.proofs.CopiedRecords.{edge_read, edge_bytes_lem}
use Rattle.node_check.proofs.Copying.{copied_starts, copied_first, copied_fits, Copied-next, copied_ends}
use Rattle.node_check.proofs.CasesPass.{case_refused}
use Rattle.graph.proofs.SpelledCases.{edge_bytes, EdgeFields, case_spelled}
use Rattle.graph.specs.views.NodeRecord.{case_head}
use Rattle.decision.specs.GraphBytes.{cases_bytes}
use Rattle.records.proofs.Parts.{rest}
use Rattle.records.specs.Writing.{splice}
use lib.ListN.{length, drop}
use native.Mathlib.Omega.{arith}
use Prim.Native.Nat.{◌+◌}
use mathlib.Core.Path.{◌≡◌, refl, sym, ap, ◌∙◌}
use Rattle.graph.specs.ReadGraph.{read_case}
use Rattle.records.proofs.ByteLists.{bytes_all}
use Rattle.rewriting.proofs.copy.copy_cases.Goals as goal

pub loop-init : goal.loop-init
loop-init c =
    let a = c.args in
    (refl, copied_starts read_case cases_bytes a.s.now a.start a.count a.buf.now c.requires.0 c.requires.1 c.requires.2)

pub returns-in_err-c : goal.returns-in_err-c
returns-in_err-c c =
    let a = c.args in
    let s = c.args.s.now in
    let loop = c.loop in
    let h = bytes_all s (λ i. omega (arith, c.type_inv.s i)) in
    let copied = c.loop.invariant.1 in
    absurd (copied_first edge_bytes EdgeFields read_case case_spelled cases_bytes refl (λ d cs. refl) h copied (omega arith) (case_refused (drop loop.at s) (ap case_head (sym (rest s loop.at)) ∙ sym c.in_err-c.ensures)))

pub put_case-at-requires : goal.put_case-at-requires
put_case-at-requires c =
    let a = c.args in
    let s = c.args.s.now in
    let loop = c.loop in
    let h = bytes_all s (λ i. omega (arith, c.type_inv.s i)) in
    let copied = c.loop.invariant.1 in
    let c' = c.in_ok-c.c in
    let told : case_head (drop loop.at s) ≡ Ok c' = ap case_head (sym (rest s loop.at)) ∙ sym c.in_ok-c.ensures in
    let read = edge_read (drop loop.at s) c' told in
    omega (arith, copied_fits edge_bytes EdgeFields read_case case_spelled cases_bytes refl (λ d cs. refl) h copied (omega arith) read, ap length (edge_bytes_lem c'))

pub loop-preserved : goal.loop-preserved
loop-preserved c =
    let a = c.args in
    let s = c.args.s.now in
    let loop = c.loop in
    let h = bytes_all s (λ i. omega (arith, c.type_inv.s i)) in
    let copied = c.loop.invariant.1 in
    let c' = c.in_ok-c.c in
    let told : case_head (drop loop.at s) ≡ Ok c' = ap case_head (sym (rest s loop.at)) ∙ sym c.in_ok-c.ensures in
    let read = edge_read (drop loop.at s) c' told in
    let next = Copied-next edge_bytes EdgeFields read_case case_spelled cases_bytes refl (λ d cs. refl) h copied (omega arith) read
    (c.put_case-at.ensures.0 ∙ ap (λ l. loop.at + length l) (sym (edge_bytes_lem c')))
    (c.put_case-at.ensures.1 ∙ ap (splice loop.buf loop.at) (sym (edge_bytes_lem c'))) in
    (omega arith, next)

pub returns : goal.returns
returns c =
    let a = c.args in
    let s = c.args.s.now in
    let loop = c.loop in
    let h = bytes_all s (λ i. omega (arith, c.type_inv.s i)) in
    let copied = c.loop.invariant.1 in
    let ends = copied_ends edge_bytes EdgeFields read_case case_spelled cases_bytes refl (λ d cs. refl) h copied (omega arith) in
    (ap Ok ends.0, ends.1)
