-- `node::case_record` meets its contract.
use Prim.Native.Nat.{ℕ, ◌/◌, ◌%◌}
use mathlib.Core.Path.{◌≡◌, sym, ◌∙◌}
use mathlib.Core.List.{[], ◌∷◌}
use native.Mathlib.Omega.{arith}
use borrow.Author.Tests.{lt-ltb, le-ltb}
use Rattle.records.specs.Fields.{wide_then}
use Rattle.terms.specs.Term.{gauge_of, value_of}
use Rattle.decision.specs.Cases.{numbers_case}
use Rattle.decision.specs.GraphBytes.{case_bytes}
use Rattle.graph.specs.declared.CaseRecord.TheVariants.{Numbers}
use Rattle.graph.specs.views.WriteNode.{case_record_bytes}
use Rattle.graph.proofs.GaugedCases.{gauged_bytes}
use Rattle.emit.proofs.node.case_record.Goals as goal

-- The gauge and the values of the numbers that two codes are of.
numbers_bytes
    : (first last node : ℕ)
    → case_record_bytes (Numbers (first % 0x1_0000) (last % 0x1_0000) node (first / 0x1_0000 % 256))
    ≡ case_bytes (numbers_case (first % 0x100_0000) (last % 0x100_0000)) node
numbers_bytes first last node =
    let gauge : gauge_of (first % 0x100_0000) ≡ first / 0x1_0000 % 256 = omega arith in
    let low : value_of (first % 0x100_0000) ≡ first % 0x1_0000 = omega arith in
    let high : value_of (last % 0x100_0000) ≡ last % 0x1_0000 = omega arith in
    gauged_bytes (first / 0x1_0000 % 256) (first % 0x1_0000) (last % 0x1_0000) node (omega arith) (omega arith)
    ∙ sym (λ i. 0x46 ∷ gauge i ∷ wide_then (low i) (wide_then (high i) (wide_then node [])))

pub returns-then-first-lt33554432 : goal.returns-then-first-lt33554432
returns-then-first-lt33554432 c = simp (lt-ltb _ _ c.if-first-lt33554432.true)

pub returns-then-first-lt50331648 : goal.returns-then-first-lt50331648
returns-then-first-lt50331648 c = simp (le-ltb _ _ c.if-first-lt33554432.false, lt-ltb _ _ c.if-first-lt50331648.true)

pub returns : goal.returns
returns c =
    let a = c.args in
    simp (le-ltb _ _ c.if-first-lt33554432.false, le-ltb _ _ c.if-first-lt50331648.false) (numbers_bytes a.first a.last a.node)
