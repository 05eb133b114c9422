-- `number_search::numbers::rank_at` meets its contract: a gauge and two wide fields, as codes.
use Prim.Native.Nat.{ℕ, ◌+◌}
use mathlib.Core.Path.{ap, ap₂, ◌∙◌}
use Rattle.records.specs.Fields.{byte_at}
use Rattle.terms.specs.Term.{on_gauge}
use Rattle.codes.specs.views.Codes.{number_code}
use Rattle.node_check.specs.views.CaseRanges.{rank_of}
use Rattle.number_search.proofs.WideFields.{wide_there}
use Rattle.number_search.proofs.numbers.rank_at.Goals as goal

pub returns : goal.returns
returns c =
    let a = c.args in
    let s = c.args.graph.now in
    let coded : ℕ → ℕ = λ v. number_code (on_gauge (byte_at s (a.at + 1)) v) in
    ap₂ rank_of
    (c.gauged_code-low.ensures ∙ ap coded (c.wide.ensures ∙ wide_there s a.at 2))
    (c.gauged_code-high.ensures ∙ ap coded (c.wide-2.ensures ∙ wide_there s a.at 4))
