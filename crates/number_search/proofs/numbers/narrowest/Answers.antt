-- `number_search::numbers::narrowest` meets its contract: the case that two searches find is the narrowest.
use Prim.Native.Nat.{ℕ, ◌+◌, ◌*◌, ◌/◌, ◌≤◌}
use mathlib.Core.Path.{sym, ap, ◌∙◌}
use native.Mathlib.Omega.{arith}
use Rattle.number_search.proofs.WideFields.{wide_there}
use Rattle.number_search.proofs.Halving.{row_shorter}
use Rattle.number_search.proofs.Narrowest.{none_begun, last_begins, lower_gauge, found_missed, found_leads}
use Rattle.number_search.proofs.numbers.narrowest.Goals as goal

pub returns-then-begun-eq0 : goal.returns-then-begun-eq0
returns-then-begun-eq0 c =
    let a = c.args in
    none_begun c.requires a.low a.high a.neither c.count_before-begun.ensures c.if-begun-eq0.true

pub returns-then-begins-high : goal.returns-then-begins-high
returns-then-begins-high c =
    let a = c.args in
    let some : 1 ≤ c.count_before-begun.result = omega (arith, c.if-begun-eq0.false) in
    let begun = c.count_before-begun.ensures in
    let code =
    ap (λ (n : ℕ). n / 0x100000000) c.rank_at-begins.ensures ∙ last_begins c.requires a.low a.high a.neither begun some in
    lower_gauge c.requires a.low a.high a.neither begun some code c.if-begins-high.true

pub count_before-found-requires : goal.count_before-found-requires
count_before-found-requires c =
    row_shorter c.requires.row c.count_before-begun.result c.count_before-begun.ensures.few

pub returns-then-found-begun : goal.returns-then-found-begun
returns-then-found-begun c =
    let a = c.args in
    let some : 1 ≤ c.count_before-begun.result = omega (arith, c.if-begun-eq0.false) in
    let begun = c.count_before-begun.ensures in
    let code =
    ap (λ (n : ℕ). n / 0x100000000) c.rank_at-begins.ensures ∙ last_begins c.requires a.low a.high a.neither begun some in
    found_missed c.requires a.low a.high a.neither begun some code c.count_before-found.ensures c.if-begins-high.false
    c.if-found-begun.true

pub returns : goal.returns
returns c =
    let a = c.args in
    let some : 1 ≤ c.count_before-begun.result = omega (arith, c.if-begun-eq0.false) in
    let begun = c.count_before-begun.ensures in
    let code =
    ap (λ (n : ℕ). n / 0x100000000) c.rank_at-begins.ensures ∙ last_begins c.requires a.low a.high a.neither begun some in
    let s = c.args.graph.now in
    found_leads c.requires a.low a.high a.neither begun some code c.count_before-found.ensures
    (omega (arith, c.count_before-found.ensures.few, c.if-found-begun.false))
    ∙ sym (c.wide.ensures ∙ wide_there s (a.start + c.count_before-found.result * 8) 6)
