-- `waiting::rules::rules_waits` meets its contract: the rules that are left, added to the set so far, give the whole.
use Prim.Native.Nat.{◌+◌, ◌≤◌}
use mathlib.Core.Path.{ap, ◌∙◌}
use native.Mathlib.Omega.{arith}
use lib.ListN.{length, take}
use Rattle.sheet_tests.proofs.Scanning.{bytes_known, rule_read_lem, rule_refused}
use Rattle.rule_masks.specs.views.RuleMasks.{notes_masks}
use Rattle.rule_masks.specs.declared.Masks.{Masks}
use Rattle.rule_masks.specs.views.Kept.{listed_tests}
use Rattle.waiting.specs.views.SpanTests.{with_rule}
use Rattle.waiting.proofs.RulesAdded.{adding_starts, adding_done, adding_there, adding_more}
use Rattle.waiting.proofs.rules.rules_waits.Goals as goal

pub loop-init : goal.loop-init
loop-init c =
    let a = c.args in
    let tests = listed_tests a.kept.now in
    let front = take a.edges a.numbers.now in (
      c.requires.arity_bound.2,
      adding_starts tests a.cells.now front a.s.now a.shape.arity a.shape.rules c.requires.arity_bound.1,
    )

pub slice_bounds-read_rule-count : goal.slice_bounds-read_rule-count
slice_bounds-read_rule-count c =
    c.loop.invariant.1.there

pub slice_bounds-read_rule-start : goal.slice_bounds-read_rule-start
slice_bounds-read_rule-start c =
    c.loop.invariant.1.there

pub read_rule-requires : goal.read_rule-requires
read_rule-requires c =
    (c.requires.arity_bound.0, c.loop.invariant.0)

pub returns-in_default : goal.returns-in_default
returns-in_default c =
    let a = c.args in
    let tests = listed_tests a.kept.now in
    let front = take a.edges a.numbers.now in
    let loop = c.loop in
    let call = c.read_rule in
    let refused =
    rule_refused a.shape.arity loop.at a.s.now call.new.notes call.result call.ensures.result_after
    c.in_default.is in
    absurd
    (adding_there tests a.cells.now front a.s.now a.shape.arity a.shape.rules loop.invariant.1
    (omega arith) refused)

pub rule_masks-masks-requires : goal.rule_masks-masks-requires
rule_masks-masks-requires c =
    let a = c.args in
    let s = c.args.s.now in
    let loop = c.loop in
    let call = c.read_rule in
    let bytes =
    bytes_known s (λ k. omega (arith, c.type_inv.s k)) in
    let rule =
    rule_read_lem a.shape.arity loop.at s call.new.notes call.result call.ensures.result_after c.requires.arity_bound.0 bytes
    c.in-Ok.is call.ensures.took_within in
    (rule.made, call.ensures.took_within.entries, rule.placed, c.requires.arity_bound.3, c.requires.arity_bound.4)

pub with_rule-set-requires : goal.with_rule-set-requires
with_rule-set-requires c =
    c.requires.numbers_len

pub overflow_add-at : goal.overflow_add-at
overflow_add-at c =
    let a = c.args in
    let s = c.args.s.now in
    let loop = c.loop in
    let call = c.read_rule in
    let bytes =
    bytes_known s (λ k. omega (arith, c.type_inv.s k)) in
    let rule =
    rule_read_lem a.shape.arity loop.at s call.new.notes call.result call.ensures.result_after c.requires.arity_bound.0 bytes
    c.in-Ok.is call.ensures.took_within in
    omega (arith, rule.used, loop.invariant.1.there)

pub loop-preserved : goal.loop-preserved
loop-preserved c =
    let a = c.args in
    let s = c.args.s.now in
    let loop = c.loop in
    let call = c.read_rule in
    let bytes =
    bytes_known s (λ k. omega (arith, c.type_inv.s k)) in
    let rule =
    rule_read_lem a.shape.arity loop.at s call.new.notes call.result call.ensures.result_after c.requires.arity_bound.0 bytes
    c.in-Ok.is call.ensures.took_within in
    let tests = listed_tests a.kept.now in
    let cells = c.args.cells.now in
    let front = take a.edges a.numbers.now in
    let masks = c.rule_masks-masks.ensures ∙ ap (notes_masks tests cells) rule.noted in
    let inside : loop.at + c.in-Ok.read.bytes ≤ length s =
    omega (arith, rule.used, loop.invariant.1.there) in (
      call.ensures.took_within.entries,
      adding_more tests cells front s a.shape.arity a.shape.rules loop.invariant.1
          (omega arith) rule.read inside
          (c.with_rule-set.ensures ∙ ap (λ (m : Masks). with_rule m front loop.set) masks),
    )

pub returns : goal.returns
returns c =
    let a = c.args in
    let tests = listed_tests a.kept.now in
    let front = take a.edges a.numbers.now in record {
      value = adding_done tests a.cells.now front a.s.now a.shape.arity a.shape.rules c.loop.invariant.1
          (omega arith);
      notes_len = c.loop.invariant.0;
    }
