-- `waiting::list::suspend_waits` meets its contract: without a span what is not known, else with what the rules add.
use Prim.Native.Nat.{◌/◌, ◌<◌}
use mathlib.Core.List.{[]}
use mathlib.Core.Path.{sym, subst, ◌∙◌}
use lib.ListN.{take}
use Rattle.basics.specs.Lists.{All}
use Rattle.basics.proofs.ListLaws.{all_map}
use Rattle.sheet.specs.ReadSheet.{read_rules}
use Rattle.graph.specs.views.Rewriting.{read_or}
use Rattle.rule_masks.proofs.CodeNumbers.{listed_few}
use Rattle.rule_masks.specs.views.TestNumbers.{KeptCode}
use Rattle.rule_masks.specs.views.Kept.{listed_tests}
use Rattle.waiting.proofs.AlongTests.{code_first_lem}
use Rattle.waiting.proofs.ListParts.{numbers_few, list_short, list_both}
use Rattle.waiting.proofs.list.suspend_waits.Goals as goal

pub meets_span-requires : goal.meets_span-requires
meets_span-requires c =
    let a = c.args in
    let met = take a.edges a.met.now in
    let near =
    all_map (KeptCode (listed_tests a.kept.now)) (λ k. k / 0x1_0000 < 680) (λ k kept. code_first_lem k kept.0) met
    c.requires.met_len.2 in
    (c.requires.met_len.0, c.requires.met_len.1, near)

pub number_tests-requires : goal.number_tests-requires
number_tests-requires c =
    (c.requires.arity_bound.3.counted, c.requires.met_len.0, c.requires.met_len.1)

pub rules_waits-requires : goal.rules_waits-requires
rules_waits-requires c =
    let a = c.args in
    let tests = listed_tests a.kept.now in
    let met = take a.edges a.met.now in
    let pre = c.requires in
    let numbered = c.number_tests.ensures in
    let few = numbers_few tests (listed_few a.kept.now pre.arity_bound.3.counted) met pre.met_len.2 in record {
      arity_bound = (pre.arity_bound.0, pre.arity_bound.1, pre.arity_bound.2, pre.arity_bound.3.counted, pre.arity_bound.4);
      numbers_len = (numbered.1, pre.met_len.1, subst (All (λ t. t < 64)) (sym numbered.0) few);
    }

pub returns-then-meets_span : goal.returns-then-meets_span
returns-then-meets_span c =
    let a = c.args in
    let tests = listed_tests a.kept.now in
    let met = take a.edges a.met.now in
    let rules = read_or [] (read_rules a.shape.arity a.shape.rules a.s.now) in
    let span =
    sym c.meets_span.ensures
    ∙ c.if-meets_span.true in record {
      value = list_both tests a.cells.now rules met (search rules) (search rules)
          c.open_waits-open.ensures
          c.number_tests.ensures.0 c.rules_waits.ensures.value span;
      notes_len = c.rules_waits.ensures.notes_len;
    }

pub returns : goal.returns
returns c =
    let a = c.args in
    let tests = listed_tests a.kept.now in
    let met = take a.edges a.met.now in
    let rules = read_or [] (read_rules a.shape.arity a.shape.rules a.s.now) in
    let span = sym c.meets_span.ensures ∙ c.if-meets_span.false in record {
      value = c.open_waits-open.ensures ∙ list_short tests a.cells.now rules met span;
      notes_len = c.requires.arity_bound.2;
    }
