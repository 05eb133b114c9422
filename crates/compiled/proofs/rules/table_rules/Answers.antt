-- A loop over the rules: those passed are in the tables and the cuts.
use Prim.Native.Nat.{ℕ, ◌<◌}
use mathlib.Core.Path.{ap, ◌∙◌}
use mathlib.Core.Logic.{inl}
use native.Mathlib.Omega.{arith}
use lib.ListN.{length-replicate}
use Rattle.sheet.specs.views.Noted.{rule_notes}
use Rattle.sheet_tests.proofs.Scanning.{bytes_known, rule_read_lem, rule_refused}
use Rattle.tables.specs.views.Planes.{rules_in}
use Rattle.rows.proofs.TestsRight.{numbers_small}
use Rattle.compiled.proofs.Filling.{filled_counted, filled_fits, filled_turn}
use Rattle.compiled.proofs.RulesTabled.{tabling_start, tabling_end, tabling_refused, tabling_rule, tabling_turn}
use Rattle.compiled.proofs.rules.table_rules.Goals as goal

pub loop-i-init : goal.loop-i-init
loop-i-init c =
    let a = c.args in (
      omega arith,
      omega arith,
      length-replicate {A = ℕ} 680 0,
      tabling_start a.arity a.b.now a.numbers.now a.s.now a.c.now,
    )

pub read_rule-requires : goal.read_rule-requires
read_rule-requires c = (c.requires.2.arguments, c.loop-i.invariant.2)

pub shape_of-c-in_default : goal.shape_of-c-in_default
shape_of-c-in_default c =
    let (order, all, g) = c.requires in
    (c.loop-i.invariant.3 order all g).filled.long

pub returns-in_default : goal.returns-in_default
returns-in_default c = λ order all g.
    let turn = c.loop-i in
    let a = c.args in
    let s = c.args.b.now in
    let read = c.read_rule in
    let notes = c.read_rule.new.notes in
    let none = rule_refused a.arity turn.at s notes read.result read.ensures.result_after c.in_default.is in
    tabling_refused a.arity s a.numbers.now a.s.now a.c.now turn.i turn.at turn.s turn.c turn.invariant.3 order all g
    (omega (arith, c.loop-i-test.true, c.rules-rules.ensures)) none

pub table_rule-requires : goal.table_rule-requires
table_rule-requires c =
    let turn = c.loop-i in
    let a = c.args in
    let s = c.args.b.now in
    let read = c.read_rule in
    let notes = c.read_rule.new.notes in
    let known = c.type_inv.b in
    let bytes = bytes_known s (λ i. omega (arith, known i)) in
    let (order, all, g) = c.requires in
    let rule =
    rule_read_lem a.arity turn.at s notes read.result read.ensures.result_after g.arguments bytes c.in-Ok.is
    read.ensures.took_within in
    let inside : turn.i < rules_in a.s.now = omega (arith, c.loop-i-test.true, c.rules-rules.ensures) in
    let filled = (turn.invariant.3 order all g).filled in
    let own = tabling_rule a.arity s a.numbers.now a.s.now a.c.now turn.i turn.at turn.s turn.c turn.invariant.3 order all g inside rule.rule rule.read in record {
      n_bound = (
        rule.made,
        read.ensures.took_within.entries,
        rule.placed,
        numbers_small a.arity all g.arguments g.accepted a.numbers.now a.s.now g.listed,
        omega (arith, g.few_rules),
        filled_counted g turn.i turn.s turn.c filled,
        omega (arith, filled.same 0 (inl (omega arith)), g.few_rules),
      );
      turns_fit = filled_fits g turn.i turn.s turn.c filled inside _ (rule.noted ∙ ap rule_notes own);
    }

pub overflow_add-at : goal.overflow_add-at
overflow_add-at c =
    let turn = c.loop-i in
    let a = c.args in
    let s = c.args.b.now in
    let read = c.read_rule in
    let notes = c.read_rule.new.notes in
    let known = c.type_inv.b in
    let bytes = bytes_known s (λ i. omega (arith, known i)) in
    let (order, all, g) = c.requires in
    let rule =
    rule_read_lem a.arity turn.at s notes read.result read.ensures.result_after g.arguments bytes c.in-Ok.is
    read.ensures.took_within in
    omega (arith, rule.used)

pub loop-i-preserved : goal.loop-i-preserved
loop-i-preserved c =
    let turn = c.loop-i in
    let a = c.args in
    let s = c.args.b.now in
    let read = c.read_rule in
    let notes = c.read_rule.new.notes in
    let known = c.type_inv.b in
    let bytes = bytes_known s (λ i. omega (arith, known i)) in
    let (order, all, g) = c.requires in
    let rule =
    rule_read_lem a.arity turn.at s notes read.result read.ensures.result_after g.arguments bytes c.in-Ok.is
    read.ensures.took_within in
    let inside : turn.i < rules_in a.s.now = omega (arith, c.loop-i-test.true, c.rules-rules.ensures) in
    let put = c.table_rule.ensures in (
      omega arith,
      omega (arith, rule.used),
      read.ensures.took_within.entries,
      λ order' all' g'.
          tabling_turn a.arity s a.numbers.now a.s.now a.c.now turn.i turn.at turn.s turn.c turn.invariant.3 order' all' g' inside rule.rule rule.read
          (filled_turn g' turn.i turn.s turn.c (turn.invariant.3 order' all' g').filled inside _
          (rule.noted ∙ ap rule_notes (tabling_rule a.arity s a.numbers.now a.s.now a.c.now turn.i turn.at turn.s turn.c turn.invariant.3 order' all' g' inside rule.rule rule.read))
          put.columned put.c_after),
    )

pub shape_of-c : goal.shape_of-c
shape_of-c c =
    let (order, all, g) = c.requires in
    (c.loop-i.invariant.3 order all g).filled.long

pub returns : goal.returns
returns c = λ order all g.
    let turn = c.loop-i in
    let a = c.args in
    let s = c.args.b.now in
    tabling_end a.arity s a.numbers.now a.s.now a.c.now turn.i turn.at turn.s turn.c turn.invariant.3 order all g
    (omega (arith, c.loop-i-test.false, turn.invariant.0, c.rules-rules.ensures))
