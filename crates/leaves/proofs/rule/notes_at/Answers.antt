-- `leaves::rule::notes_at` meets its contract: the rule that is sought stands among those that are left.
use Rattle.leaves.specs.views.Seeking.{Seeking}
use Rattle.leaves.proofs.RulesLeft.{seeking_there, seeking_found, seeking_next}
use Rattle.leaves.proofs.RuleBegins.{seeking_from}
use Rattle.sheet_tests.proofs.Scanning.{bytes_known, rule_read_lem, rule_refused}
use Rattle.sheet.specs.ReadSheet.{read_rule}
use Rattle.sheet.specs.views.Noted.{rule_notes}
use Rattle.terms.specs.Pattern.{pnil}
use native.Mathlib.Omega.{arith}
use Prim.Native.Nat.{pred}
use mathlib.Core.Path.{sym, ap, subst, ◌∙◌}
use mathlib.Core.Option.{some}
use Rattle.leaves.proofs.rule.notes_at.Goals as goal

pub passed-i-requires : goal.passed-i-requires
passed-i-requires c = c.requires.rule_read.0.from_one

pub loop-i-init : goal.loop-i-init
loop-i-init c =
    let a = c.args in
    let rule = c.requires.rule_read.0 in
    let from =
    seeking_from a.s.now a.arity a.count a.rule a.begin (omega (arith, rule.from_one, rule.inside)) rule.rules_read
    c.requires.begin_at rule.from_one in
    (c.requires.rule_read.1, subst (Seeking (read_rule a.arity) pnil a.s.now a.count (pred a.rule) a.begin) (sym c.passed-i.ensures) from)

pub slice_bounds-read_rule-count : goal.slice_bounds-read_rule-count
slice_bounds-read_rule-count c = c.loop-i.invariant.1.there

pub slice_bounds-read_rule-start : goal.slice_bounds-read_rule-start
slice_bounds-read_rule-start c = c.loop-i.invariant.1.there

pub read_rule-requires : goal.read_rule-requires
read_rule-requires c = (c.requires.rule_read.0.few_arguments, c.loop-i.invariant.0)

pub returns-in_err-read : goal.returns-in_err-read
returns-in_err-read c =
    let a = c.args in
    let s = c.args.s.now in
    let codes = c.read_rule.new.notes in
    let at = c.loop-i.at in
    let read = c.read_rule.ensures in
    absurd (seeking_there (read_rule a.arity) pnil s c.loop-i.invariant.1 (rule_refused a.arity at s codes c.read_rule.result read.result_after c.in_err-read.was))

pub returns-then-i-rule : goal.returns-then-i-rule
returns-then-i-rule c =
    let a = c.args in
    let s = c.args.s.now in
    let codes = c.read_rule.new.notes in
    let at = c.loop-i.at in
    let read = c.read_rule.ensures in
    let bytes = bytes_known s (λ i. omega (arith, c.type_inv.s i)) in
    let rule = rule_read_lem a.arity at s codes c.read_rule.result read.result_after c.requires.rule_read.0.few_arguments bytes c.in_ok-read.was read.took_within in record {
      result_after = ap some (rule.noted ∙ ap rule_notes (seeking_found (read_rule a.arity) pnil s c.loop-i.invariant.1 rule.read (omega (arith, c.if-i-rule.true))));
      result_bound = (rule.made, read.took_within.entries, rule.placed);
    }

pub overflow_add-at : goal.overflow_add-at
overflow_add-at c =
    let a = c.args in
    let s = c.args.s.now in
    let codes = c.read_rule.new.notes in
    let at = c.loop-i.at in
    let read = c.read_rule.ensures in
    let bytes = bytes_known s (λ i. omega (arith, c.type_inv.s i)) in
    let rule = rule_read_lem a.arity at s codes c.read_rule.result read.result_after c.requires.rule_read.0.few_arguments bytes c.in_ok-read.was read.took_within in
    omega (arith, rule.used)

pub loop-i-preserved : goal.loop-i-preserved
loop-i-preserved c =
    let a = c.args in
    let s = c.args.s.now in
    let codes = c.read_rule.new.notes in
    let at = c.loop-i.at in
    let read = c.read_rule.ensures in
    let bytes = bytes_known s (λ i. omega (arith, c.type_inv.s i)) in
    let rule = rule_read_lem a.arity at s codes c.read_rule.result read.result_after c.requires.rule_read.0.few_arguments bytes c.in_ok-read.was read.took_within in
    (read.took_within.entries, seeking_next (read_rule a.arity) pnil s c.loop-i.invariant.1 rule.read (λ e. omega (arith, c.if-i-rule.false, c.requires.rule_read.0.from_one)) (omega (arith, rule.used)))

pub returns : goal.returns
returns c =
    absurd (omega (arith, c.loop-i.invariant.1.sought, c.loop-i.invariant.1.among))
