-- `rule_begins` meets its contract: every rule that is left is sought from the current position.
use mathlib.Core.Path.{sym, subst}
use native.Mathlib.Omega.{arith}
use Rattle.terms.specs.Pattern.{pnil}
use Rattle.sheet.specs.ReadSheet.{read_rule}
use Rattle.sheet_tests.proofs.Scanning.{bytes_known, rule_read_lem}
use Rattle.leaves.specs.views.Seeking.{Begins}
use Rattle.leaves.proofs.RulesLeft.{seeking_starts, seeking_next}
use Rattle.leaves.proofs.RuleBegins.{begins_noted, tests_start, tests_stay}
use Rattle.leaves.proofs.begins.rule_begins.Goals as goal

pub loop-i-init : goal.loop-i-init
loop-i-init c =
    let a = c.args in
    let pre = c.requires in
    let s = c.args.s.now in (
      pre.2,
      pre.3,
      omega arith,
      pre.4,
      λ k from among. seeking_starts (read_rule a.arity) pnil s a.count k among pre.1,
      tests_start a.kept.now pre.3,
    )

pub note-requires : goal.note-requires
note-requires c = c.loop-i.invariant.1

pub slice_bounds-read_rule-count : goal.slice_bounds-read_rule-count
slice_bounds-read_rule-count c = c.loop-i.invariant.2

pub slice_bounds-read_rule-start : goal.slice_bounds-read_rule-start
slice_bounds-read_rule-start c = c.loop-i.invariant.2

pub read_rule-requires : goal.read_rule-requires
read_rule-requires c = (c.requires.0, c.loop-i.invariant.0)

pub returns-in_default : goal.returns-in_default
returns-in_default c =
    let a = c.args in
    let s = c.args.s.now in
    let loop = c.loop-i in
    let inv = c.loop-i.invariant in
    let begins =
    subst (Begins s a.arity a.count) (sym c.note.ensures.0)
    (begins_noted s a.arity a.count loop.kept loop.i loop.at inv.1 inv.3
    (inv.4 loop.i (omega arith) (omega arith))) in
    let note = c.note in (
      begins,
      tests_stay a.kept.now loop.kept loop.i loop.at inv.5 note.ensures.0 note.ensures.1,
      c.read_rule.ensures.took_within.entries,
    )

pub overflow_add-at : goal.overflow_add-at
overflow_add-at c =
    let a = c.args in
    let s = c.args.s.now in
    let loop = c.loop-i in
    let codes = c.read_rule.new.notes in
    let read = c.read_rule.ensures in
    let bytes = bytes_known s (λ i. omega (arith, c.type_inv.s i)) in
    let rule = rule_read_lem a.arity loop.at s codes c.read_rule.result read.result_after c.requires.0 bytes c.in-Ok.is read.took_within in
    omega (arith, rule.used)

pub loop-i-preserved : goal.loop-i-preserved
loop-i-preserved c =
    let a = c.args in
    let s = c.args.s.now in
    let loop = c.loop-i in
    let inv = c.loop-i.invariant in
    let begins =
    subst (Begins s a.arity a.count) (sym c.note.ensures.0)
    (begins_noted s a.arity a.count loop.kept loop.i loop.at inv.1 inv.3
    (inv.4 loop.i (omega arith) (omega arith))) in
    let codes = c.read_rule.new.notes in
    let read = c.read_rule.ensures in
    let bytes = bytes_known s (λ i. omega (arith, c.type_inv.s i)) in
    let rule = rule_read_lem a.arity loop.at s codes c.read_rule.result read.result_after c.requires.0 bytes c.in-Ok.is read.took_within in (
      read.took_within.entries,
      c.note.ensures.1,
      omega (arith, rule.used),
      begins,
      λ k from among.
          seeking_next (read_rule a.arity) pnil s (inv.4 k (omega arith) among) rule.read (λ e. omega (arith, e))
          (omega (arith, rule.used)),
      tests_stay a.kept.now loop.kept loop.i loop.at inv.5 c.note.ensures.0
          c.note.ensures.1,
    )

pub returns : goal.returns
returns c = let inv = c.loop-i.invariant in (inv.3, inv.5, inv.0)
