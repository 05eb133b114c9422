-- A loop over the notes: the pairs of those passed are made.
use Prim.Native.Nat.{ℕ, ◌+◌, ◌≤◌}
use mathlib.Core.Path.{refl, sym, ap, ◌∙◌}
use native.Mathlib.Omega.{arith}
use lib.ListN.{length}
use Rattle.pairs.specs.views.NoteVariables.{name_of, Placed}
use Rattle.pairs.proofs.NoteRows.{notes_each}
use Rattle.rule_masks.specs.declared.Masks.{Masks}
use Rattle.rule_masks.specs.views.Kept.{listed_tests}
use Rattle.rule_masks.proofs.MadeTurns.{with_from, pairs_from, pairs_named, pairs_nameless, pairs_end}
use Rattle.rule_masks.proofs.rule.pair_masks.Goals as goal
use Rattle.rule_masks.proofs.rule.pair_masks.Goals.{in-Some, in_default}

pub loop-i-init : goal.loop-i-init
loop-i-init c = refl

pub pairs_with-all-requires : goal.pairs_with-all-requires
pairs_with-all-requires c =
    let turn = c.loop-i in
    let notes = c.args.notes.now in
    let pre = c.requires in
    let placed = notes_each notes c.args.n (omega arith) Placed turn.i pre.2 (omega arith) in
    (omega arith, omega arith, omega (arith, c.note_place.ensures), pre.1, pre.2, pre.3, pre.4)

pub loop-i-preserved : goal.loop-i-preserved
loop-i-preserved c =
    let turn = c.loop-i in
    let a = c.args in
    let notes = c.args.notes.now in
    let cells = c.args.cells.now in
    let tests = listed_tests a.kept.now in
    let within : a.n ≤ length notes = omega (arith, c.requires) in
    let i = c.loop-i.i in
    let name = ap name_of (sym c.note_record.ensures) ∙ sym c.name_of.ensures in
    elim c.match-name_of.branch [
      | in-Some w ↦
          let v = w.in-Some.name in
          let pairs : ℕ → Masks = λ p. with_from tests cells notes a.n within i p v (i + 1) turn.all in
          let own = w.pairs_with-all.ensures ∙ ap pairs w.note_place.ensures in
          ap (pairs_from tests cells notes a.n within i (i + 1)) (w.all-is ∙ own)
          ∙ pairs_named tests cells notes a.n within i v (omega arith) (name ∙ w.in-Some.is) turn.all
          ∙ turn.invariant
      | in_default w ↦
          ap (pairs_from tests cells notes a.n within i (i + 1)) w.all-is
          ∙ pairs_nameless tests cells notes a.n within i (omega arith) (name ∙ w.in_default.is) turn.all
          ∙ turn.invariant
    ]

pub returns : goal.returns
returns c =
    let turn = c.loop-i in
    let a = c.args in
    let within : a.n ≤ length a.notes.now = omega (arith, c.requires) in
    sym
    (pairs_end (listed_tests a.kept.now) a.cells.now a.notes.now a.n within turn.i (omega arith) turn.all)
    ∙ turn.invariant
