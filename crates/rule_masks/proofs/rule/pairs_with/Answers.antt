-- A loop over the later notes: the pairs with those passed are made.
use Prim.Native.Nat.{ℕ, ◌+◌, ◌≤◌}
use mathlib.Core.Path.{refl, sym, ap, ◌∙◌}
use native.Mathlib.Omega.{arith}
use lib.ListN.{length}
use Rattle.pairs.specs.views.KeptPairs.{pair_code}
use Rattle.pairs.specs.views.NoteVariables.{names_variable, Placed}
use Rattle.pairs.proofs.NoteRows.{notes_each}
use Rattle.rule_masks.specs.views.Kept.{listed_tests}
use Rattle.rule_masks.specs.views.RuleMasks.{pair_made, with_made}
use Rattle.rule_masks.proofs.MadeTurns.{with_from, with_yes, with_no, with_end}
use Rattle.rule_masks.proofs.rule.pairs_with.Goals as goal
use Rattle.rule_masks.proofs.rule.pairs_with.Goals.{then-is_named, else-is_named}

pub loop-j-init : goal.loop-j-init
loop-j-init c = refl

pub with_pair-all-requires : goal.with_pair-all-requires
with_pair-all-requires c =
    let turn = c.loop-j in
    let notes = c.args.notes.now in
    let placed = notes_each notes c.args.n (omega arith) Placed turn.j c.requires.4 (omega arith) in
    (c.requires.5, c.requires.6, c.requires.2, omega (arith, c.note_place.ensures))

pub loop-j-preserved : goal.loop-j-preserved
loop-j-preserved c =
    let turn = c.loop-j in
    let a = c.args in
    let notes = c.args.notes.now in
    let cells = c.args.cells.now in
    let tests = listed_tests a.kept.now in
    let p = c.args.spot.place in
    let v = c.args.spot.name in
    let within : a.n ≤ length notes = omega (arith, c.requires) in
    let j = c.loop-j.j in
    let test = ap (names_variable v) (sym c.note_record.ensures) ∙ sym c.is_named.ensures in
    elim c.if-is_named.branch [
      | then-is_named w ↦
          let put = w.with_pair-all.ensures ∙ ap (λ (q : ℕ). with_made tests turn.all (pair_made cells (pair_code p q))) w.note_place.ensures in
          ap (with_from tests cells notes a.n within j p v (j + 1)) (w.all-is ∙ put)
          ∙ with_yes tests cells notes a.n within j p v (omega arith) (test ∙ w.if-is_named.true) turn.all
          ∙ turn.invariant
      | else-is_named w ↦
          ap (with_from tests cells notes a.n within j p v (j + 1)) w.all-is
          ∙ with_no tests cells notes a.n within j p v (omega arith) (test ∙ w.if-is_named.false) turn.all
          ∙ turn.invariant
    ]

pub returns : goal.returns
returns c =
    let turn = c.loop-j in
    let a = c.args in
    let notes = c.args.notes.now in
    let within : a.n ≤ length notes = omega (arith, c.requires) in
    sym
    (with_end (listed_tests a.kept.now) a.cells.now notes a.n within turn.j a.spot.place a.spot.name
    (omega arith) turn.all)
    ∙ turn.invariant
