-- Two turns.
use Prim.Native.Nat.{ℕ, suc, ◌+◌, ◌*◌, ◌^◌, ◌≤◌}
use mathlib.Core.Path.{sym, ap, ◌∙◌, subst}
use mathlib.Core.List.{List}
use native.Mathlib.Numerals.{add-one}
use native.Mathlib.Omega.{arith}
use lib.ListN.{length}
use Rattle.masks.proofs.Operations.{shl_one}
use Rattle.cuts.specs.views.Cuts.{count_at}
use Rattle.compiled.specs.views.CutRules.{turn_in}
use Rattle.compiled.proofs.TurnedCuts.{turn_again}
use Rattle.compiled.proofs.cut.turn_rule.Goals as goal

pub turn-requires-2 : goal.turn-requires-2
turn-requires-2 c =
    let a = c.args in
    subst (λ (l : List ℕ). a.from + 3 + 2 * count_at l a.from ≤ length l) (sym c.turn.ensures)
    (turn_again a.c.now a.from a.least _ (omega (arith, c.requires.0)) c.requires.0)

pub returns : goal.returns
returns c =
    let a = c.args in
    let bit = shl_one 64 a.i c.requires.1 in
    let first = c.turn.ensures in
    c.turn-2.ensures
    ∙ (λ j. turn_in (first j) a.from (add-one a.most j) (bit j))
    ∙ ap (λ (x : ℕ). turn_in (turn_in a.c.now a.from a.least x) a.from (suc a.most) (2 ^ a.i)) bit
