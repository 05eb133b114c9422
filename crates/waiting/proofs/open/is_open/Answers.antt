-- `waiting::open::is_open_lem` meets its contract: a place, or a pair with each outcome.
use Prim.Native.Nat.{ℕ}
use mathlib.Core.Path.{sym, ap, subst, ◌∙◌}
use lib.Dec.{eqb}
use Rattle.codes.specs.views.Codes.{unknown_run}
use Rattle.outcomes.specs.views.CellOutcome.{outcome_of}
use Rattle.decision.specs.Walk.{is_not_known}
use Rattle.rule_masks.specs.views.TestNumbers.{NearTest}
use Rattle.waiting.specs.views.OpenTests.{open_cells}
use Rattle.rule_masks.proofs.CodeNumbers.{code_place_lem, code_pair_lem}
use Rattle.waiting.proofs.open.is_open.Goals as goal

pub look-requires : goal.look-requires
look-requires c = subst NearTest (code_place_lem c.args.code c.if-p-q.true) c.requires.0

pub returns-then-p-q : goal.returns-then-p-q
returns-then-p-q c = ap (λ (k : ℕ). eqb k unknown_run) c.look.ensures
    ∙ ap (open_cells c.args.cells.now) (sym (code_place_lem c.args.code c.if-p-q.true))

pub pair_outcome-requires : goal.pair_outcome-requires
pair_outcome-requires c =
    let near = subst NearTest (code_pair_lem c.args.code c.if-p-q.false) c.requires.0 in
    (near.0, near.1, c.requires.1)

pub returns-in-Holds : goal.returns-in-Holds
returns-in-Holds c = ap is_not_known (sym (ap outcome_of c.in-Holds.is) ∙ c.pair_outcome.ensures)
    ∙ ap (open_cells c.args.cells.now) (sym (code_pair_lem c.args.code c.if-p-q.false))

pub returns-in-NotKnown : goal.returns-in-NotKnown
returns-in-NotKnown c = ap is_not_known (sym (ap outcome_of c.in-NotKnown.is) ∙ c.pair_outcome.ensures)
    ∙ ap (open_cells c.args.cells.now) (sym (code_pair_lem c.args.code c.if-p-q.false))

pub returns-in-Contradicted : goal.returns-in-Contradicted
returns-in-Contradicted c = ap is_not_known (sym (ap outcome_of c.in-Contradicted.is) ∙ c.pair_outcome.ensures)
    ∙ ap (open_cells c.args.cells.now) (sym (code_pair_lem c.args.code c.if-p-q.false))
