-- `path::follow_path` meets its contract: the nodes passed and the path from the node that it is at make up the whole path.
use Prim.Native.Nat.{ℕ}
use mathlib.Core.Path.{◌≡◌, refl, sym, subst, ◌∙◌}
use native.Mathlib.Omega.{arith}
use lib.ListN.{length-set, take}
use Rattle.std.specs.Prelude.{Result, Ok}
use Rattle.records.specs.declared.refusal.Refusal.{Refusal}
use Rattle.steps.specs.declared.Step.{Step}
use Rattle.graph.specs.views.NodeRecord.{leaf_of}
use Rattle.path.specs.views.Following.{reached, cells_end, nodes_at}
use Rattle.path.proofs.Standing.{stands_first, stands_inside, stands_begins, stands_whole}
use Rattle.path.proofs.Standing.{Stands-on, stands_end, stands_stuck, stands_out, stands_lost}
use Rattle.path.proofs.follow_path.Goals as goal

-- The step that was handed back.
same : {x y : Step} → ◌≡◌ {A = Result Step Refusal} (Ok x) (Ok y) → x ≡ y
same e = cc

pub loop-edges-init : goal.loop-edges-init
loop-edges-init c = (c.requires.narrow.2, stands_first c.requires.index c.args.cells.now)

pub offset_bounds-starts-node : goal.offset_bounds-starts-node
offset_bounds-starts-node c = omega (arith, stands_inside c.requires.index c.args.cells.now c.loop-edges.invariant.1)

pub bounds-starts-node : goal.bounds-starts-node
bounds-starts-node c =
    omega (arith, stands_inside c.requires.index c.args.cells.now c.loop-edges.invariant.1, c.requires.narrow.1)

pub overflow_cast-starts : goal.overflow_cast-starts
overflow_cast-starts c =
    omega (arith, stands_begins c.requires.index c.args.cells.now c.loop-edges.invariant.1, c.well_formed)

pub step_at-requires : goal.step_at-requires
step_at-requires c = (stands_whole c.requires.index c.args.cells.now c.loop-edges.invariant.1, c.requires.narrow.0)

pub returns-in_err-step : goal.returns-in_err-step
returns-in_err-step c = absurd (cc c.in_err-step.ensures)

pub returns-in-Stop : goal.returns-in-Stop
returns-in-Stop c = record {
  result_after =
      stands_end c.requires.index c.args.cells.now c.loop-edges.invariant.1
      (sym c.in-Stop.is ∙ same c.in_ok-step.ensures);
  met_len = (c.loop-edges.invariant.0, c.loop-edges.invariant.1.few);
}

pub bounds-met-edges : goal.bounds-met-edges
bounds-met-edges c = omega (arith, c.loop-edges.invariant.0)

pub returns-in-NoWay : goal.returns-in-NoWay
returns-in-NoWay c = record {
  result_after =
      stands_stuck c.requires.index c.args.cells.now c.loop-edges.invariant.1 (omega arith)
      (sym c.in-NoWay.is ∙ same c.in_ok-step.ensures);
  met_len = (c.loop-edges.invariant.0, omega arith);
}

pub loop-edges-preserved : goal.loop-edges-preserved
loop-edges-preserved c =
    let loop = c.loop-edges in (
      length-set loop.met loop.edges c.in-GoTo.test ∙ loop.invariant.0,
      Stands-on c.requires.index c.args.cells.now loop.invariant.1 loop.met (omega arith) loop.invariant.0 refl
          (sym c.in-GoTo.is ∙ same c.in_ok-step.ensures),
    )

pub offset_bounds-starts-node-2 : goal.offset_bounds-starts-node-2
offset_bounds-starts-node-2 c = omega (arith, stands_inside c.requires.index c.args.cells.now c.loop-edges.invariant.1)

pub bounds-starts-node-2 : goal.bounds-starts-node-2
bounds-starts-node-2 c =
    omega (arith, stands_inside c.requires.index c.args.cells.now c.loop-edges.invariant.1, c.requires.narrow.1)

pub overflow_cast-starts-2 : goal.overflow_cast-starts-2
overflow_cast-starts-2 c =
    omega (arith, stands_begins c.requires.index c.args.cells.now c.loop-edges.invariant.1, c.well_formed)

pub step_at-requires-2 : goal.step_at-requires-2
step_at-requires-2 c = (stands_whole c.requires.index c.args.cells.now c.loop-edges.invariant.1, c.requires.narrow.0)

pub returns-in_err-last : goal.returns-in_err-last
returns-in_err-last c = absurd (cc c.in_err-last.ensures)

pub returns-in-Stop-last : goal.returns-in-Stop-last
returns-in-Stop-last c =
    let a = c.args in
    let loop = c.loop-edges in
    let all : loop.edges ≡ 64 = omega arith in
    record {
      result_after =
          subst (λ (n : ℕ). reached (leaf_of c.in-Stop-last.leaf) n (take n loop.met)
          ≡ cells_end (nodes_at a.graph.now a.starts.now a.nodes) a.cells.now) all
          (stands_end c.requires.index a.cells.now loop.invariant.1 (sym c.in-Stop-last.is ∙ same c.in_ok-last.ensures));
      met_len = (loop.invariant.0, omega arith);
    }

pub returns-in-GoTo-last : goal.returns-in-GoTo-last
returns-in-GoTo-last c = record {
  result_after =
      stands_out c.requires.index c.args.cells.now c.loop-edges.invariant.1 (omega arith)
      (sym c.in-GoTo-last.is ∙ same c.in_ok-last.ensures);
  met_len = (c.loop-edges.invariant.0, omega arith);
}

pub returns-in-NoWay-last : goal.returns-in-NoWay-last
returns-in-NoWay-last c = record {
  result_after =
      stands_lost c.requires.index c.args.cells.now c.loop-edges.invariant.1 (omega arith)
      (sym c.in-NoWay-last.is ∙ same c.in_ok-last.ensures);
  met_len = (c.loop-edges.invariant.0, omega arith);
}
