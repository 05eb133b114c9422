-- A loop over the arguments: those passed hold or are not known, and the others follow them.
use Prim.Native.Nat.{ℕ, ◌+◌, ◌≤◌}
use mathlib.Core.Path.{◌≡◌, sym, ap, subst, ◌∙◌}
use native.Mathlib.Omega.{arith}
use lib.Dec.{T}
use lib.ListN.{length, drop}
use Rattle.records.proofs.Parts.{rest, rest_length}
use Rattle.std.specs.Prelude.{Ok}
use Rattle.patterns.specs.views.PatternRecord.{pattern_head}
use Rattle.patterns.proofs.Heads.{head_whole}
use Rattle.outcomes.specs.views.CellOutcome.{outcome_of}
use Rattle.plain.specs.views.NotesOutcome.{flat_bytes}
use Rattle.rule_by_rule.proofs.FlatArguments.{Left, flat_there, left_all, left_out, left_next}
use Rattle.rule_by_rule.proofs.flat.is_out.Goals as goal
use Rattle.rule_by_rule.proofs.flat.is_out.Goals.{In-Ok}

pub loop-i-init : goal.loop-i-init
loop-i-init c =
    let a = c.args in (omega arith, λ b rule read. left_all a.arity a.s.now read)

-- Where a record was read.
module _ (c : In-Ok) where
  head : pattern_head (drop c.loop-i.at c.args.s.now) ≡ Ok c.in-Ok.what
  head =
      sym (ap pattern_head (rest c.args.s.now c.loop-i.at))
      ∙ sym c.pattern_head.ensures
      ∙ c.in-Ok.is

  bytes_there : c.loop-i.at + flat_bytes c.in-Ok.what ≤ length c.args.s.now
  bytes_there =
      let s = c.args.s.now in
      let at = c.loop-i.at in
      omega (
        arith,
        flat_there c.in-Ok.what,
        head_whole (drop at s) head,
        ap length (sym (rest s at)) ∙ rest_length s at,
        c.loop-i.invariant.0,
      )

pub fixed_outcome-one-requires : goal.fixed_outcome-one-requires
fixed_outcome-one-requires c = omega arith

pub returns-in_default : goal.returns-in_default
returns-in_default c = λ e. absurd (subst T (sym e) tt)

pub returns-in-Contradicted : goal.returns-in-Contradicted
returns-in-Contradicted c =
    let a = c.args in
    λ e b rule read.
    left_out (c.loop-i.invariant.1 b rule read) (omega arith) (head (goal.at.returns-in-Contradicted c).In-Ok) a.cells.now
    (sym c.fixed_outcome-one.ensures ∙ ap outcome_of c.in-Contradicted.is)

pub returns-then-bytes-eq0 : goal.returns-then-bytes-eq0
returns-then-bytes-eq0 c = λ e. absurd (subst T (sym e) tt)

pub overflow_add-at : goal.overflow_add-at
overflow_add-at c =
    omega (arith, c.flat_length-bytes.ensures, bytes_there (goal.at.overflow_add-at c).In-Ok, c.well_formed.0.0)

pub loop-i-preserved : goal.loop-i-preserved
loop-i-preserved c =
    let bytes = c.flat_length-bytes.ensures in
    let turn = c.loop-i in (
      omega (arith, bytes, bytes_there (goal.at.loop-i-preserved c).In-Ok),
      λ b rule read.
          subst (λ (k : ℕ). Left c.args.arity c.args.s.now rule (turn.i + 1) (turn.at + k))
          (sym bytes)
          (left_next (turn.invariant.1 b rule read) (omega arith) (head (goal.at.loop-i-preserved c).In-Ok) (λ none. c.if-bytes-eq0.false (bytes ∙ none))),
    )

pub returns : goal.returns
returns c = λ e. absurd (subst T (sym e) tt)
