-- `tables::first_asked` meets its contract: where it stands, as many steps are left as make up the answer.
use Prim.Native.Nat.{ℕ, ◌-◌, ◌<◌, ◌≤◌, ◌^◌}
use mathlib.Core.Path.{◌≡◌, sym, ap, ◌∙◌}
use native.Mathlib.Omega.{arith}
use lib.Bits.{bit_and, and_le_l}
use lib.Count.{count_trailing_zeros, trailing_le}
use borrow.Author.Rules.{rules}
use Rattle.masks.proofs.Operations.{and_fits}
use Rattle.masks.proofs.LowestMember.{trailing_lt}
use Rattle.tables.specs.views.Planes.{first_from, first_asked_in}
use Rattle.tables.proofs.AskedFrom.{fewer, from_step, from_end}
use Rattle.tables.proofs.first_asked.Goals as goal

pub overflow_cast-t : goal.overflow_cast-t
overflow_cast-t c = omega (arith, trailing_le 64 c.args.pending)

pub before-requires : goal.before-requires
before-requires c = trailing_lt 64 c.args.pending (search rules) (omega (arith, c.requires))

pub loop-earlier-init : goal.loop-earlier-init
loop-earlier-init c =
    let a = c.args in
    let small : a.pending < 2 ^ 64 = search rules in (
      trailing_lt 64 a.pending small (omega (arith, c.requires)),
      and_fits 64 a.pending _ small,
      a.pending,
      and_le_l a.pending _,
      ap (λ (x : ℕ). first_from a.s.now a.pending (count_trailing_zeros 64 a.pending) (bit_and a.pending x)) c.before-2.ensures,
    )

pub overflow_cast-t-in-loop-earlier : goal.overflow_cast-t-in-loop-earlier
overflow_cast-t-in-loop-earlier c = omega (arith, trailing_le 64 c.loop-earlier.earlier)

pub before-requires-in-loop-earlier : goal.before-requires-in-loop-earlier
before-requires-in-loop-earlier c = trailing_lt 64 c.loop-earlier.earlier c.loop-earlier.invariant.1 (omega arith)

pub loop-earlier-smaller : goal.loop-earlier-smaller
loop-earlier-smaller c = fewer c.args.s.now c.loop-earlier.earlier _ (omega arith)

pub loop-earlier-preserved : goal.loop-earlier-preserved
loop-earlier-preserved c =
    let s = c.args.s.now in
    let at = c.loop-earlier in
    let some : 0 < at.earlier = omega arith in
    let (more, few, next) = from_step s at.invariant.2 at.t at.earlier _ some at.invariant.3 c.before-in-loop-earlier.ensures in (
      trailing_lt 64 at.earlier at.invariant.1 some,
      and_fits 64 (bit_and at.earlier (at.earlier - 1)) _ (and_fits 64 at.earlier (at.earlier - 1) at.invariant.1),
      more,
      few,
      next ∙ at.invariant.4,
    )

pub returns : goal.returns
returns c =
    let at = c.loop-earlier in
    let s = c.args.s.now in
    (sym (from_end s at.invariant.2 at.t at.earlier c.loop-earlier-test.false) ∙ at.invariant.4, at.invariant.0)
