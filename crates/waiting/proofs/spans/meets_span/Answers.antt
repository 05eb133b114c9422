-- `waiting::spans::meets_span` meets its contract: a span is met among the tests that are left, or nowhere.
use Prim.Native.Nat.{ℕ, ◌/◌, ◌≤◌, ◌<◌}
use mathlib.Core.Path.{sym, ap, ◌∙◌}
use native.Mathlib.Omega.{arith}
use lib.ListN.{length}
use Rattle.basics.specs.Lists.{any_of}
use Rattle.waiting.specs.views.SpanTests.{span_at}
use Rattle.waiting.proofs.AlongTests.{front_done, front_at_lem, sought_here, sought_on}
use Rattle.waiting.proofs.spans.meets_span.Goals as goal

pub is_span-requires : goal.is_span-requires
is_span-requires c =
    let a = c.args in
    let loop = c.loop-i in
    let room : a.edges ≤ length a.met.now = omega (arith, c.requires.0, c.requires.1) in
    front_at_lem a.met.now a.edges room loop.i (omega arith) (λ (k : ℕ). k / 0x1_0000 < 680) c.requires.2

pub returns-then-is_span : goal.returns-then-is_span
returns-then-is_span c =
    let a = c.args in
    let loop = c.loop-i in
    let room : a.edges ≤ length a.met.now = omega (arith, c.requires.0, c.requires.1) in
    sought_here a.met.now a.edges room loop.i (omega arith) (span_at a.cells.now)
    (sym c.is_span.ensures ∙ c.if-is_span.true)
    ∙ loop.invariant

pub loop-i-preserved : goal.loop-i-preserved
loop-i-preserved c =
    let a = c.args in
    let loop = c.loop-i in
    let room : a.edges ≤ length a.met.now = omega (arith, c.requires.0, c.requires.1) in
    let on =
    sought_on a.met.now a.edges room loop.i (omega arith) (span_at a.cells.now)
    (sym c.is_span.ensures ∙ c.if-is_span.false) in
    (sym on ∙ loop.invariant)

pub returns : goal.returns
returns c =
    let a = c.args in
    let loop = c.loop-i in
    let room : a.edges ≤ length a.met.now = omega (arith, c.requires.0, c.requires.1) in
    let none = front_done a.met.now a.edges room loop.i (omega arith) in
    sym (ap (any_of (span_at a.cells.now)) none) ∙ loop.invariant
