-- `waiting::rules::with_rule` meets its contract: the tests that are left, added to the set so far, give the whole.
use Prim.Native.Nat.{ℕ, ◌≤◌, ◌<◌}
use mathlib.Core.Bool.{true, false}
use mathlib.Core.List.{List}
use mathlib.Core.Path.{refl, sym, ap, ◌∙◌}
use native.Mathlib.Omega.{arith}
use lib.ListN.{length}
use Rattle.waiting.specs.views.SpanTests.{with_rule}
use Rattle.waiting.proofs.AlongTests.{front_done, front_at_lem, rule_out, rule_on}
use Rattle.waiting.proofs.rules.with_rule.Goals as goal
use Rattle.waiting.proofs.rules.with_rule.Goals.{then-has-2, else-has-2}

pub has-requires : goal.has-requires
has-requires c =
    let a = c.args in
    let loop = c.loop-i in
    let room : a.edges ≤ length a.numbers.now = omega (arith, c.requires.0, c.requires.1) in
    let few =
    front_at_lem a.numbers.now a.edges room loop.i
    (omega arith) (λ (t : ℕ). t < 64) c.requires.2 in
    omega (arith, few)

pub returns-then-has : goal.returns-then-has
returns-then-has c =
    let a = c.args in
    let loop = c.loop-i in
    let room : a.edges ≤ length a.numbers.now = omega (arith, c.requires.0, c.requires.1) in
    rule_out a.numbers.now a.edges room loop.i (omega arith) a.masks
    loop.all refl (sym c.has.ensures ∙ c.if-has.true)
    ∙ loop.invariant

pub has-requires-in-loop-i : goal.has-requires-in-loop-i
has-requires-in-loop-i c =
    let a = c.args in
    let loop = c.loop-i in
    let room : a.edges ≤ length a.numbers.now = omega (arith, c.requires.0, c.requires.1) in
    let few =
    front_at_lem a.numbers.now a.edges room loop.i
    (omega arith) (λ (t : ℕ). t < 64) c.requires.2 in
    omega (arith, few)

pub insert-all-requires : goal.insert-all-requires
insert-all-requires c =
    let a = c.args in
    let loop = c.loop-i in
    let room : a.edges ≤ length a.numbers.now = omega (arith, c.requires.0, c.requires.1) in
    let few =
    front_at_lem a.numbers.now a.edges room loop.i
    (omega arith) (λ (t : ℕ). t < 64) c.requires.2 in
    omega (arith, few)

pub loop-i-preserved : goal.loop-i-preserved
loop-i-preserved c =
    let a = c.args in
    let loop = c.loop-i in
    let room : a.edges ≤ length a.numbers.now = omega (arith, c.requires.0, c.requires.1) in
    let on =
    rule_on a.numbers.now a.edges room loop.i
    (omega arith) a.masks loop.all
    refl
    (sym c.has.ensures ∙ c.if-has.false) in
    elim c.if-has-2.branch [
      | then-has-2 w ↦ (on true (sym c.has-in-loop-i.ensures ∙ w.if-has-2.true) _ (w.all-is ∙ w.insert-all.ensures) ∙ loop.invariant)
      | else-has-2 w ↦ (on false (sym c.has-in-loop-i.ensures ∙ w.if-has-2.false) _ w.all-is ∙ loop.invariant)
    ]

pub returns : goal.returns
returns c =
    let a = c.args in
    let loop = c.loop-i in
    let room : a.edges ≤ length a.numbers.now = omega (arith, c.requires.0, c.requires.1) in
    let none = front_done a.numbers.now a.edges room loop.i (omega arith) in
    sym (ap (λ (l : List ℕ). with_rule a.masks l loop.all) none) ∙ loop.invariant
