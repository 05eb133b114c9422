-- The pair's outcome, then its place in the masks.
use Prim.Native.Nat.{◌+◌, ◌*◌, ◌/◌, ◌%◌}
use mathlib.Core.Path.{◌≡◌, ◌∙◌}
use native.Mathlib.Omega.{arith}
use Rattle.pairs.specs.views.KeptPairs.{pair_code}
use Rattle.outcomes.specs.views.CellOutcome.{pair_cells}
use Rattle.rule_masks.specs.views.Kept.{listed_tests}
use Rattle.rule_masks.specs.views.RuleMasks.{made, with_made}
use Rattle.rule_masks.proofs.rule.with_pair.Goals as goal

pub overflow_mul-p : goal.overflow_mul-p
overflow_mul-p c = omega (arith, c.requires.2)

pub overflow_add-p : goal.overflow_add-p
overflow_add-p c = omega (arith, c.requires.2, c.requires.3)

pub returns : goal.returns
returns c =
    let a = c.args in
    let pre = c.requires in
    let code : 0x1_0000 * a.p + a.q ≡ pair_code a.p a.q = omega arith in
    let first : a.p ≡ pair_code a.p a.q / 0x1_0000 = omega (arith, pre.3) in
    let second : a.q ≡ pair_code a.p a.q % 0x1_0000 = omega (arith, pre.3) in
    let outcome = c.pair_outcome-outcome.ensures ∙ (λ i. pair_cells a.cells.now (first i) (second i)) in
    c.with_outcome.ensures ∙ (λ i. with_made (listed_tests a.kept.now) a.masks (made (code i) (outcome i)))
