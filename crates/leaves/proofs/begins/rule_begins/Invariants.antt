-- `rule_begins` meets its contract: every rule that is left is sought from the current position.
use Prim.Native.Nat.{ℕ, ◌≤◌, ◌<◌}
use mathlib.Core.Path.{◌≡◌}
use lib.ListN.{length}
use Rattle.terms.specs.Pattern.{pnil}
use Rattle.sheet.specs.ReadSheet.{read_rule}
use Rattle.rule_masks.specs.views.Kept.{TestsStay}
use Rattle.leaves.specs.views.Seeking.{Seeking, Begins}
use Rattle.leaves.proofs.begins.rule_begins.Given as goal

abbrev pub invariant-loop-i : goal.invariant-loop-i
invariant-loop-i l =
    (length l.notes ≡ 680) × (length l.kept ≡ 324) × (l.at ≤ length l.s) × Begins l.s l.arity l.count l.kept
    × ((k : ℕ) → l.i ≤ k → k < l.count → Seeking (read_rule l.arity) pnil l.s l.count k l.at l.i) × TestsStay l.initial.kept l.kept
