-- `leaves::rule::notes_at` meets its contract: the rule that is sought stands among those that are left.
use Rattle.leaves.specs.views.Seeking.{Seeking}
use Rattle.sheet.specs.ReadSheet.{read_rule}
use Rattle.terms.specs.Pattern.{pnil}
use lib.ListN.{length}
use Prim.Native.Nat.{pred}
use mathlib.Core.Path.{◌≡◌}
use Rattle.leaves.proofs.rule.notes_at.Given as goal

abbrev pub invariant-loop-i : goal.invariant-loop-i
invariant-loop-i l =
    (length l.notes ≡ 680) × Seeking (read_rule l.arity) pnil l.s l.count (pred l.rule) l.at l.i
