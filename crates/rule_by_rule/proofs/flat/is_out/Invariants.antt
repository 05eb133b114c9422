-- A loop over the arguments: those passed hold or are not known, and the others follow them.
use Prim.Native.Nat.{ℕ, ◌≤◌}
use mathlib.Core.Path.{◌≡◌}
use lib.ListN.{length}
use Rattle.records.specs.Reading.{took}
use Rattle.terms.specs.Pattern.{Patterns}
use Rattle.sheet.specs.ReadSheet.{read_patterns}
use Rattle.rule_by_rule.proofs.FlatArguments.{Left}
use Rattle.rule_by_rule.proofs.flat.is_out.Given as goal

abbrev pub invariant-loop-i : goal.invariant-loop-i
invariant-loop-i l =
    (l.at ≤ length l.s)
    × ((b : ℕ) (rule : Patterns) → read_patterns 3 l.arity l.s ≡ took b rule → Left l.arity l.s rule l.i l.at)
