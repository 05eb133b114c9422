-- The rules behind an accepted sheet's first record.
use Prim.Native.Nat.{ℕ, ◌-◌}
use mathlib.Core.Path.{ap, ◌∙◌, subst}
use mathlib.Core.List.{List}
use lib.ListN.{length, take, drop}
use Rattle.basics.specs.Lists.{All}
use Rattle.records.specs.Fields.{AreBytes}
use Rattle.records.proofs.Parts.{rest}
use Rattle.terms.specs.Accepted.{AcceptedRule}
use Rattle.sheet.specs.ReadSheet.{read_rules}
use Rattle.accepted.specs.views.AcceptedAs.{AcceptedAs}
use Rattle.accepted.proofs.CheckedSheets.{accepted_rules_lem}
use Rattle.rule_by_rule.specs.views.SheetRules.{SheetRules}

-- What follows the 3 bytes of an accepted sheet's first record is read as its rules.
abbrev pub sheet_rules
    : (s : List ℕ) {arity count : ℕ} → AreBytes s → AcceptedAs s arity count
    → SheetRules (take (length s - 3) (drop 3 s)) arity count
sheet_rules s {arity} {count} bytes known =
    let rules = known.sheet.rules in
    record {
      few = known.few;
      bytes = length s - 3;
      rules = rules;
      read = ap (read_rules arity count) (rest s 3) ∙ known.rules_read;
      accepted = subst (λ (n : ℕ). All (AcceptedRule n) rules) known.arity_is (accepted_rules_lem s bytes known.accepted);
    }
