-- What is known of the bytes behind an accepted sheet's first record.
use Rattle.std.specs.Prelude.{ℕ, ◌≤◌, ◌≡◌, List}
use Rattle.records.specs.Reading.{took}
use Rattle.basics.specs.Lists.{All}
use Rattle.terms.specs.Pattern.{Patterns}
use Rattle.terms.specs.Accepted.{AcceptedRule}
use Rattle.sheet.specs.ReadSheet.{read_rules}

-- They are read as so many accepted rules of that arity.
pub record SheetRules (s : List ℕ) (arity count : ℕ) : Type 0 where
  pub few : arity ≤ 8
  pub bytes : ℕ
  pub rules : List Patterns
  pub read : read_rules arity count s ≡ took bytes rules
  pub accepted : All (AcceptedRule arity) rules
