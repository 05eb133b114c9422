-- What the answer at an execute begins with: a rule that was read.
use Rattle.std.specs.Prelude.{ℕ, ◌≤◌, List}
use Rattle.sheet.specs.ReadSheet.{read_rules}
use Rattle.graph.specs.views.Rewriting.{IsTook}

-- A rule, from 1, of the rules, so many, that s begins with.
pub record RuleRead (s : List ℕ) (arity count rule : ℕ) : Type 0 where
  pub few_arguments : arity ≤ 8
  pub from_one : 1 ≤ rule
  pub inside : rule ≤ count
  pub rules_read : IsTook (read_rules arity count s)
