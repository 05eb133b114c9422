-- The laws of the plain answer, rule by rule.
pub mod RuleByRule
pub mod RuleTurns
pub mod FlatArguments
