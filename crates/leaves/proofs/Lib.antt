-- The laws of what is answered at an execute of a rule, and of where rules begin.
pub mod RulesLeft
pub mod RuleBegins
pub mod ExecutedRight
