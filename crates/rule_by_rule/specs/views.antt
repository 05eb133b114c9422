-- How the answer so far is kept, and what is known of the rules.
pub mod RuleByRule
pub mod SheetRules
