-- The plain answer rule by rule: fail while no rule is open, the one open rule, suspend from the second on.
use Rattle.std.specs.Prelude.{ℕ, suc, List, [], ◌∷◌}
use Rattle.terms.specs.Pattern.{Patterns}
use Rattle.terms.specs.Outcome.{Outcome, holds, not_known, contradicted}
use Rattle.terms.specs.Answer.{Answer, commit, execute, suspend, fail}

-- The answer so far where a rule is open, which would alone be answered so.
abbrev pub opened : Answer → Answer → Answer
opened (commit j) only = suspend
opened (execute j) only = suspend
opened suspend only = suspend
opened fail only = only

-- The answer so far moves on by the outcome of rule i.
abbrev pub answer_after : Answer → ℕ → Outcome → Answer
answer_after a i holds = opened a (commit i)
answer_after a i not_known = opened a (execute i)
answer_after a i contradicted = a

-- The answer after some rules, of which the first is rule i.
abbrev pub moved_by : (Patterns → Outcome) → ℕ → Answer → List Patterns → Answer
moved_by outcome i a [] = a
moved_by outcome i a (rule ∷ rules) = moved_by outcome (suc i) (answer_after a i (outcome rule)) rules
