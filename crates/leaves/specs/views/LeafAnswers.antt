-- What is answered at an execute of a rule (document 01, "The walk"), by the masks of its tests.
use Rattle.std.specs.Prelude.{ℕ, cond, eqb}
use Rattle.terms.specs.Answer.{Answer, commit, execute, fail}
use Rattle.plain.specs.Plain.{answer_of}
use Rattle.leaves.specs.declared.Executed as given
use Rattle.rule_masks.specs.declared.Masks.{Masks}

-- What an execute of a rule comes to: the answer, and the tests that it waits for.
pub record RuleEnd : Type 0 where
  pub answer : Answer
  pub waits : ℕ

-- "At execute i all tests of rule i are made: one contradicted gives fail, all holding gives commit i, else execute i." A wait list
-- holds "for execute those of rule i not known, else none".
abbrev pub executed_by : ℕ → Masks → RuleEnd
executed_by rule m =
    cond (eqb m.contradicted 0)
    (cond (eqb m.unknown 0) (record { answer = commit rule; waits = 0 })
    (record { answer = execute rule; waits = m.unknown }))
    (record { answer = fail; waits = 0 })

-- What is handed back.
abbrev pub executed_of : given.Executed → RuleEnd
executed_of e = record { answer = answer_of e.answer; waits = e.waits }
