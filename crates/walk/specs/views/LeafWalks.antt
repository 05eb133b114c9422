-- What a walk answers at its end (document 01, "The walk"), as the cells of a piece tell it.
use Rattle.std.specs.Prelude.{ℕ, ◌≤◌, List}
use Rattle.records.specs.Reading.{Reading, took, refused}
use Rattle.terms.specs.Pattern.{Patterns}
use Rattle.terms.specs.Answer.{rule_at}
use Rattle.terms.specs.Answer as answers
use Rattle.sheet.specs.views.Noted.{rule_notes}
use Rattle.sheet_tests.specs.SheetTests.{Test}
use Rattle.decision.specs.Key.{Leaf, fail_node, suspend_node, execute_node}
use Rattle.decision.specs.Walk.{Walk}
use Rattle.path.specs.views.Following.{Ended, reached, stopped}
use Rattle.waiting.specs.views.SpanTests.{span_list}
use Rattle.rule_masks.specs.views.RuleMasks.{notes_masks}
use Rattle.leaves.specs.views.LeafAnswers.{RuleEnd, executed_by}

-- What an execute of a rule comes to, where so many edges lead to it.
abbrev pub walk_after : ℕ → RuleEnd → Walk
walk_after edges e = record { answer = e.answer; edges = edges; waits = e.waits }

module _ (rules : List Patterns) (tests : List Test) (cells : List ℕ) where
  -- The answer at a leaf that so many edges lead to, where the tests with these codes were met: "for suspend it holds the tests met
  -- not known on the walk", with those not known for a rule live there where a span is met.
  abbrev pub leaf_walk : Leaf → ℕ → List ℕ → Walk
  leaf_walk fail_node edges met = record { answer = answers.fail; edges = edges; waits = 0 }
  leaf_walk suspend_node edges met =
      record { answer = answers.suspend; edges = edges; waits = span_list tests cells rules met }
  leaf_walk (execute_node i) edges met =
      walk_after edges (executed_by i (notes_masks tests cells (rule_notes (rule_at rules i))))

  abbrev pub end_walk : Ended → Reading Walk
  end_walk (reached l edges met) = took 0 (leaf_walk l edges met)
  end_walk (stopped q) = refused q

-- "Are its nodes and rule in range": the rule of an execute is one of so many.
abbrev pub LeafIn : ℕ → Leaf → Type 0
LeafIn count fail_node = Unit
LeafIn count suspend_node = Unit
LeafIn count (execute_node i) = (1 ≤ i) × (i ≤ count)
