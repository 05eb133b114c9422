-- The outcomes of tests in a piece that is laid out by place (document 01, "Places and tests").
use Rattle.std.specs.Prelude.{ℕ, pred, ◌||◌, cond, List, eqb}
use Rattle.places.specs.Numbering.{levels_at}
use Rattle.terms.specs.Outcome.{Outcome, holds, not_known, contradicted, inside}
use Rattle.codes.specs.views.Codes.{low_of, high_of}
use Rattle.outcomes.specs.declared.TestOutcome.{TestOutcome}
use Rattle.outcomes.specs.declared.TestOutcome.TheVariants as test
use Rattle.outcomes.specs.views.Look.{look}
use Rattle.outcomes.specs.views.CompareCells.{compare_at}

-- The three values of a test.
abbrev pub outcome_of : TestOutcome → Outcome
outcome_of test.Holds = holds
outcome_of test.NotKnown = not_known
outcome_of test.Contradicted = contradicted

-- A place test that holds at the codes from low to high, where what stands there has one of the codes from x to y: it holds if it
-- holds at each of these, is contradicted if at none, and else is not known. A place that the piece lacks has code 0 alone, at
-- which no test holds.
abbrev pub run_outcome : ℕ → ℕ → ℕ → ℕ → Outcome
run_outcome low high x y = inside low high x y

-- A place test at place p.
abbrev pub place_cells : List ℕ → ℕ → ℕ → ℕ → Outcome
place_cells cells p low high = run_outcome low high (low_of (look cells p)) (high_of (look cells p))

-- An equality test at two places with these runs, whose terms compare so: it is contradicted where one of them is lacking.
abbrev pub runs_outcome : ℕ → ℕ → Outcome → Outcome
runs_outcome a b compared = cond (eqb a 0 || eqb b 0) contradicted compared

-- An equality test at places p and q. A place has one level less below it than it has levels.
abbrev pub pair_cells : List ℕ → ℕ → ℕ → Outcome
pair_cells cells p q =
    runs_outcome (look cells p) (look cells q)
    (compare_at cells (pred (levels_at p)) (pred (levels_at q)) p q (look cells p) (look cells q))
