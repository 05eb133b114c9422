-- What is read and checked once, before the pieces: the sheet and its graph.
use Rattle.std.specs.Prelude.{ℕ, ◌≡◌, List, length, drop, Result, Ok, Err}
use Rattle.records.specs.Reading.{took, refused}
use Rattle.records.specs.Refusals.{number}
use Rattle.records.specs.declared.refusal.Refusal.{Refusal}
use Rattle.decision.specs.Node.{Node}
use Rattle.graph_check.specs.CheckGraph.{graph_reading}
use Rattle.leaves.specs.views.Seeking.{Begins}
use Rattle.walk.specs.views.Ready.{Checked}
use Rattle.walk.specs.declared.Sizes.{Sizes}

-- The sheet's tests are listed, the graph is accepted for the sheet, and its nodes begin at the starts. Where a rule's begin is
-- noted, it begins there.
pub record Known (s g starts kept : List ℕ) (sizes : Sizes) : Type 0 where
  pub all_starts : length starts ≡ 1024
  pub checked : Checked s g starts kept sizes.arity sizes.rules sizes.nodes
  pub begins : Begins (drop 3 s) sizes.arity sizes.rules kept

-- A graph that is accepted for the sheet, and all that is known then; or how its reading is refused.
pub record ReadyAs (s g starts kept : List ℕ) (sizes : Sizes) : Type 0 where
  pub nodes : List (Node ℕ)
  pub read : graph_reading s g ≡ took (length g) nodes
  pub known : Known s g starts kept sizes

abbrev pub OpenedAs : List ℕ → List ℕ → List ℕ → List ℕ → Result Sizes Refusal → Type 0
OpenedAs s g starts kept (Ok sizes) = ReadyAs s g starts kept sizes
OpenedAs s g starts kept (Err r) = graph_reading s g ≡ refused (number r)
