-- A built graph at the number of a vertex: the step goes as the one at the vertex, and the node of a vertex that asks
-- asks the first pending test of the order, and no other.
use Prim.Native.Nat.{ℕ}
use mathlib.Core.Path.{◌≡◌, refl, ap, ◌∙◌}
use mathlib.Core.List.{List}
use mathlib.Core.Option.{Option, some}
use Rattle.basics.specs.Lists.{Mem}
use Rattle.terms.specs.Term.{Terms}
use Rattle.terms.specs.Pattern.{Patterns}
use Rattle.sheet_tests.specs.SheetTests.{Test, place, pair}
use Rattle.decision.specs.Rules.{same_test, test_at}
use Rattle.decision.specs.Key.{Key, Vertex, asking}
use Rattle.decision.specs.Node.{map_node}
use Rattle.decision.specs.Edges.{first_in, ask_node, ask_first, node_of}
use Rattle.decision.specs.Graph.{vertices, numbered}
use Rattle.decision.specs.Path.{step_at, node_at}
use Rattle.decision.specs.Walk.{asks_test}
use Rattle.decision.proofs.built.BuiltNodes.{number_of, node_at_lem}
use Rattle.decision.proofs.walking.StepEdges.{map_step, step_map}

-- A node that asks a test asks that test alone.
asks_test_lem
    : (rules : List Patterns) (f : Vertex → ℕ) (key : Key) (t : ℕ) (x y : Test)
    → asks_test x (map_node f (ask_node rules key t y)) ≡ same_test x y
asks_test_lem rules f key t x (place n) = refl
asks_test_lem rules f key t x (pair p q) = refl

module _ (rules : List Patterns) (order : List ℕ) (vs : List Vertex) (built : vertices rules order ≡ some vs)
    (piece : Terms) where
  -- The step at a vertex's number goes as the one at the vertex.
  pub step_at_lem
      : (v : Vertex) → Mem v vs
      → step_at piece (node_at (numbered rules order vs) (number_of rules order vs v))
      ≡ map_step (number_of rules order vs) (step_at piece (node_of rules order v))
  step_at_lem v m =
      ap (step_at piece) (node_at_lem rules order vs built piece v m)
      ∙ step_map (number_of rules order vs) piece (node_of rules order v)

  -- The node of a vertex that asks test t first asks test t alone.
  pub asked_is
      : (key : Key) → Mem (asking key) vs → (t : ℕ) → first_in key.pending order ≡ some t → (x : Test)
      → asks_test x (node_at (numbered rules order vs) (number_of rules order vs (asking key))) ≡ same_test x (test_at rules t)
  asked_is key m t first x =
      ap (asks_test x) (node_at_lem rules order vs built piece (asking key) m)
      ∙ ap (λ (o : Option ℕ). asks_test x (map_node (number_of rules order vs) (ask_first rules key o))) first
      ∙ asks_test_lem rules (number_of rules order vs) key t x (test_at rules t)
