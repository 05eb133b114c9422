-- The order in which tests are asked, off the plane that holds of each test those asked before it.
use Rattle.std.specs.Prelude.{ℕ, ◌≡◌, true, false, List}
use Rattle.basics.specs.Lists.{All}
use Rattle.basics.proofs.Sorted.{AscendingBy}
use Rattle.masks.specs.Mask.{has}
use Rattle.tables.specs.views.Planes.{before_in}

module _ (s : List ℕ) where
  -- Test t is asked before test u, and u not before t.
  abbrev pub Asks : ℕ → ℕ → Type 0
  Asks t u = (has (before_in s u) t ≡ true) × (has (before_in s t) u ≡ false)

  -- No test of the order is asked before itself, and each before those that follow it.
  pub record Turns (order : List ℕ) : Type 0 where
    pub apart : All (λ (t : ℕ). has (before_in s t) t ≡ false) order
    pub ascends : AscendingBy Asks order
