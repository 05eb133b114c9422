-- Where the code stands as it counts the places out.
use Rattle.std.specs.Prelude.{ℕ, ◌<◌, ◌≡◌}
use Rattle.places.specs.Numbering.{depth_at, parent_at}

-- Place p is at depth d and below place up, 680 for an argument.
pub record CountedTo (d p up : ℕ) : Type 0 where
  pub inside : p < 680
  pub depth : d ≡ depth_at p
  pub parent : up ≡ parent_at p
