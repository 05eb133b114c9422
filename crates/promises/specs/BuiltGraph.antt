-- Built graphs (document 01, "The walk").
use Rattle.std.specs.Prelude.{ℕ, ◌≡◌, List, take}
use Rattle.order.specs.Asking.{Asking}
use Rattle.build.specs.BuildOutcome.{outcome_in}

-- "A built graph is the bytes that building wrote for an accepted sheet, none changed or added": building bytes s into a buffer, in
-- document 01's order or by a table, was not refused, and g is what was written to the front of the buffer.
pub record BuiltGraph (asking : Asking) (s buffer g : List ℕ) : Type 0 where
  pub not_refused : (outcome_in asking s buffer).values.refusal ≡ 0
  pub wrote : g ≡ take (outcome_in asking s buffer).values.bytes (outcome_in asking s buffer).buffer
