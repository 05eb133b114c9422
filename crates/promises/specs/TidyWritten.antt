-- The bytes that a sheet gets (document 02, request 2): "A writer gives every accepted sheet one form".
use Rattle.std.specs.Prelude.{ℕ, ◌≡◌, List, take}
use Rattle.tidy.specs.Tidied.{tidied}

-- Tidying bytes s into a buffer was not refused, and w is what was written to the front of the buffer.
pub record TidyWritten (s buffer w : List ℕ) : Type 0 where
  pub not_refused : (tidied s buffer).refusal ≡ 0
  pub wrote : w ≡ take (tidied s buffer).bytes (tidied s buffer).buffer
