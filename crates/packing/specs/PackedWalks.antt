-- The results written and the bytes taken by the walks of many pieces, as one number.
use Rattle.std.specs.Prelude.{ℕ, List, [], ◌∷◌}
use Rattle.walk_all.specs.WalkAll.{WalkAll}
use Rattle.packing.specs.Packed.{Field, bits8, bits32}

abbrev pub bits24 : ℕ → Field
bits24 x = record { values = 0x100_0000; value = x }

-- Results written (bits 8 to 31), bytes of the input taken by pieces that were read (bits 32 to 63).
abbrev pub walk_all_fields : WalkAll → List Field
walk_all_fields x = bits8 x.refusal ∷ bits24 x.results ∷ bits32 x.bytes ∷ []
