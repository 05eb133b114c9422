-- The fields of the walks of many pieces are taken out again as include/voltunnis.h says, and a result's bytes are those of the
-- calls for one piece.
use Prim.Native.Nat.{ℕ, ◌/◌, ◌%◌}
use mathlib.Core.Path.{◌≡◌, sym}
use mathlib.Core.List.{◌∷◌}
use native.Mathlib.Omega.{arith}
use Rattle.walk.specs.Walking.{WalkValues}
use Rattle.walk_all.specs.WalkAll.{WalkAll, wait_bytes, result_bytes}
use Rattle.packing.specs.Packed.{Packs, walk_fields}
use Rattle.packing.proofs.Unpacked.{walk_unpacked}
use Rattle.packing.specs.PackedWalks.{walk_all_fields}

-- The refusal in bits 0 to 7, the results written in bits 8 to 31 and the bytes taken in bits 32 to 63.
pub walk_all_unpacked
    : (r : ℕ) (x : WalkAll) → Packs r (walk_all_fields x)
    → (r % 0x100 ≡ x.refusal) × (r / 0x100 % 0x100_0000 ≡ x.results) × (r / 0x1_0000_0000 % 0x1_0000_0000 ≡ x.bytes)
walk_all_unpacked r x (e, (a, (b, (c, _)))) = (omega arith, omega arith, omega arith)

-- A result's bytes, from the numbers that `vt_walk` and `vt_wait` hand back for its piece.
pub result_of_calls
    : (walk wait : ℕ) (x : WalkValues) → Packs walk (walk_fields x) → wait ≡ x.waits
    → result_bytes x
    ≡ walk % 0x100 ∷ walk / 0x100 % 0x100 ∷ walk / 0x1_0000 % 0x100 ∷ walk / 0x100_0000 % 0x100 ∷ 0 ∷ 0 ∷ 0 ∷ 0 ∷ wait_bytes wait
result_of_calls walk wait x p w =
    let (refusal, word, rule, edges) = walk_unpacked walk x p in
    λ i. sym refusal i ∷ sym word i ∷ sym rule i ∷ sym edges i ∷ 0 ∷ 0 ∷ 0 ∷ 0 ∷ wait_bytes (sym w i)
