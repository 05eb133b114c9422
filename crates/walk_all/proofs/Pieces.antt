-- The pieces of an input one after another: none, or the first and those behind it.
use Prim.Native.Nat.{ℕ, zero, suc, ◌-◌, ◌≤◌}
use mathlib.Core.Path.{◌≡◌, refl}
use mathlib.Core.List.{List, [], ◌∷◌}
use native.Mathlib.Omega.{arith}
use lib.ListN.{length, drop}
use Rattle.piece.specs.ReadPiece.{read_prefix}
use Rattle.walk_all.specs.WalkAll.{piece_then, pieces_in}

-- No room is left,
pub pieces_roomless : (room left : ℕ) (input : List ℕ) → room ≡ 0 → pieces_in room left input ≡ []
unfolding pieces_in
pieces_roomless zero left input e = refl
pieces_roomless (suc room) left input e = absurd (omega arith)

-- or the input is used up,
pub pieces_none : (room left : ℕ) (input : List ℕ) → length input ≡ 0 → pieces_in room left input ≡ []
unfolding pieces_in
pieces_none zero left input e = refl
pieces_none (suc room) left [] e = refl
pieces_none (suc room) left (b ∷ bs) e = absurd (omega arith)

-- or a piece comes first.
pub pieces_turn
    : (room left : ℕ) (input : List ℕ) → 1 ≤ room → 1 ≤ length input
    → pieces_in room left input
    ≡ piece_then input left (λ k. pieces_in (room - 1) (left - k) (drop k input)) (read_prefix input)
unfolding pieces_in
pieces_turn zero left input h k = absurd (omega arith)
pieces_turn (suc room) left [] h k = absurd (omega arith)
pieces_turn (suc room) left (b ∷ bs) h k = let less : suc room - 1 ≡ room = omega arith in rw less
