-- The lines of the pieces, one turn after another.
use Prim.Native.Nat.{ℕ, zero, suc, ◌+◌, ◌-◌, ◌≤◌}
use mathlib.Core.Path.{◌≡◌, refl}
use mathlib.Core.List.{List, [], ◌∷◌, ◌++◌}
use native.Mathlib.Omega.{arith}
use lib.ListN.{length, drop}
use Rattle.records.specs.Reading.{Reading}
use Rattle.decision.specs.Walk.{Walk}
use Rattle.piece_lines.specs.BuiltLines.{lines_or, first_walk, piece_lines}
use Rattle.piece_lines.specs.views.Turned.{walk_line}

module _ (reply : List ℕ → Reading Walk) where
  -- Where no bytes are left nothing is printed.
  pub pieces_none : (most number : ℕ) (input : List ℕ) → length input ≡ 0 → piece_lines reply most number input ≡ []
  unfolding piece_lines
  pieces_none zero number input e = refl
  pieces_none (suc most) number [] e = refl
  pieces_none (suc most) number (b ∷ bs) e = absurd (omega arith)

  -- Where some are left, the line of a piece and what follows it, or that of a refusal.
  pub pieces_turn
      : (most number : ℕ) (input : List ℕ) → 1 ≤ most → 1 ≤ length input
      → piece_lines reply most number input
      ≡ lines_or (first_walk reply input) (λ k w. walk_line number w ++ piece_lines reply (most - 1) (number + 1) (drop k input))
  unfolding piece_lines
  pieces_turn zero number input m h = absurd (omega arith)
  pieces_turn (suc most) number [] m h = absurd (omega arith)
  pieces_turn (suc most) number (b ∷ bs) m h =
      let less : suc most - 1 ≡ most = omega arith in
      let next : number + 1 ≡ suc number = omega arith in
      rw (less, next)
