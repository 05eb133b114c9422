-- Equally long rows of places, whose lines are written one row behind another.
use Prim.Native.Nat.{ℕ, zero, suc, ◌+◌, ◌-◌, ◌*◌, ◌≤◌, ◌<◌}
use mathlib.Core.Path.{◌≡◌, sym, ap, ◌∙◌}
use mathlib.Core.List.{List, ◌++◌, append_assoc}
use native.Mathlib.Nat.{zero-mul, suc-mul, add-mul}
use native.Mathlib.Omega.{arith}
use lib.ListN.{length}
use Rattle.places.specs.Numbering.{parent_at}
use Rattle.records.proofs.Writing.{splice_none}
use Rattle.records.proofs.Wrote.{Wrote, wrote_as, room_as, wrote_behind, first_fits, rest_fits}
use Rattle.parent_lines.specs.ParentLines.{place_line, lines_from}

-- Lines behind lines are the lines of all the places.
pub lines_more : (p a b : ℕ) → lines_from p (a + b) ≡ lines_from p a ++ lines_from (p + a) b
unfolding lines_from
lines_more p zero b =
    let none : 0 + b ≡ b = omega arith in
    let same : p ≡ p + 0 = omega arith in
    ap (lines_from p) none ∙ ap (λ (q : ℕ). lines_from q b) same
lines_more p (suc a) b =
    let more : suc a + b ≡ suc (a + b) = omega arith in
    let next : suc p + a ≡ p + suc a = omega arith in
    let line = place_line p (parent_at p) in
    ap (lines_from p) more
    ∙ ap (line ++◌) (lines_more (suc p) a b ∙ ap (λ (q : ℕ). lines_from (suc p) a ++ lines_from q b) next)
    ∙ sym (append_assoc line (lines_from (suc p) a) (lines_from (p + suc a) b))

-- The lines of i rows of s places each, from place b on, are written.
abbrev pub RowsWrote : List ℕ → ℕ → ℕ → ℕ → ℕ → ℕ → List ℕ → Type 0
RowsWrote xs at b s i end ys = Wrote xs at (lines_from b (i * s)) end ys

-- At first none is.
pub rows_begun : (xs : List ℕ) (at b s : ℕ) → RowsWrote xs at b s 0 at xs
unfolding lines_from
rows_begun xs at b s =
    let none : lines_from b 0 ≡ lines_from b (0 * s) = ap (lines_from b) (sym (zero-mul s)) in
    wrote_as xs at none (omega arith, splice_none xs at)

-- While there are fewer than k there is room for one more, and then it is written behind the others.
module _ (xs : List ℕ) (at b k s i : ℕ) (room : at + length (lines_from b (k * s)) ≤ length xs) (more : i < k) where
  abbrev left : List ℕ
  left = lines_from (b + i * s + s) ((k - suc i) * s)

  split : lines_from b (k * s) ≡ lines_from b (i * s) ++ (lines_from (b + i * s) s ++ left)
  split =
      let m = k - suc i in
      let count : k ≡ i + suc m = omega arith in
      let sum : k * s ≡ i * s + (s + m * s) =
      ap (λ (x : ℕ). x * s) count ∙ add-mul i (suc m) s ∙ omega (arith, suc-mul m s) in
      ap (lines_from b) sum
      ∙ lines_more b (i * s) (s + m * s)
      ∙ ap (lines_from b (i * s) ++◌) (lines_more (b + i * s) s (m * s))

  all : at + length (lines_from b (i * s) ++ (lines_from (b + i * s) s ++ left)) ≤ length xs
  all = room_as xs at split room

  module _ {end : ℕ} {ys : List ℕ} (so_far : RowsWrote xs at b s i end ys) where
    pub row_room : end + length (lines_from (b + i * s) s) ≤ length ys
    row_room =
        first_fits ys end (lines_from (b + i * s) s) left
        (rest_fits xs at (lines_from b (i * s)) (lines_from (b + i * s) s ++ left) all so_far)

    pub row_more
        : (n : ℕ) {last : ℕ} {zs : List ℕ} → n ≡ suc i → Wrote ys end (lines_from (b + i * s) s) last zs
        → RowsWrote xs at b s n last zs
    row_more n next w =
        let sum : i * s + s ≡ n * s = sym (suc-mul i s) ∙ ap (λ (x : ℕ). x * s) (sym next) in
        wrote_as xs at (sym (lines_more b (i * s) s) ∙ ap (lines_from b) sum)
        (wrote_behind xs at (lines_from b (i * s)) (lines_from (b + i * s) s)
        (first_fits xs at (lines_from b (i * s)) (lines_from (b + i * s) s ++ left) all) so_far w)
