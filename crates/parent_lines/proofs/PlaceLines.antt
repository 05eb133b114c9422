-- The lines of a place and of those below it: its own line, and then four rows, one for each child.
use Prim.Native.Nat.{ℕ, suc, ◌+◌, ◌-◌, ◌*◌, ◌≤◌, ◌<◌}
use mathlib.Core.Path.{◌≡◌, sym, ap, ◌∙◌}
use mathlib.Core.List.{List, [], ◌++◌, append-nil}
use native.Mathlib.Omega.{arith}
use lib.ListN.{length}
use Rattle.places.specs.Numbering.{stride, child_place, levels_at, parent_at}
use Rattle.places.proofs.Rows.{stride_grows, child_fit}
use Rattle.places.proofs.Levels.{levels_range, levels_fit_row}
use Rattle.places.proofs.Parents.{parent_of_child_place, levels_of_child_place}
use Rattle.records.proofs.Wrote.{Wrote, wrote_as, room_as, wrote_more, first_fits, rest_fits}
use Rattle.parent_lines.specs.ParentLines.{place_line, lines_from}
use Rattle.parent_lines.specs.views.Counting.{CountedTo}

-- A place that is counted to stands at a depth of 1 to 4.
module _ (d p up : ℕ) (counted : CountedTo d p up) where
  pub depth_range : (1 ≤ d) × (d ≤ 4)
  depth_range = let levels = levels_range 4 p (omega arith) in (omega (arith, counted.depth), omega (arith, counted.depth))

  levels_are : levels_at p ≡ 5 - d
  levels_are = let levels = levels_range 4 p (omega arith) in omega (arith, counted.depth)

  -- The places at and below it are itself and four rows,
  places_are_lem : stride (5 - d) ≡ suc (4 * stride (4 - d))
  places_are_lem = let less : 5 - d ≡ suc (4 - d) = omega (arith, depth_range) in ap stride less

  -- and so are the lines.
  own_line : lines_from p (stride (5 - d)) ≡ place_line p up ++ lines_from (p + 1) (4 * stride (4 - d))
  unfolding lines_from
  own_line =
      let rest = 4 * stride (4 - d) in
      let next : suc p ≡ p + 1 = omega arith in
      ap (lines_from p) places_are_lem
      ∙ ap (λ (u : ℕ). place_line p u ++ lines_from (suc p) rest) (sym counted.parent)
      ∙ ap (λ (q : ℕ). place_line p up ++ lines_from q rest) next

  -- Each child is a place of its own, one deeper, with p for its parent.
  module _ (j : ℕ) (deep : d ≤ 3) (from : 1 ≤ j) (to : j ≤ 4) where
    child_is : child_place (5 - d) p j ≡ child_place (suc (4 - d)) p j
    child_is = let less : 5 - d ≡ suc (4 - d) = omega arith in ap (λ (r : ℕ). child_place r p j) less

    child_row : child_place (5 - d) p j ≡ p + 1 + (j - 1) * stride (4 - d)
    child_row = child_is

    -- Its lines are a row of those behind the line of p.
    pub child_lines
        : {q : ℕ} → q ≡ child_place (5 - d) p j
        → lines_from (p + 1 + (j - 1) * stride (4 - d)) (stride (4 - d)) ≡ lines_from q (stride (5 - (d + 1)))
    child_lines {q} is =
        let less : 4 - d ≡ 5 - (d + 1) = omega arith in
        ap (λ (x : ℕ). lines_from x (stride (4 - d))) (sym (is ∙ child_row)) ∙ ap (λ (r : ℕ). lines_from q (stride r)) less

    pub child_counted : CountedTo (d + 1) (child_place (5 - d) p j) p
    child_counted =
        let r = 4 - d in
        let levels : levels_at p ≡ suc r = levels_are ∙ omega arith in
        let parent = parent_of_child_place r p j levels (omega arith) from to in
        let deeper = levels_of_child_place r p j levels (omega arith) from to in
        let fits = levels_fit_row 4 p 8 counted.inside in
        let room : p + stride (5 - d) ≤ 680 = omega (arith, ap stride levels_are, fits) in
        let some = stride_grows 1 r (omega arith) in
        record {
          inside = omega (arith, child_row, child_fit j (stride r) from to, places_are_lem, room, some);
          depth = omega (arith, ap levels_at child_is ∙ deeper);
          parent = sym (ap parent_at child_is ∙ parent);
        }

  module _ (xs : List ℕ) (at : ℕ) (room : at + length (lines_from p (stride (5 - d))) ≤ length xs) where
    both : at + length (place_line p up ++ lines_from (p + 1) (4 * stride (4 - d))) ≤ length xs
    both = room_as xs at own_line room

    pub line_room : at + length (place_line p up) ≤ length xs
    line_room = first_fits xs at (place_line p up) (lines_from (p + 1) (4 * stride (4 - d))) both

    module _ {end : ℕ} {ys : List ℕ} (own : Wrote xs at (place_line p up) end ys) where
      pub rows_room : end + length (lines_from (p + 1) (4 * stride (4 - d))) ≤ length ys
      rows_room = rest_fits xs at (place_line p up) (lines_from (p + 1) (4 * stride (4 - d))) both own

      -- The deepest places have none below them.
      pub deepest_wrote : 3 < d → Wrote xs at (lines_from p (stride (5 - d))) end ys
      unfolding lines_from
      deepest_wrote deep =
          let none : 4 - d ≡ 0 = omega arith in
          let alone : lines_from (p + 1) (4 * stride (4 - d)) ≡ [] = ap (λ (r : ℕ). lines_from (p + 1) (4 * stride r)) none in
          wrote_as xs at (sym (own_line ∙ ap (place_line p up ++◌) alone ∙ append-nil (place_line p up))) own

      pub rows_wrote
          : {last : ℕ} {zs : List ℕ} → Wrote ys end (lines_from (p + 1) (4 * stride (4 - d))) last zs
          → Wrote xs at (lines_from p (stride (5 - d))) last zs
      rows_wrote rows =
          wrote_as xs at (sym own_line)
          (wrote_more xs at (place_line p up) (lines_from (p + 1) (4 * stride (4 - d))) both own rows)
