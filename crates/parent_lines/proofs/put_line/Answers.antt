-- `parent_lines::put_line` meets its contract: the place and a space, then the parent and a line feed.
use Prim.Native.Nat.{ℕ, ◌+◌, ◌≤◌}
use mathlib.Core.Path.{◌≡◌, sym}
use mathlib.Core.List.{List, [], ◌∷◌, ◌++◌, append_assoc}
use lib.ListN.{length}
use Rattle.digits.specs.Decimal.{decimal}
use Rattle.records.proofs.Wrote.{wrote_as, room_as, first_fits, rest_fits, wrote_more}
use Rattle.parent_lines.specs.ParentLines.{place_line}
use Rattle.parent_lines.proofs.put_line.Goals as goal

module _ (place up : ℕ) where
  abbrev place_part : List ℕ
  place_part = decimal place ++ (0x20 ∷ [])

  abbrev parent_part : List ℕ
  parent_part = decimal up ++ (0x0a ∷ [])

  line_parts : place_line place up ≡ place_part ++ parent_part
  line_parts = sym (append_assoc (decimal place) (0x20 ∷ []) parent_part)

  parts_room
      : (xs : List ℕ) (at : ℕ) → at + length (place_line place up) ≤ length xs → at + length (place_part ++ parent_part) ≤ length xs
  parts_room xs at = room_as xs at line_parts

pub put_number-parent-requires : goal.put_number-parent-requires
put_number-parent-requires c =
    let a = c.args in
    first_fits a.buf.now a.at (place_part a.place a.up) (parent_part a.place a.up)
    (parts_room a.place a.up a.buf.now a.at c.requires)

pub put_number-requires : goal.put_number-requires
put_number-requires c =
    let a = c.args in
    rest_fits a.buf.now a.at (place_part a.place a.up) (parent_part a.place a.up)
    (parts_room a.place a.up a.buf.now a.at c.requires) c.put_number-parent.ensures

pub returns : goal.returns
returns c =
    let a = c.args in
    let first = c.put_number-parent.ensures in
    wrote_as a.buf.now a.at (sym (line_parts a.place a.up))
    (wrote_more a.buf.now a.at (place_part a.place a.up) (parent_part a.place a.up)
    (parts_room a.place a.up a.buf.now a.at c.requires) first c.put_number.ensures)
