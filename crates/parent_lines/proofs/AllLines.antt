-- The lines of the arguments and of all places below them: eight rows of 85, which are all 680 lines, 5,210 bytes.
use Prim.Native.Nat.{ℕ, ◌+◌, ◌-◌, ◌*◌, ◌≤◌, ◌<◌}
use mathlib.Core.Path.{◌≡◌, refl, sym, ap, subst, ◌∙◌}
use mathlib.Core.List.{List, [], ◌++◌, append-nil}
use native.Mathlib.Nat.{mul_comm}
use native.Mathlib.Omega.{arith}
use lib.ListN.{length, drop, drop_of_length-le}
use Rattle.digits.specs.Decimal.{decimal_in, decimal}
use Rattle.places.specs.Numbering.{stride, argument_place, levels_at}
use Rattle.places.proofs.Levels.{levels_first_of}
use Rattle.places.proofs.Parents.{parent_of_argument}
use Rattle.records.proofs.Wrote.{Wrote, wrote_as}
use Rattle.parent_lines.specs.ParentLines.{lines_from, parent_lines}
use Rattle.parent_lines.specs.views.Counting.{CountedTo}
use Rattle.parent_lines.proofs.LineRows.{RowsWrote, rows_begun, row_room, row_more}

-- The text has 5,210 bytes.
pub text_length : length parent_lines ≡ 5210
unfolding lines_from decimal decimal_in
text_length = refl

-- Arguments are at depth 1, with 680 for their parent.
pub argument_counted : (a : ℕ) → 1 ≤ a → a ≤ 8 → CountedTo 1 (argument_place a) 680
argument_counted a from to =
    let levels : levels_at (argument_place a) ≡ 4 = ap levels_at (mul_comm (stride 4) (a - 1)) ∙ levels_first_of 4 (a - 1) in
    record { inside = omega arith; depth = omega (arith, levels); parent = sym (parent_of_argument a) }

-- The lines of the arguments before argument a stand in a buffer of 5,210 bytes, whatever it held.
pub record Passed (a end : ℕ) (buf : List ℕ) : Type 0 where
  pub from : 1 ≤ a
  pub to : a ≤ 9
  pub held : List ℕ
  pub size : length held ≡ 5210
  pub wrote : RowsWrote held 0 0 85 (a - 1) end buf

pub passed_none : (held : List ℕ) → length held ≡ 5210 → Passed 1 0 held
passed_none held size =
    record { from = omega arith; to = omega arith; held = held; size = size; wrote = rows_begun held 0 0 85 }

module _ (a end : ℕ) (buf : List ℕ) (passed : Passed a end buf) where
  room : 0 + length (lines_from 0 (8 * 85)) ≤ length passed.held
  room = omega (arith, text_length, passed.size)

  -- There is room for those of argument a,
  module _ (more : a ≤ 8) where
    place : 0 + (a - 1) * 85 ≡ argument_place a
    place = omega arith

    pub argument_room : end + length (lines_from (argument_place a) 85) ≤ length buf
    argument_room =
        subst (λ (p : ℕ). end + length (lines_from p 85) ≤ length buf) place
        (row_room passed.held 0 0 8 85 (a - 1) room (omega (arith, passed.from)) passed.wrote)

    -- and then they stand behind the others.
    pub passed_more
        : {last : ℕ} {zs : List ℕ} → Wrote buf end (lines_from (argument_place a) 85) last zs → Passed (a + 1) last zs
    passed_more w = record {
      from = omega arith;
      to = omega arith;
      held = passed.held;
      size = passed.size;
      wrote =
          row_more passed.held 0 0 8 85 (a - 1) room (omega (arith, passed.from)) passed.wrote (a + 1 - 1)
          (omega (arith, passed.from)) (wrote_as buf end (ap (λ (p : ℕ). lines_from p 85) (sym place)) w);
    }

  -- At the end all lines do, and nothing else.
  pub passed_all : 8 < a → (buf ≡ parent_lines) × (length buf ≡ 5210)
  passed_all done =
      let eight : a - 1 ≡ 8 = omega (arith, passed.to) in
      let all = subst (λ (i : ℕ). RowsWrote passed.held 0 0 85 i end buf) eight passed.wrote in
      let none : drop (0 + length parent_lines) passed.held ≡ [] =
      drop_of_length-le passed.held {i = 0 + length parent_lines} (omega (arith, text_length, passed.size)) in
      let is = all.1 ∙ ap (parent_lines ++◌) none ∙ append-nil parent_lines in
      (is, ap length is ∙ text_length)
