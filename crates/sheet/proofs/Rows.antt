-- Patterns in a row, held with what was held before them.
use Prim.Native.Nat.{ℕ, suc, ◌+◌, ◌-◌, ◌*◌, ◌≤◌, ◌<◌}
use mathlib.Core.Path.{◌≡◌, refl, sym, ap, subst, ◌∙◌}
use mathlib.Core.List.{List, [], ◌∷◌, ◌++◌}
use native.Mathlib.Nat.{mul-le-mul_right}
use native.Mathlib.Omega.{arith}
use lib.ListN.{length, take, drop}
use Rattle.places.specs.Numbering.{stride}
use Rattle.records.specs.Reading.{Reading}
use Rattle.records.proofs.Parts.{rest}
use Rattle.records.proofs.RowSoFar.{RowOf}
use Rattle.terms.specs.Pattern.{Pattern, Patterns, pnil, pcons}
use Rattle.sheet.specs.ReadSheet.{read_pattern}
use Rattle.patterns.specs.views.Note.{Note}
use Rattle.sheet.specs.views.Noted.{pattern_notes, patterns_notes}
use Rattle.sheet.specs.views.NotesBehind.{held_with, row_held}

-- Four arguments or fewer have room below their compound.
pub arguments_room
    : (below count : ℕ) → (below ≡ 0 → ⊥) → count ≤ 4 → count * stride (suc (below - 1)) ≤ 4 * stride below
arguments_room below count deep few =
    let e : suc (below - 1) ≡ below = omega arith in
    subst (λ (k : ℕ). count * stride k ≤ 4 * stride below) (sym e) (mul-le-mul_right (stride below) few)

-- How far apart the patterns of a row stand, by the depth of their compound.
pub row_step : (below : ℕ) → below < 4 → stride (4 - (3 - below)) ≡ stride (suc below)
row_step below h = let level : 4 - (3 - below) ≡ suc below = omega arith in ap stride level

module _ {A : Type 0} (put : A → Note → A) where
  -- Notes put after others are put with them.
  pub held_append
      : (held : A) (xs ys : List Note) → held_with put held (xs ++ ys) ≡ held_with put (held_with put held xs) ys
  held_append held [] ys = refl
  held_append held (x ∷ xs) ys = held_append (put held x) xs ys

  -- A reading of a part of the input is one of what is left of it.
  pub part_read
      : (below count a : ℕ) (s : List ℕ) {r : Reading A} {held before : A} {p place : ℕ}
      → r ≡ row_held put below count p held (take (length s - a) (drop a s)) → held ≡ before → p ≡ place
      → r ≡ row_held put below count place before (drop a s)
  part_read below count a s e same at = e ∙ λ j. row_held put below count (at j) (same j) (rest s a j)

  -- Patterns with so many levels below them: heldOne of it is patternHeld, and heldRow is rowHeld.
  abbrev pub pattern_row : ℕ → RowOf Pattern Patterns A
  pattern_row below =
      record {
        empty = pnil;
        join = pcons;
        one = read_pattern below;
        step = stride (suc below);
        hold = λ place held p. held_with put held (pattern_notes p below place);
        hold_all = λ place held ps. held_with put held (patterns_notes ps below place);
        holds_none = λ place held. refl;
        holds_more = λ place held p ps.
            held_append held (pattern_notes p below place) (patterns_notes ps below (place + stride (suc below)));
      }
