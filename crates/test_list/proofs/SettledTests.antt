-- The tests that an unknown settles, one after another.
use Prim.Native.Nat.{ℕ, ◌+◌, ◌%◌, ◌≤◌}
use mathlib.Core.Path.{◌≡◌, sym, ap, ◌∙◌}
use mathlib.Core.Bool.{Bool, ◌&&◌}
use mathlib.Core.List.{List}
use native.Mathlib.Omega.{arith}
use borrow.Author.Tests.{le-leb, lt-leb}
use Rattle.masks.specs.Mask.{mask_of}
use Rattle.masks.proofs.Loops.{mask_of_none, turns_short}
use Rattle.places.specs.Numbering.{stride, levels_at, at_or_below}
use Rattle.tables.specs.views.Planes.{test_in}
use Rattle.test_list.specs.views.Tests.{is_within, is_settled}

module _ (s : List ℕ) (t : ℕ) where
  -- No test before t is.
  pub settled_start : 0 ≡ mask_of t (is_settled s t)
  settled_start =
      turns_short t 0 (is_settled s t) (mask_of_none (is_settled s t)) (omega arith)
      (λ u l h. ap (λ (b : Bool). b && at_or_below (test_in s t % 0x1_0000) (test_in s u % 0x1_0000)) (lt-leb t u h))

  -- From t on a test is by its place.
  pub settled_here
      : (u : ℕ) → t ≤ u → {x end code : ℕ} {b : Bool} → x ≡ test_in s t → end ≡ x % 0x1_0000 + stride (levels_at (x % 0x1_0000))
      → code ≡ test_in s u → b ≡ is_within (x % 0x1_0000) end (code % 0x1_0000) → is_settled s t u ≡ b
  settled_here u h {x} {end} {code} place ends other test =
      ap (λ (b : Bool). b && at_or_below (test_in s t % 0x1_0000) (test_in s u % 0x1_0000)) (le-leb t u h)
      ∙ (λ j. at_or_below (sym place j % 0x1_0000) (sym other j % 0x1_0000))
      ∙ ap (λ (e : ℕ). is_within (x % 0x1_0000) e (code % 0x1_0000)) (sym ends)
      ∙ sym test
