-- A rule put into the columns of its tests.
use Rattle.std.specs.Prelude.{ℕ, ◌<◌, ◌≤◌, ◌≡◌, true, false, List, ◌⊎◌, length, get_or}
use Rattle.masks.specs.Mask.{has}
use Rattle.tables.specs.views.Planes.{column_in}
use Rattle.rows.specs.views.Row.{with_test}

-- Rule i is in the columns of the tests of a set besides those that were there; all else stays.
pub record Columned (i row : ℕ) (s s' : List ℕ) : Type 0 where
  pub entries : length s' ≡ length s
  pub others : (k : ℕ) → (k < 132) ⊎ (196 ≤ k) → get_or s' k 0 ≡ get_or s k 0
  pub with : (t : ℕ) → t < 64 → has row t ≡ true → column_in s' t ≡ with_test (column_in s t) i
  pub without : (t : ℕ) → t < 64 → has row t ≡ false → column_in s' t ≡ column_in s t
