-- Pairs kept in an array, and where the search for the next one may begin.
use Rattle.std.specs.Prelude.{ℕ, ◌≤◌, ◌<◌, ◌≡◌, List, length, take}
use Rattle.pairs.specs.views.Slot.{Passed}
use Rattle.pairs.specs.declared.Put.{Put}

-- There are at most 65, in the array's entries; a pair above the last one that was put belongs behind so many.
pub record PutAt (codes : List ℕ) (put : Put) : Type 0 where
  pub few : put.count ≤ 65
  pub all_codes : length codes ≡ 65
  pub inside : put.next ≤ put.count
  pub passed : (c : ℕ) → put.last < c → Passed put.next c (take put.count codes)
