-- Order from the track drawing (document 02, request 14): "Owners know where each sensor sits but can't write request 1's table."
use Rattle.std.specs.Prelude.{ℕ, zero, suc, ◌*◌, ◌≤◌, ◌<◌, ◌≡◌, Bool, true, ◌&&◌, not, ◌||◌, cond, List, [], ◌∷◌, ◌++◌, eqb, leb}
use Rattle.basics.specs.Lists.{any_of, filter, count_from}
use Rattle.places.specs.Numbering.{parent_at}
use Rattle.records.specs.Fields.{wide_at}

-- "They hand in 680 wide track positions, one for each place."
abbrev pub position_at : List ℕ → ℕ → ℕ
position_at positions p = wide_at positions (2 * p)

abbrev pub is_down : List ℕ → ℕ → Bool
is_down down p = any_of (eqb p) down

-- "Of the places not yet put down that are arguments or whose parent is down": an argument's parent is 680.
abbrev pub may_follow : List ℕ → ℕ → Bool
may_follow down p = not (is_down down p) && (eqb (parent_at p) 680 || is_down down (parent_at p))

-- "The one with the smallest position comes next, on equal positions the lower place": of places in ascending order, the first of
-- those with the smallest position. It is 680 of none.
abbrev pub nearer : List ℕ → ℕ → ℕ → ℕ
nearer positions p later = cond (eqb later 680 || leb (position_at positions p) (position_at positions later)) p later

abbrev pub nearest : List ℕ → List ℕ → ℕ
nearest positions [] = 680
nearest positions (p ∷ places) = nearer positions p (nearest positions places)

unfoldable pub next_place : List ℕ → List ℕ → ℕ
next_place positions down = nearest positions (filter (may_follow down) (count_from 0 680))

-- "Step by step": the places that are down after n steps, in the order in which they were put down.
unfoldable pub down_after : List ℕ → ℕ → List ℕ
down_after positions zero = []
down_after positions (suc n) = down_after positions n ++ (next_place positions (down_after positions n) ∷ [])

-- All 680 of them.
unfoldable pub track_order : List ℕ → List ℕ
track_order positions = down_after positions 680

-- Place p comes next where these places are down: it is one of those that may follow, none of them has a smaller position, and none
-- that is lower has the same.
pub record Next (positions down : List ℕ) (p : ℕ) : Type 0 where
  pub inside : p < 680
  pub follows : may_follow down p ≡ true
  pub smallest : (q : ℕ) → q < 680 → may_follow down q ≡ true → position_at positions p ≤ position_at positions q
  pub lowest : (q : ℕ) → q < 680 → may_follow down q ≡ true → position_at positions q ≡ position_at positions p → p ≤ q
