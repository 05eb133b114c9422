-- How the code keeps the places that may follow: for each place the least key of those at or below it, so that the least of the
-- arguments' is that of the place that comes next.
use Rattle.std.specs.Prelude.{ℕ, ◌+◌, ◌*◌, ◌≤◌, ◌<◌, ◌≡◌, true, false, cond, ◌⊎◌, List, length, get_or}
use Rattle.places.specs.Numbering.{parent_at, at_or_below}
use Rattle.track.specs.Track.{position_at, may_follow}

-- By its position first, then by its number.
abbrev pub position_key : List ℕ → ℕ → ℕ
position_key positions p = position_at positions p * 1024 + p

-- The key of a place that may follow, and 2 to the power 26, which is above all keys, for any other.
abbrev pub front_at : List ℕ → List ℕ → ℕ → ℕ
front_at positions down p = cond (may_follow down p) (position_key positions p) 67108864

-- The keys with those of a row of n places, each so many places behind the one before it.
pub record Opened (positions : List ℕ) (from step n : ℕ) (keys after : List ℕ) : Type 0 where
  pub size : length after ≡ 680
  pub row : (i : ℕ) → i < n → get_or after (from + i * step) 0 ≡ position_key positions (from + i * step)
  pub others : (q : ℕ) → ((i : ℕ) → i < n → q ≡ from + i * step → ⊥) → get_or after q 0 ≡ get_or keys q 0

-- The least key of such a row, 2 to the power 26 if it has none.
pub record LeastOf (keys : List ℕ) (from step n m : ℕ) : Type 0 where
  pub low : (i : ℕ) → i < n → m ≤ get_or keys (from + i * step) 0
  pub met : (m ≡ 67108864) ⊎ ((i : ℕ) × (i < n) × (m ≡ get_or keys (from + i * step) 0))

-- The least key of the places that have p as their parent, 680 for the arguments.
pub record LeastBelow (keys : List ℕ) (p m : ℕ) : Type 0 where
  pub low : (q : ℕ) → q < 680 → parent_at q ≡ p → m ≤ get_or keys q 0
  pub met : (m ≡ 67108864) ⊎ ((q : ℕ) × (q < 680) × (parent_at q ≡ p) × (m ≡ get_or keys q 0))

-- The keys where each place at or above p has the least of its children's.
pub record Climbed (p : ℕ) (keys after : List ℕ) : Type 0 where
  pub size : length after ≡ 680
  pub above : (q : ℕ) → q < 680 → at_or_below q p ≡ true → LeastBelow after q (get_or after q 0)
  pub others : (q : ℕ) → q < 680 → at_or_below q p ≡ false → get_or after q 0 ≡ get_or keys q 0

-- The keys where one more place is down: its children have theirs, and each place at or above it the least of its children's.
pub record PutDown (positions : List ℕ) (p : ℕ) (keys after : List ℕ) : Type 0 where
  pub size : length after ≡ 680
  pub above : (q : ℕ) → q < 680 → at_or_below q p ≡ true → LeastBelow after q (get_or after q 0)
  pub children : (q : ℕ) → q < 680 → parent_at q ≡ p → get_or after q 0 ≡ position_key positions q
  pub others
      : (q : ℕ) → q < 680 → at_or_below q p ≡ false → (parent_at q ≡ p → ⊥) → get_or after q 0 ≡ get_or keys q 0
