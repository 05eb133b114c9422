-- How a table is read, a place after another: 29 is answered at once, 30 only after the last place.
use Rattle.std.specs.Prelude.{Result, ⊤, ℕ, Bool, ◌&&◌, ◌||◌, cond, List, [], ◌∷◌, eqb, ltb, get_or, set, replicate}
use Rattle.places.specs.Numbering.{parent_at}
use Rattle.records.specs.Reading.{Reading, took}
use Rattle.records.specs.Refusals.{reading_in}
use Rattle.records.specs.declared.refusal.Refusal.{Refusal}

-- What was read, where an array holds the places. After a refusal the array holds nothing of use.
abbrev pub table_read : List ℕ → Result Unit Refusal → Reading (List ℕ)
table_read places r = reading_in (λ u. took 1360 places) r

-- The places that are down, an entry for each: 0 where it is not. None is at first but 680, the parent of an argument.
unfoldable pub none_down : List ℕ
none_down = set (replicate 681 0) 680 1

-- The place is one of the 680 and not down yet.
abbrev pub is_new : List ℕ → ℕ → Bool
is_new down p = ltb p 680 && eqb (get_or down p 0) 0

-- Its parent is not down yet.
abbrev pub is_late : List ℕ → ℕ → Bool
is_late down p = eqb (get_or down (parent_at p) 0) 0

-- The refusal, 0 if none, where these places are still to come, and whether a place was late before them.
abbrev pub refusal_on : List ℕ → List ℕ → Bool → ℕ
refusal_on [] down late = cond late 30 0
refusal_on (p ∷ places) down late = cond (is_new down p) (refusal_on places (set down p 1) (late || is_late down p)) 29
