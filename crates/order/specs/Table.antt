-- The table of the reading order of the owner's machine (document 02, request 1): "A laundrette chain mounts its metal coil last
-- and wants it asked last. A loaded table of 680 wide place numbers replaces the ascending order of places". In what order a
-- sheet's tests are then asked is `order_by`, decision/specs/PlaceOrder.
use Rattle.std.specs.Prelude.{ℕ, ◌*◌, Bool, true, ◌&&◌, not, List, [], ◌∷◌, map, eqb, ltb, length}
use Rattle.basics.specs.Lists.{any_of, count_from}
use Rattle.places.specs.Numbering.{parent_at}
use Rattle.records.specs.Fields.{wide_at}
use Rattle.records.specs.Reading.{Reading, took, refused, ask}

-- "680 wide place numbers", in the order in which the places are asked.
unfoldable pub table_places : List ℕ → List ℕ
table_places bytes = map (λ (i : ℕ). wide_at bytes (2 * i)) (count_from 0 680)

-- It has no "place out of range or twice": each is one of the 680 and does not stand again behind itself.
abbrev pub each_once : List ℕ → Bool
each_once [] = true
each_once (p ∷ places) = ltb p 680 && not (any_of (eqb p) places) && each_once places

-- It has none "before its parent": no place's parent stands behind it. The parent of an argument is 680, which is no place.
abbrev pub parents_first : List ℕ → Bool
parents_first [] = true
parents_first (p ∷ places) = not (any_of (eqb (parent_at p)) places) && parents_first places

-- "After the sheet's questions it refuses a table that isn't 1,360 bytes (28), has a place out of range or twice (29), or has one
-- before its parent (30), in this order."
unfoldable pub read_table : List ℕ → Reading (List ℕ)
read_table bytes =
    ask 28 (eqb (length bytes) 1360)
    (ask 29 (each_once (table_places bytes))
    (ask 30 (parents_first (table_places bytes)) (took 1360 (table_places bytes))))

-- The refusal's number, 0 where the table is accepted.
abbrev pub table_refusal : Reading (List ℕ) → ℕ
table_refusal (took k places) = 0
table_refusal (refused q) = q
