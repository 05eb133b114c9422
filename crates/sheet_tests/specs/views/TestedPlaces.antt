-- The tested places as the check of a sheet keeps them: a set of places in words of 64 bits.
use Rattle.std.specs.Prelude.{ℕ, ◌*◌, ◌/◌, ◌%◌, Bool, List, [], ◌∷◌, ltb, length, get_or}
use Rattle.masks.specs.Mask.{has}
use Rattle.basics.specs.Lists.{filter, count_from}
use Rattle.basics.specs.Order.{insert_by}

-- Place n is in the set where bit n % 64 of word n / 64 is 1.
abbrev pub has_place : List ℕ → ℕ → Bool
has_place words n = has (get_or words (n / 64) 0) (n % 64)

-- The places of the set, ascending.
unfoldable pub places_in : List ℕ → List ℕ
places_in words = filter (has_place words) (count_from 0 (64 * length words))

-- Numbers put one after another into an ascending list, each once.
abbrev pub insert_all : List ℕ → List ℕ → List ℕ
insert_all [] l = l
insert_all (x ∷ xs) l = insert_all xs (insert_by ltb x l)
