-- The tests of a sheet in its tables (document 01, "Places and tests"): "The sheet's tests are its distinct tested places
-- ascending, then its distinct pairs ascending by p, then q, numbered from 0."
use Rattle.std.specs.Prelude.{ℕ, suc, ◌+◌, ◌-◌, ◌%◌, ◌≤◌, ◌≡◌, Bool, ◌&&◌, List, [], ◌∷◌, map, leb, ltb, length, take, drop, set}
use Rattle.masks.specs.Mask.{mask_of}
use Rattle.basics.specs.Lists.{count_from}
use Rattle.places.specs.Numbering.{at_or_below}
use Rattle.pairs.specs.views.KeptPairs.{pair_code}
use Rattle.tables.specs.views.Planes.{tests_in, place_tests_in, test_in}

-- Numbers one after another, from an entry on; all other entries stay.
abbrev pub put_all : ℕ → List ℕ → List ℕ → List ℕ
put_all at [] s = s
put_all at (x ∷ xs) s = put_all (suc at) xs (set s at x)

-- Place p counts as the pair p, p.
abbrev pub spot_code : ℕ → ℕ
spot_code p = pair_code p p

-- The tables with listed places and, behind them, pairs.
unfoldable pub tests_put : List ℕ → List ℕ → List ℕ → List ℕ
tests_put places pairs s =
    set
    (set (put_all (4 + length places) pairs (put_all 4 (map spot_code places) s)) 1 (length places + length pairs))
    2 (length places)

-- The tables say how many tests they hold.
pub record Counted (s : List ℕ) : Type 0 where
  pub entries : length s ≡ 324
  pub few : tests_in s ≤ 64
  pub places : place_tests_in s ≤ tests_in s

-- The pairs behind the places.
abbrev pub pairs_listed : List ℕ → List ℕ
pairs_listed s = take (tests_in s - place_tests_in s) (drop (4 + place_tests_in s) s)

-- The number stands from p on before an end. The places at and below place p stand in a row that begins with p.
abbrev pub is_within : ℕ → ℕ → ℕ → Bool
is_within p end x = leb p x && ltb x end

-- Of the place tests from t on those at or below the place of test t, which an unknown there settles; a test before t is at no such
-- place.
module _ (s : List ℕ) (t : ℕ) where
  abbrev pub is_settled : ℕ → Bool
  is_settled u = leb t u && at_or_below (test_in s t % 0x1_0000) (test_in s u % 0x1_0000)

  unfoldable pub settled_below : ℕ
  settled_below = mask_of (place_tests_in s) is_settled

unfoldable pub under_put : List ℕ → List ℕ
under_put s = put_all 196 (map (settled_below s) (count_from 0 (place_tests_in s))) s
