-- The cuts of place tests in one array. Each test has a part: how many cuts it has, then for each cut its code and the set of the
-- rules that turn there: what they want begins at this code, or is over before it.
use Rattle.std.specs.Prelude.{ℕ, ◌+◌, ◌*◌, ◌≤◌, ◌<◌, cond, List, [], ◌∷◌, map, ltb, length, get_or}
use Rattle.std.specs.Int.Bits.{bit_xor}
use Rattle.basics.specs.Lists.{count_from}

pub record Cut : Type 0 where
  pub code : ℕ
  pub turns : ℕ

abbrev pub cut_with : ℕ → ℕ → Cut
cut_with code turns = record { code = code; turns = turns }

-- Where the part of test t begins, of a sheet with so many rules: a rule has two cuts at most.
abbrev pub part_at : ℕ → ℕ → ℕ
part_at rules t = (1 + 4 * rules) * t

-- What a part holds that begins there.
abbrev pub count_at : List ℕ → ℕ → ℕ
count_at c from = get_or c from 0

abbrev pub cut_at : List ℕ → ℕ → ℕ → Cut
cut_at c from k = cut_with (get_or c (from + 1 + 2 * k) 0) (get_or c (from + 2 + 2 * k) 0)

abbrev pub cuts_in : List ℕ → ℕ → List Cut
cuts_in c from = map (cut_at c from) (count_from 0 (count_at c from))

-- The words of a part with these cuts.
abbrev pub cut_words : List Cut → List ℕ
cut_words [] = []
cut_words (x ∷ xs) = x.code ∷ x.turns ∷ cut_words xs

abbrev pub part_words : List Cut → List ℕ
part_words cuts = length cuts ∷ cut_words cuts

-- Ascending cuts where some rules turn at a code more: where two wants have a cut at the same code, the rules of both turn there.
abbrev pub toggle : ℕ → ℕ → List Cut → List Cut
toggle code bit [] = cut_with code bit ∷ []
toggle code bit (x ∷ xs) =
    cond (ltb x.code code) (x ∷ toggle code bit xs)
    (cond (ltb code x.code) (cut_with code bit ∷ x ∷ xs) (cut_with x.code (bit_xor x.turns bit) ∷ xs))

-- Of so many cuts the first that is not below a code is the r-th, or all are below it.
pub record Spot (c : List ℕ) (from count code r : ℕ) : Type 0 where
  pub within : r ≤ count
  pub passed : (k : ℕ) → k < r → (cut_at c from k).code < code
  pub reached : r < count → code ≤ (cut_at c from r).code

-- The parts of so many place tests are in the array, each with two cuts a rule at most, and each cut is at a code of 32 bits that
-- is not 0.
pub record Parted (rules places : ℕ) (c : List ℕ) : Type 0 where
  pub few_rules : rules ≤ 64
  pub few_places : places ≤ 64
  pub room : part_at rules places ≤ length c
  pub counted : (t : ℕ) → t < places → count_at c (part_at rules t) ≤ 2 * rules
  pub coded
      : (t k : ℕ) → t < places → k < count_at c (part_at rules t)
      → (0 < (cut_at c (part_at rules t) k).code) × ((cut_at c (part_at rules t) k).code < 0x1_0000_0000)
