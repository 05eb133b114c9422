-- The pairs of a sheet as its check keeps them: at most 64, ascending; of a sheet with more it is only kept that there are more.
use Rattle.std.specs.Prelude.{ℕ, ◌+◌, ◌*◌, Bool, true, false, List, [], ◌∷◌, leb, ltb, length, take}
use Rattle.basics.specs.Order.{insert_by}

-- A pair of places as one number: these numbers ascend as pairs do, "by p, then q".
abbrev pub pair_code : ℕ → ℕ → ℕ
pair_code p q = p * 0x1_0000 + q

-- The numbers of the pairs kept, or that there are more than 64.
pub data KeptPairs : Type 0 where
  these : List ℕ → KeptPairs
  many : KeptPairs

abbrev pub kept_if : Bool → List ℕ → KeptPairs
kept_if true l = these l
kept_if false l = many

abbrev pub kept_of : List ℕ → KeptPairs
kept_of l = kept_if (leb (length l) 64) l

-- One pair more, and all of a list.
abbrev pub keep : ℕ → KeptPairs → KeptPairs
keep c (these l) = kept_of (insert_by ltb c l)
keep c many = many

abbrev pub keep_all : List ℕ → KeptPairs → KeptPairs
keep_all [] k = k
keep_all (c ∷ cs) k = keep_all cs (keep c k)

-- What an array and a number say: the first n entries, or too many where n is 65.
unfoldable pub pairs_in : List ℕ → ℕ → KeptPairs
pairs_in codes n = kept_if (leb n 64) (take n codes)
