-- What stands at a place of a piece (document 01, "Places and tests"; document 02, request 6).
use Rattle.std.specs.Prelude.{ℕ, zero, suc, pred, ◌-◌, cond, ltb}
use Rattle.places.specs.Numbering.{stride}
use Rattle.terms.specs.Term.{Term, Terms, unknown, never, symbol, numbers, compound, nil, cons}

-- A piece lacks a place, or has a term there.
pub data Found : Type 0 where
  lacking : Found
  found : Term → Found

-- find t r n: what stands n places after the place of t, which has r levels. finds: the same for a row of terms.
-- "A place below an unknown is unknown." Of record 35: "a place below it is treated as it is".
abbrev mutual
  pub find : Term → ℕ → ℕ → Found
  find unknown r n = found unknown
  find never r n = found never
  find (symbol a) r zero = found (symbol a)
  find (symbol a) r (suc n) = lacking
  find (numbers a b) r zero = found (numbers a b)
  find (numbers a b) r (suc n) = lacking
  find (compound a ts) r zero = found (compound a ts)
  find (compound a ts) r (suc n) = finds ts (pred r) n

  pub finds : Terms → ℕ → ℕ → Found
  finds nil r n = lacking
  finds (cons t ts) r n = cond (ltb n (stride r)) (find t r n) (finds ts r (n - stride r))

-- In a piece: its arguments have 4 levels and begin at place 0.
abbrev pub term_at : Terms → ℕ → Found
term_at piece n = finds piece 4 n
