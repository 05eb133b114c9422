-- The cases of a switch (document 01, "Nodes", and document 02, requests 4 to 7).
use Rattle.std.specs.Prelude.{ℕ, Bool, false, ◌&&◌, List, [], ◌∷◌, ◌++◌, map, leb, eqb}
use Rattle.basics.specs.Order.{insert_by, pair_before}
use Rattle.terms.specs.Term.{Term, count, unknown, never, symbol, numbers, compound}
use Rattle.terms.specs.RuleTests.{Want, a_symbol, a_number, a_compound, Range}
use Rattle.decision.specs.Runs.{runs, number_pairs}

-- "Record 44 becomes (wide low, wide high, wide node) for a run of ids", "45 compound (wide id, arity, ..)", "record 46 becomes
-- (gauge, wide low, wide high, wide node)", low and high being on that gauge.
pub data Case : Type 0 where
  symbols_case : ℕ → ℕ → Case
  compound_case : ℕ → ℕ → Case
  numbers_case : ℕ → ℕ → Case

-- The case takes a term: a symbol or a number that it contains, a span if it contains all of it. None takes record 35.
abbrev pub takes : Case → Term → Bool
takes c unknown = false
takes c never = false
takes (symbols_case l h) (symbol a) = leb l a && leb a h
takes (symbols_case l h) (numbers a b) = false
takes (symbols_case l h) (compound b ts) = false
takes (compound_case a n) (symbol b) = false
takes (compound_case a n) (numbers b c) = false
takes (compound_case a n) (compound b ts) = eqb a b && eqb n (count ts)
takes (numbers_case l h) (symbol b) = false
takes (numbers_case l h) (numbers a b) = leb l a && leb b h
takes (numbers_case l h) (compound b ts) = false

-- "A case drops the rules that want something else", and one of numbers "keeps the rules whose range has a number that this case
-- takes, from its low to its high"; so does one of symbols with the rules whose series has an id that it takes.
abbrev pub is_wanted : Case → Want → Bool
is_wanted (symbols_case x y) (a_symbol l h) = leb l y && leb x h
is_wanted (symbols_case x y) (a_number l h) = false
is_wanted (symbols_case x y) (a_compound b n) = false
is_wanted (compound_case a n) (a_symbol l h) = false
is_wanted (compound_case a n) (a_number l h) = false
is_wanted (compound_case a n) (a_compound b m) = eqb a b && eqb n m
is_wanted (numbers_case x y) (a_symbol l h) = false
is_wanted (numbers_case x y) (a_number l h) = leb l y && leb x h
is_wanted (numbers_case x y) (a_compound b m) = false

-- The series of symbols that are wanted.
abbrev pub series_of : List Want → List Range
series_of [] = []
series_of (a_symbol l h ∷ ws) = record { low = l; high = h } ∷ series_of ws
series_of (a_number l h ∷ ws) = series_of ws
series_of (a_compound a n ∷ ws) = series_of ws

-- "A case for each .. compound that a live rule wants there", "compounds by id and arity".
pub record Functor : Type 0 where
  pub name : ℕ
  pub arity : ℕ

abbrev pub functor_before : Functor → Functor → Bool
functor_before f g = pair_before f.name f.arity g.name g.arity

abbrev pub functors_of : List Want → List Functor
functors_of [] = []
functors_of (a_symbol l h ∷ ws) = functors_of ws
functors_of (a_number l h ∷ ws) = functors_of ws
functors_of (a_compound a n ∷ ws) = insert_by functor_before (record { name = a; arity = n }) (functors_of ws)

-- The ranges of numbers that are wanted.
abbrev pub ranges_of : List Want → List Range
ranges_of [] = []
ranges_of (a_symbol l h ∷ ws) = ranges_of ws
ranges_of (a_number l h ∷ ws) = record { low = l; high = h } ∷ ranges_of ws
ranges_of (a_compound a n ∷ ws) = ranges_of ws

-- The case for a run of ids, for a compound, and for the numbers of a range.
abbrev pub symbols_in : Range → Case
symbols_in r = symbols_case r.low r.high

abbrev pub compound_of : Functor → Case
compound_of f = compound_case f.name f.arity

abbrev pub numbers_in : Range → Case
numbers_in r = numbers_case r.low r.high

-- "Record 46 becomes one case for each pair of first and last run, ordered so, with low and high their ends", on each gauge of
-- which a range is wanted.
abbrev pub number_cases : List Want → List Case
number_cases ws = map numbers_in (number_pairs (ranges_of ws))

-- The cases for what the live rules want at a place, in the order of the records.
abbrev pub cases_of : List Want → List Case
cases_of ws = map symbols_in (runs (series_of ws)) ++ map compound_of (functors_of ws) ++ number_cases ws
