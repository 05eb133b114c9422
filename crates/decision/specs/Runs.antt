-- The runs that series cut ids into (document 02, request 5) and ranges the numbers of a gauge (request 7), and the pairs of a
-- first and a last run (request 4).
use Rattle.std.specs.Prelude.{ℕ, suc, pred, Bool, ◌&&◌, List, [], ◌∷◌, ◌++◌, map, leb, ltb, eqb}
use Rattle.basics.specs.Lists.{filter, any_of}
use Rattle.basics.specs.Order.{insert_by}
use Rattle.terms.specs.Term.{on_gauge, gauge_of}
use Rattle.terms.specs.RuleTests.{Range}

-- Ids and numbers are cut at each low and after each high: from one cut to the next the same ranges accept, and at each cut another
-- set does.
abbrev pub cuts : List Range → List ℕ
cuts [] = []
cuts (w ∷ ws) = insert_by ltb w.low (insert_by ltb (suc w.high) (cuts ws))

-- What lies from each cut to the one before the next.
abbrev pub between : List ℕ → List Range
between [] = []
between (x ∷ []) = []
between (x ∷ (y ∷ ys)) = record { low = x; high = pred y } ∷ between (y ∷ ys)

-- The range w accepts all of r, or some range of the list does.
abbrev pub covers : Range → Range → Bool
covers w r = leb w.low r.low && leb r.high w.high

abbrev pub is_covered : List Range → Range → Bool
is_covered ws r = any_of (λ (w : Range). covers w r) ws

-- "A run of ids, cut .. as numbers were in document 01": "one for each maximal run .. accepted by the same non-empty set of those
-- rules".
abbrev pub runs : List Range → List Range
runs ws = filter (is_covered ws) (between (cuts ws))

-- "All numbers are cut into maximal runs accepted by the same set of live rules tested there, the empty set included": the lowest
-- number is a cut too, and so is the one after the highest.
abbrev pub frame : ℕ → ℕ → List Range → List ℕ
frame base top ws = insert_by ltb base (insert_by ltb top (cuts ws))

abbrev pub framed : ℕ → ℕ → List Range → List Range
framed base top ws = between (frame base top ws)

-- "One case for each pair of first and last run, ordered so, with low and high their ends."
abbrev pub from_to : Range → Range → Range
from_to r s = record { low = r.low; high = s.high }

abbrev pub run_pairs : List Range → List Range
run_pairs [] = []
run_pairs (r ∷ rs) = map (from_to r) (r ∷ rs) ++ run_pairs rs

-- The gauges of ranges, each once, ascending. A range is on the gauge of its low.
abbrev pub gauges_of : List Range → List ℕ
gauges_of [] = []
gauges_of (w ∷ ws) = insert_by ltb (gauge_of w.low) (gauges_of ws)

abbrev pub is_on : ℕ → Range → Bool
is_on g w = eqb (gauge_of w.low) g

-- A gauge "is cut into runs by itself": its numbers, by the ranges on it. The next gauge's first number is the one after its
-- highest.
abbrev pub runs_on : ℕ → List Range → List Range
runs_on g ws = framed (on_gauge g 0) (on_gauge (suc g) 0) (filter (is_on g) ws)

-- The pairs of first and last run of each of some gauges, "ordered by gauge first".
abbrev pub pairs_on : List ℕ → List Range → List Range
pairs_on [] ws = []
pairs_on (g ∷ gs) ws = run_pairs (runs_on g ws) ++ pairs_on gs ws

-- "At a switch, each gauge of which a live rule has a range there is cut into runs by itself, and no other gauge has a case."
abbrev pub number_pairs : List Range → List Range
number_pairs ws = pairs_on (gauges_of ws) ws
