-- The cases that the runs of a switch make (document 02, requests 4, 5 and 7): first those that are cases by themselves, as runs of
-- ids and compounds are, then of the others, gauge by gauge, "one case for each pair of first and last run, ordered so, with low
-- and high their ends". It has the rules of all runs from its first to its last.
use Rattle.std.specs.Prelude.{ℕ, ◌-◌, ◌/◌, ◌≤◌, ◌<◌, ◌≡◌, cond, List, [], ◌∷◌, ◌++◌, map, eqb, length, take, drop}
use Rattle.std.specs.Int.Bits.{bit_or}
use Rattle.basics.specs.Lists.{count_from}
use Rattle.cuts.specs.views.Cuts.{Cut}
use Rattle.cuts.specs.views.Runs.{Run, run_at}
use Rattle.cuts.specs.views.FramedRuns.{framed_runs, name_runs}

-- The pairs of a first run that begins at `low` with each run of a list, where `union` is the union of the sets before them.
abbrev pub union_row : ℕ → ℕ → List Run → List Run
union_row low union [] = []
union_row low union (s ∷ rest) =
    let more = bit_or union s.set in record { low = low; high = s.high; set = more } ∷ union_row low more rest

-- For each first run in order each last run from it on.
abbrev pub union_pairs : List Run → List Run
union_pairs [] = []
union_pairs (r ∷ rs) = union_row r.low 0 (r ∷ rs) ++ union_pairs rs

-- The gauge that a run of numbers is on, counted from 0x300, and the runs on a gauge that a list begins with.
abbrev pub gauge_at : Run → ℕ
gauge_at r = r.low / 0x1_0000

abbrev pub first_on : ℕ → List Run → List Run
first_on g [] = []
first_on g (r ∷ rs) = cond (eqb (gauge_at r) g) (r ∷ first_on g rs) []

-- For each first run in order each last run from it on that is on its gauge.
abbrev pub gauge_pairs : List Run → List Run
gauge_pairs [] = []
gauge_pairs (r ∷ rs) = union_row r.low 0 (first_on (gauge_at r) (r ∷ rs)) ++ gauge_pairs rs

-- The cases of runs of which the first so many are cases by themselves.
abbrev pub case_runs : ℕ → List Run → List Run
case_runs names rs = take names rs ++ gauge_pairs (drop names rs)

-- The cases of the switch with these cuts, where these rules are live: runs below the numbers are cases by themselves.
abbrev pub switch_runs : ℕ → List Cut → List Run
switch_runs live cuts = let rs = framed_runs live cuts in case_runs (length (name_runs 0x300_0000 rs)) rs

-- The runs in an array from the k-th on, of so many, and the pairs with the k-th as first.
abbrev pub runs_from : List ℕ → ℕ → ℕ → List Run
runs_from runs count k = map (run_at runs) (count_from k (count - k))

abbrev pub pairs_row : List ℕ → ℕ → ℕ → List Run
pairs_row runs count k = union_row (run_at runs k).low 0 (runs_from runs count k)

-- Of so many runs in an array, those from the k-th up to the end are on one gauge, and the next one, if any, is on another.
pub record GaugeUpTo (runs : List ℕ) (count k end : ℕ) : Type 0 where
  pub some : k < end
  pub within : end ≤ count
  pub same : (i : ℕ) → k ≤ i → i < end → gauge_at (run_at runs i) ≡ gauge_at (run_at runs k)
  pub other : end < count → gauge_at (run_at runs end) ≡ gauge_at (run_at runs k) → ⊥
