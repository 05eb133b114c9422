-- The cases of a switch: those of names, of runs of ids and then of compounds, and behind them those of numbers.
use Prim.Native.Nat.{ℕ}
use mathlib.Core.List.{List, ◌++◌, map}
use Rattle.basics.specs.Lists.{Mem, All}
use Rattle.basics.proofs.ListLaws.{all_join, all_at, all_from}
use Rattle.basics.proofs.Filters.{mem_left, mem_right, mem_map, all_mapped, mapped_always}
use Rattle.basics.proofs.Ascent.{ascending_map, ascending_join}
use Rattle.basics.proofs.Sorted.{AscendingBy}
use Rattle.terms.specs.RuleTests.{Want, a_compound, Range}
use Rattle.decision.specs.Runs.{runs, number_pairs}
use Rattle.decision.specs.Cases.{Case, symbols_case, compound_case, numbers_case, series_of, symbols_in, Functor, functors_of}
use Rattle.decision.specs.Cases.{compound_of, ranges_of, numbers_in, number_cases, cases_of}
use Rattle.decision.specs.AcceptedGraph.{CaseBefore}
use Rattle.decision.proofs.cases.Insertion.{wanted_functor, functor_wanted, functors_ascend}
use Rattle.decision.proofs.cases.RangeRuns.{runs_ascend}

module _ (ws : List Want) where
  -- The runs that the wanted series cut ids into, and their cases.
  abbrev pub id_runs : List Range
  id_runs = runs (series_of ws)

  abbrev pub id_cases : List Case
  id_cases = map symbols_in id_runs

  abbrev pub compound_cases : List Case
  compound_cases = map compound_of (functors_of ws)

  -- The cases of names: what holds of each run's and each compound's holds of each of them.
  abbrev pub name_cases : List Case
  name_cases = id_cases ++ compound_cases

  pub names_all
      : (Q : Case → Type 0) → ((r : Range) → Mem r id_runs → Q (symbols_in r))
      → ((a n : ℕ) → Mem (a_compound a n) ws → Q (compound_case a n)) → All Q name_cases
  names_all Q symbols compounds =
      all_join Q id_cases compound_cases
      (all_mapped Q symbols_in id_runs (all_from (λ (r : Range). Q (symbols_in r)) id_runs symbols))
      (all_mapped Q compound_of (functors_of ws)
      (all_from (λ (f : Functor). Q (compound_of f)) (functors_of ws)
      (λ f m. compounds f.name f.arity (functor_wanted ws f m))))

  -- A run of ids has a case,
  pub symbols_named : (r : Range) → Mem r id_runs → Mem (symbols_in r) name_cases
  symbols_named r m = mem_left compound_cases (mem_map symbols_in m)

  pub symbols_listed : (r : Range) → Mem r id_runs → Mem (symbols_in r) (cases_of ws)
  symbols_listed r m = mem_left (number_cases ws) (symbols_named r m)

  -- so has a wanted compound,
  pub compound_named : (a n : ℕ) → Mem (a_compound a n) ws → Mem (compound_case a n) name_cases
  compound_named a n m = mem_right id_cases (mem_map compound_of (wanted_functor m))

  pub compound_listed : (a n : ℕ) → Mem (a_compound a n) ws → Mem (compound_case a n) (cases_of ws)
  compound_listed a n m = mem_left (number_cases ws) (compound_named a n m)

  -- and the cases of names ascend.
  pub names_ascend : AscendingBy CaseBefore name_cases
  names_ascend =
      ascending_join CaseBefore id_cases compound_cases
      (ascending_map CaseBefore symbols_in id_runs (runs_ascend (series_of ws)))
      (ascending_map CaseBefore compound_of (functors_of ws) (functors_ascend ws))
      (mapped_always (λ (c : Case). All (CaseBefore c) compound_cases) symbols_in
      (λ r. mapped_always (CaseBefore (symbols_in r)) compound_of (λ f. tt) (functors_of ws)) id_runs)

  -- A case of symbols is of a run of ids, and one of a compound of a wanted one; the others are of pairs.
  abbrev pub Listed : Case → Type 0
  Listed (symbols_case x y) = Mem (record { low = x; high = y }) id_runs
  Listed (compound_case a n) = Mem (a_compound a n) ws
  Listed (numbers_case x y) = Mem (record { low = x; high = y }) (number_pairs (ranges_of ws))

  pub listed : (c : Case) → Mem c (cases_of ws) → Listed c
  listed c m =
      let pairs = number_pairs (ranges_of ws) in
      all_at Listed m (all_join Listed name_cases (number_cases ws) (names_all Listed (λ r k. k) (λ a n k. k))
      (all_mapped Listed numbers_in pairs (all_from (λ (x : Range). Listed (numbers_in x)) pairs (λ x k. k))))
