-- The cases of a switch, where live rules want something there, are such as the check of a graph accepts: "In question 24 number
-- cases ascend by low, then high, and may overlap", no id is in two; low is at most high, fields hold them, there is one case or
-- more, and the count, which "becomes wide", holds their number (document 02, requests 4, 5 and 7).
use Prim.Native.Nat.{ℕ, suc, ◌+◌, ◌*◌, ◌≤◌}
use mathlib.Core.Path.{refl}
use mathlib.Core.List.{List, [], ◌∷◌}
use native.Mathlib.Nat.{add-mul, mul-le-mul}
use native.Mathlib.Omega.{arith}
use lib.ListN.{length, length-append, length-map}
use Rattle.basics.specs.Lists.{Mem, here, All}
use Rattle.basics.proofs.ListLaws.{all_join, all_at, all_from}
use Rattle.basics.proofs.Filters.{mem_length, mem_right, mem_map, all_mapped, mapped_always}
use Rattle.basics.proofs.Ascent.{ascending_map, ascending_join}
use Rattle.basics.proofs.Sorted.{AscendingBy}
use Rattle.terms.specs.Term.{Gauged, gauge_of}
use Rattle.terms.specs.RuleTests.{Want, a_symbol, a_number, a_compound, Range}
use Rattle.codes.specs.views.Codes.{SoundWant}
use Rattle.decision.specs.Runs.{from_to, number_pairs}
use Rattle.decision.specs.Cases.{Case, compound_case, series_of, symbols_in, functors_of, compound_of, ranges_of, numbers_in}
use Rattle.decision.specs.Cases.{number_cases, cases_of}
use Rattle.decision.specs.Node.{CaseEdge}
use Rattle.decision.specs.GraphBytes.{most_cases}
use Rattle.decision.specs.AcceptedGraph.{CaseBefore, LowAtMostHigh, Ascend, CaseFields}
use Rattle.decision.proofs.cases.Insertion.{functor_inserted}
use Rattle.decision.proofs.cases.RangeRuns.{runs_length, in_run}
use Rattle.decision.proofs.cases.IdRuns.{id_runs_inside}
use Rattle.decision.proofs.cases.WantedRanges.{wanted_series, range_wanted, wanted_range}
use Rattle.decision.proofs.cases.CaseList.{id_runs, id_cases, compound_cases, name_cases, names_all}
use Rattle.decision.proofs.cases.CaseList.{symbols_listed, compound_listed, names_ascend}
use Rattle.decision.proofs.cases.SwitchEdges.{edges_to, edges_ascend}
use Rattle.decision.proofs.cases.OnGauges.{OneGauge, gauge_listed}
use Rattle.decision.proofs.cases.NumberPairs.{number_pairs_most, number_pairs_ascend, number_pair_on, on_theirs}
use Rattle.decision.proofs.cases.NumberPairs.{theirs_narrowest}
use Rattle.decision.proofs.cases.CasesLaws.{wants_gauged}

module _ (ws : List Want) (sound : All SoundWant ws) where
  abbrev pairs : List Range
  pairs = number_pairs (ranges_of ws)

  -- The cases ascend.
  pub cases_ascend_lem : AscendingBy CaseBefore (cases_of ws)
  cases_ascend_lem =
      ascending_join CaseBefore (name_cases ws) (number_cases ws) (names_ascend ws)
      (ascending_map CaseBefore numbers_in pairs (number_pairs_ascend (ranges_of ws) (wants_gauged ws sound)))
      (names_all ws (λ (c : Case). All (CaseBefore c) (number_cases ws))
      (λ r m. mapped_always (CaseBefore (symbols_in r)) numbers_in (λ x. tt) pairs)
      (λ a n m. mapped_always (CaseBefore (compound_case a n)) numbers_in (λ x. tt) pairs))

  -- Each number case is of one gauge, its low at most its high, and of which a byte holds the gauge.
  abbrev Fields : Range → Type 0
  Fields x = OneGauge x × Gauged x.high

  pair_fields : (x : Range) → Mem x pairs → Fields x
  pair_fields x m =
      let k = number_pair_on (ranges_of ws) (wants_gauged ws sound) x m in
      let w = k.1 in
      let s = all_at SoundWant (range_wanted ws w.0 w.1) sound in
      (k.0, omega (arith, s.0, s.1, w.2, k.0.1))

  numbers_all : (Q : Case → Type 0) → ((x : Range) → Fields x → Q (numbers_in x)) → All Q (number_cases ws)
  numbers_all Q f =
      all_mapped Q numbers_in pairs (all_from (λ (x : Range). Q (numbers_in x)) pairs (λ x m. f x (pair_fields x m)))

  -- Each low is at most its high,
  pub cases_ordered : All LowAtMostHigh (cases_of ws)
  cases_ordered =
      all_join LowAtMostHigh (name_cases ws) (number_cases ws)
      (names_all ws LowAtMostHigh (λ r m. (id_runs_inside ws sound r m).1) (λ a n m. tt))
      (numbers_all LowAtMostHigh (λ x k. k.0.0))

  -- and the fields of each case hold it.
  pub cases_fields : All CaseFields (cases_of ws)
  cases_fields =
      all_join CaseFields (name_cases ws) (number_cases ws)
      (names_all ws CaseFields (λ r m. let k = id_runs_inside ws sound r m in (omega (arith, k.1, k.2), k.2))
      (λ a n m. let s = all_at SoundWant m sound in (s.0, omega (arith, s.1))))
      (numbers_all CaseFields (λ x k. (omega (arith, k.0.0, k.1), k.1, k.0.1)))

  -- A want has a case.
  want_case : (w : Want) → Mem w ws → (c : Case) × Mem c (cases_of ws)
  want_case (a_symbol l h) m =
      let s = all_at SoundWant m sound in
      let r = in_run (series_of ws) (record { low = l; high = h }) l (wanted_series m) (omega arith, s.0) in
      (symbols_in r.0, symbols_listed ws r.0 r.1)
  want_case (a_number l h) m =
      let rs = ranges_of ws in
      let one = wants_gauged ws sound in
      let k = on_theirs rs one l l (omega arith) refl in
      let listed = (gauge_listed rs (gauge_of l)).1 (record { low = l; high = h }, wanted_range m, refl) in
      let narrow = theirs_narrowest rs one l l (omega arith) refl k listed in
      (numbers_in (from_to k.first k.last), mem_right (name_cases ws) (mem_map numbers_in narrow.listed))
  want_case (a_compound a n) m = (compound_case a n, compound_listed ws a n m)

-- There is a case where something is wanted.
pub cases_some : (ws : List Want) → All SoundWant ws → 1 ≤ length ws → 1 ≤ length (cases_of ws)
cases_some [] sound h = omega arith
cases_some (w ∷ ws) sound h = mem_length (want_case (w ∷ ws) sound w here).1

-- Each want adds at most a series, a compound or a range.
parts_length : (ws : List Want) → length (series_of ws) + length (functors_of ws) + length (ranges_of ws) ≤ length ws
parts_length [] = omega arith
parts_length (a_symbol l h ∷ ws) = omega (arith, parts_length ws)
parts_length (a_number l h ∷ ws) = omega (arith, parts_length ws)
parts_length (a_compound a n ∷ ws) =
    omega (arith, (functor_inserted (record { name = a; arity = n }) (functors_of ws)).longer, parts_length ws)

-- One range more adds more pairs than one name more adds cases, which are two for a series.
pairs_outnumber : (n k : ℕ) → 1 ≤ n → n * suc n + k * 2 ≤ (n + k) * suc (n + k)
pairs_outnumber n k some =
    let room : (n + k) * suc n ≤ (n + k) * suc (n + k) =
    mul-le-mul {n₁ = n + k} {m₁ = suc n} {n₂ = n + k} {m₂ = suc (n + k)} (omega arith) (omega arith) in
    let own : k * 2 ≤ k * suc n = mul-le-mul {n₁ = k} {m₁ = 2} {n₂ = k} {m₂ = suc n} (omega arith) (omega arith) in
    omega (arith, add-mul n k (suc n))

-- There are at most (2 n + 1) (n + 1) cases for n wants.
pub cases_few
    : (ws : List Want) (n : ℕ) → length ws ≤ n → length (cases_of ws) * 2 ≤ suc (2 * n) * suc (suc (2 * n))
cases_few ws n few =
    let names = length (series_of ws) + length (functors_of ws) in
    let ranges = length (ranges_of ws) in
    let joined = length-append (name_cases ws) (number_cases ws) in
    let both = length-append (id_cases ws) (compound_cases ws) in
    let symbols = length-map (id_runs ws) symbols_in in
    let compounds = length-map (functors_of ws) compound_of in
    let numbers = length-map (number_pairs (ranges_of ws)) numbers_in in
    let most-pairs = number_pairs_most (ranges_of ws) ranges (omega arith) in
    let more = pairs_outnumber (suc (2 * ranges)) (2 * names) (omega arith) in
    let most : (suc (2 * ranges) + 2 * names) * suc (suc (2 * ranges) + 2 * names) ≤ suc (2 * n) * suc (suc (2 * n)) =
    mul-le-mul {n₁ = suc (2 * ranges) + 2 * names} {m₁ = suc (suc (2 * ranges) + 2 * names)} {n₂ = suc (2 * n)}
    {m₂ = suc (suc (2 * n))} (omega (arith, parts_length ws)) (omega (arith, parts_length ws)) in
    omega (arith, runs_length (series_of ws))

-- For 64 rules these are 8,385.
pub cases_of_64 : (ws : List Want) → length ws ≤ 64 → length (cases_of ws) ≤ 8385
cases_of_64 ws h = omega (arith, cases_few ws 64 h)

-- What the check of a graph asks of the cases of a switch, whatever they lead to.
pub record AcceptedCases (cs : List (CaseEdge ℕ)) : Type 0 where
  pub some_case : 1 ≤ length cs
  pub few_cases : length cs ≤ most_cases
  pub fields : All (λ (c : CaseEdge ℕ). CaseFields c.case) cs
  pub ordered : All (λ (c : CaseEdge ℕ). LowAtMostHigh c.case) cs
  pub ascend : Ascend cs

-- The edges of a switch's cases are accepted, where at most 64 live rules want something there.
pub cases_accepted
    : (f : Case → ℕ) (ws : List Want) → All SoundWant ws → 1 ≤ length ws → length ws ≤ 64
    → AcceptedCases (edges_to f (cases_of ws))
cases_accepted f ws sound someWant fewWants =
    let edge : Case → CaseEdge ℕ = λ c. record { case = c; target = f c } in
    let count = length-map (cases_of ws) edge in
    record {
      some_case = omega (arith, cases_some ws sound someWant);
      few_cases = omega (arith, cases_of_64 ws fewWants);
      fields = all_mapped (λ (c : CaseEdge ℕ). CaseFields c.case) edge (cases_of ws) (cases_fields ws sound);
      ordered = all_mapped (λ (c : CaseEdge ℕ). LowAtMostHigh c.case) edge (cases_of ws) (cases_ordered ws sound);
      ascend = edges_ascend f (cases_of ws) (cases_ascend_lem ws sound);
    }
