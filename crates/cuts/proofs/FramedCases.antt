-- The runs of a switch (document 02, request 4): those of the symbols and compounds that a live rule wants, then those of numbers.
use Prim.Native.Nat.{ℕ, ◌^◌, ◌<◌}
use mathlib.Core.Path.{◌≡◌, refl, ◌∙◌}
use mathlib.Core.Bool.{true, false}
use mathlib.Core.List.{List, [], ◌∷◌, ◌++◌, map}
use mathlib.Core.Option.{some}
use native.Mathlib.Omega.{arith}
use lib.ListN.{length}
use borrow.Author.Tests.{eq-eqb, lt-ltb, le-ltb}
use Rattle.basics.specs.Lists.{All}
use Rattle.basics.proofs.Filters.{mapped_always, all_mapped}
use Rattle.basics.proofs.ListLaws.{all_at}
use Rattle.terms.specs.Pattern.{Patterns}
use Rattle.terms.specs.RuleTests.{Want, Range}
use Rattle.codes.specs.views.Codes.{symbol_code, compound_code, number_code, SoundWant}
use Rattle.decision.specs.Cases.{Case, ranges_of}
use Rattle.decision.specs.Edges.{live_wants}
use Rattle.decision.specs.Rules.{want_at}
use Rattle.decision.proofs.cases.CaseList.{name_cases, names_all}
use Rattle.decision.proofs.cases.IdRuns.{id_runs_inside}
use Rattle.decision.proofs.cases.GaugeRuns.{gauge_runs}
use Rattle.cuts.specs.views.Runs.{Run}
use Rattle.cuts.specs.views.FramedRuns.{framed_runs, is_name_run}
use Rattle.cuts.specs.views.CutsOf.{cuts_to, case_run}
use Rattle.cuts.proofs.FramedNumbers.{number_run, numbers_are_lem}
use Rattle.cuts.proofs.FramedSwitch.{all_sound, sets, names, none_first, framed_switch}
use Rattle.cuts.proofs.Framing.{base}
use Rattle.cuts.proofs.RunningSets.{set_runs}
use Rattle.cuts.proofs.SwitchCases.{names_are}

-- Where no rule wants the lowest code, no run begins there.
quiet_first : (sets : ℕ → ℕ) (zs : List ℕ) → sets 0 ≡ 0 → set_runs sets (0 ∷ zs) ≡ set_runs sets zs
quiet_first sets [] e = refl
quiet_first sets (z ∷ zs) e = rw (eq-eqb (sets 0) 0 e)

module _ (rules : List Patterns) (n live : ℕ) (fits : live < 2 ^ length rules)
    (sound : (i : ℕ) (w : Want) → want_at rules i n ≡ some w → SoundWant w) where
  abbrev wants : List Want
  wants = live_wants rules live n

  abbrev as_run : Range → Run
  as_run = number_run rules n live

  pub runs_of_numbers : (rs : List Range) → All (λ (r : Run). is_name_run base r ≡ false) (map as_run rs)
  runs_of_numbers rs =
      mapped_always (λ (r : Run). is_name_run base r ≡ false) as_run (λ r. le-ltb (number_code r.low) base (omega arith)) rs

  pub runs_of_names : All (λ (r : Run). is_name_run base r ≡ true) (map (case_run rules n live) (name_cases wants))
  runs_of_names =
      let known = all_sound rules n live fits sound in
      let Name : Run → Type 0 = λ r. is_name_run base r ≡ true in
      all_mapped Name (case_run rules n live) (name_cases wants)
      (names_all wants (λ (c : Case). Name (case_run rules n live c))
      (λ r m. let k = id_runs_inside wants known r m in lt-ltb (symbol_code r.low) base (omega (arith, k.1, k.2)))
      (λ a j m. let s = all_at SoundWant m known in lt-ltb (compound_code a j) base (omega (arith, s.0, s.1))))

  -- The runs are those of the cases for symbols and compounds, then those of the gauges that live rules have ranges on, each with
  -- the live rules that want something of it.
  pub runs_are_framed : framed_runs live (cuts_to rules n (length rules))
      ≡ map (case_run rules n live) (name_cases wants) ++ map as_run (gauge_runs (ranges_of wants))
  runs_are_framed =
      let first =
      quiet_first (sets rules n live fits sound) (names rules n live fits sound) (none_first rules n live fits sound)
      ∙ names_are rules n live fits sound in
      framed_switch rules n live fits sound ∙ (λ i. first i ++ numbers_are_lem rules n live fits sound i)
