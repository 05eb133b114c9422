-- The runs of numbers of a switch (document 02, requests 4 and 7), each with the live rules whose range meets it: "each gauge of
-- which a live rule has a range there is cut into runs by itself", "the empty set included".
use Prim.Native.Nat.{ℕ, ◌^◌, ◌<◌}
use mathlib.Core.Path.{◌≡◌, refl, ap}
use mathlib.Core.Bool.{Bool, true, false, ◌&&◌}
use mathlib.Core.List.{List, [], ◌∷◌, map}
use mathlib.Core.Option.{Option, some, none}
use native.Mathlib.Omega.{arith}
use lib.Dec.{leb}
use lib.ListN.{length}
use Rattle.basics.specs.Lists.{Mem, All}
use Rattle.basics.proofs.Booleans.{by_test, same_truth, is_true}
use Rattle.basics.proofs.ListLaws.{all_from}
use Rattle.basics.proofs.Numbers.{both_le}
use Rattle.masks.specs.Mask.{has}
use Rattle.masks.proofs.Extensionality.{mask_of_same}
use Rattle.terms.specs.Pattern.{Patterns}
use Rattle.terms.specs.RuleTests.{Want, a_symbol, a_number, a_compound, Range}
use Rattle.codes.specs.views.Codes.{number_code, want_low, want_high, SoundWant}
use Rattle.decision.specs.Cases.{is_wanted, ranges_of, numbers_in}
use Rattle.decision.specs.Edges.{live_wants}
use Rattle.decision.specs.Rules.{want_at}
use Rattle.decision.proofs.cases.Intervals.{Contains}
use Rattle.decision.proofs.cases.WantedRanges.{wanted_range}
use Rattle.decision.proofs.cases.GaugeRuns.{gauge_runs, gauge_run_on, gauge_run_meets}
use Rattle.decision.proofs.rules.LiveWants.{want_listed}
use Rattle.cuts.specs.views.Runs.{Run}
use Rattle.cuts.specs.views.CutsOf.{takes_for, case_run}
use Rattle.cuts.proofs.Framing.{as_codes}
use Rattle.cuts.proofs.FramedSwitch.{sets, one_gauge}
use Rattle.cuts.proofs.NameCodes.{code_range}
use Rattle.cuts.proofs.RunningSets.{run_of}
use Rattle.cuts.proofs.SwitchCases.{holds_at}

-- A run of numbers, with the live rules whose range has one of them.
abbrev pub number_run : List Patterns → ℕ → ℕ → Range → Run
number_run rules n live r = case_run rules n live (numbers_in r)

module _ (rules : List Patterns) (n live : ℕ) (fits : live < 2 ^ length rules)
    (sound : (i : ℕ) (w : Want) → want_at rules i n ≡ some w → SoundWant w) where
  abbrev wants : List Want
  wants = live_wants rules live n

  abbrev reached : ℕ → ℕ
  reached = sets rules n live fits sound

  abbrev as_run : Range → Run
  as_run = number_run rules n live

  -- The set of a run of numbers is that of the live rules whose range meets it.
  number_set : (r : Range) → Mem r (gauge_runs (ranges_of wants)) → run_of reached (code_range r) ≡ as_run r
  number_set r m =
      ap (λ (s : ℕ). record { low = number_code r.low; high = number_code r.high; set = s })
      (mask_of_same (length rules) (λ i. has live i && holds_at rules n live fits sound z (want_at rules i n))
      (λ i. has live i && takes_for rules n (numbers_in r) (want_at rules i n))
      (λ i l.
      by_test (has live i) (λ y. ap (λ (b : Bool). has live i && b) (go i l y (want_at rules i n) refl)) (λ y. rw y)))
    where
      z : ℕ
      z = number_code r.low

      apart : (w : Want) → (want_high w < z) → leb (want_low w) z && leb z (want_high w) ≡ false
      apart w h =
          same_truth (leb (want_low w) z && leb z (want_high w)) false
          (λ t. let k = (both_le (want_low w) z z (want_high w)).0 t in omega (arith, k.1)) (λ t. absurd t)

      go : (i : ℕ) → i < length rules → has live i ≡ true → (x : Option Want) → want_at rules i n ≡ x
          → holds_at rules n live fits sound z x ≡ takes_for rules n (numbers_in r) x
      go i l y none e = refl
      go i l y (some (a_symbol a b)) e = let s = sound i (a_symbol a b) e in apart (a_symbol a b) (omega (arith, s.1))
      go i l y (some (a_compound a j)) e = let s = sound i (a_compound a j) e in apart (a_compound a j) (omega (arith, s.0, s.1))
      go i l y (some (a_number a b)) e =
          let w : Range = record { low = a; high = b } in
          let listed = wanted_range (want_listed rules live n i (a_number a b) l (is_true y) e) in
          let own = one_gauge rules n live fits sound in
          let first : Contains r r.low = (omega arith, (gauge_run_on (ranges_of wants) own r m).0) in
          let met = gauge_run_meets (ranges_of wants) own r w r.low m listed first in
          let codes = both_le (number_code a) z z (number_code b) in
          same_truth (leb (number_code a) z && leb z (number_code b)) (is_wanted (numbers_in r) (a_number a b))
          (λ t. let k = codes.0 t in met.1 (omega (arith, k.0), omega (arith, k.1)))
          (λ t. let k = met.0 t in codes.1 (omega (arith, k.0), omega (arith, k.1)))

  -- The runs of the gauges that live rules have ranges on.
  pub numbers_are_lem : map (as_codes live reached) (gauge_runs (ranges_of wants)) ≡ map as_run (gauge_runs (ranges_of wants))
  numbers_are_lem =
      let runs = gauge_runs (ranges_of wants) in
      each_same (as_codes live reached) as_run runs
      (all_from (λ (r : Range). as_codes live reached r ≡ as_run r) runs number_set)
    where
      each_same : (f g : Range → Run) (rs : List Range) → All (λ (r : Range). f r ≡ g r) rs → map f rs ≡ map g rs
      each_same f g [] e = refl
      each_same f g (r ∷ rs) e = λ i. e.0 i ∷ each_same f g rs e.1 i
