-- The cases of a switch (document 02, requests 4 and 7) are its runs of symbols and compounds, then, gauge by gauge, the pairs of
-- its runs of numbers, each with the union of the sets from its first run to its last.
use Prim.Native.Nat.{ℕ, suc, ◌+◌, ◌^◌, ◌<◌, ◌≤◌}
use mathlib.Core.Path.{◌≡◌, refl, sym, ap, ◌∙◌}
use mathlib.Core.Bool.{Bool, true, false, not, ◌&&◌, ◌||◌}
use mathlib.Core.List.{List, [], ◌∷◌, ◌++◌, map}
use mathlib.Core.Logic.{inl, inr}
use mathlib.Core.Option.{Option, some, none}
use native.Mathlib.Omega.{arith}
use lib.Bits.{bit_or}
use lib.Dec.{leb}
use lib.ListN.{length}
use lib.Seq.{take-append_seam, drop-append_seam}
use Rattle.basics.specs.Lists.{Mem, here, All, filter}
use Rattle.basics.proofs.Booleans.{same_truth, either_true, true_left, true_right}
use Rattle.basics.proofs.Filters.{map_join, all_mapped}
use Rattle.basics.proofs.ListLaws.{all-always, all_at, all_from}
use Rattle.basics.proofs.Numbers.{le_or_lt, both_le}
use Rattle.basics.proofs.Sorted.{AscendingBy}
use Rattle.masks.specs.Mask.{has, mask_of}
use Rattle.masks.proofs.Extensionality.{has_mask_of, mask_of_same, mask_of_lt}
use Rattle.masks.proofs.Operations.{union_is}
use Rattle.terms.specs.Term.{on_gauge}
use Rattle.terms.specs.Pattern.{Patterns}
use Rattle.terms.specs.RuleTests.{Want, a_symbol, a_number, a_compound, Range}
use Rattle.codes.specs.views.Codes.{number_code, SoundWant}
use Rattle.decision.specs.Cases.{ranges_of, numbers_in, number_cases, cases_of}
use Rattle.decision.specs.Edges.{live_wants}
use Rattle.decision.specs.Rules.{want_at}
use Rattle.decision.specs.Runs.{frame, from_to, run_pairs, is_on, gauges_of, runs_on, pairs_on, number_pairs}
use Rattle.decision.proofs.cases.CaseList.{name_cases}
use Rattle.decision.proofs.cases.FramedRuns.{frame_ascends}
use Rattle.decision.proofs.cases.RangeOrder.{Filled}
use Rattle.decision.proofs.cases.OnGauges as gauges
use Rattle.decision.proofs.cases.OnGauges.{gauges_ascend}
use Rattle.decision.proofs.cases.GaugeRuns.{of_each, of_each_lem, gauge_runs, run_on}
use Rattle.cuts.specs.views.Runs.{Run}
use Rattle.cuts.specs.views.FramedRuns.{framed_runs, is_name_run, name_runs}
use Rattle.cuts.specs.views.CaseRuns.{gauge_at, gauge_pairs, case_runs, switch_runs}
use Rattle.cuts.specs.views.CutsOf.{cuts_to, takes_for, case_run}
use Rattle.cuts.proofs.FramedCases.{runs_of_numbers, runs_of_names, runs_are_framed}
use Rattle.cuts.proofs.FramedNumbers.{number_run}
use Rattle.cuts.proofs.FramedSwitch.{one_gauge}
use Rattle.cuts.proofs.Framing.{base}
use Rattle.cuts.proofs.GaugePairs.{OtherFirst, RunOn, gauge_split}
use Rattle.cuts.proofs.Parts.{left_part, right_part}
use Rattle.cuts.proofs.SwitchCases.{map_same}
use Rattle.cuts.proofs.UnionPairs.{pairs_union, between_unbroken}

-- The runs of numbers.
abbrev pub number_runs : ℕ → List Run → List Run
number_runs from rs = filter (λ (r : Run). not (is_name_run from r)) rs

and_or : (x a b : Bool) → (x && a) || (x && b) ≡ x && (a || b)
and_or true a b = refl
and_or false a b = refl

-- A range meets two that adjoin where it meets one of them.
meets_joined : (l h a b c d : ℕ) → l ≤ h → a ≤ c → c ≡ suc b → c ≤ d
    → (leb l b && leb a h) || (leb l d && leb c h) ≡ leb l d && leb a h
meets_joined l h a b c d o p e f =
    let whole = both_le l d a h in
    let first = both_le l b a h in
    let last = both_le l d c h in
    same_truth ((leb l b && leb a h) || (leb l d && leb c h)) (leb l d && leb a h)
    (λ t.
    elim (either_true (leb l b && leb a h) (leb l d && leb c h) t) [
      | inl u ↦ (let k = first.0 u in whole.1 (omega (arith, k.0), k.1))
      | inr u ↦ (let k = last.0 u in whole.1 (k.0, omega (arith, k.1)))
    ])
    (λ t.
    let k = whole.0 t in
    elim (le_or_lt l b) [
      | inl u ↦ true_left (leb l b && leb a h) (leb l d && leb c h) (first.1 (u, k.1))
      | inr u ↦ true_right (leb l b && leb a h) (leb l d && leb c h) (last.1 (k.0, omega arith))
    ])

module _ (rules : List Patterns) (n live : ℕ) (fits : live < 2 ^ length rules)
    (sound : (i : ℕ) (w : Want) → want_at rules i n ≡ some w → SoundWant w) where
  abbrev wants : List Want
  wants = live_wants rules live n

  abbrev as_run : Range → Run
  as_run = number_run rules n live

  abbrev ranges : List Range
  ranges = ranges_of wants

  one : All gauges.OneGauge ranges
  one = one_gauge rules n live fits sound

  -- The live rules whose range has a number of two ranges that adjoin.
  sets_join : (q r s : Range) → q.low ≤ s.low → s.low ≡ suc r.high → Filled s
      → bit_or (as_run (from_to q r)).set (as_run s).set ≡ (as_run (from_to q s)).set
  sets_join q r s o e f =
      let met : Range → ℕ → Bool = λ x i. has live i && takes_for rules n (numbers_in x) (want_at rules i n) in
      let w = length rules in
      let first = mask_of w (met (from_to q r)) in
      let last = mask_of w (met s) in
      union_is w first last (mask_of_lt w (met (from_to q r))) (mask_of_lt w (met s))
      ∙ mask_of_same w (λ i. has first i || has last i) (met (from_to q s))
      (λ i l.
      (λ j. has_mask_of w (met (from_to q r)) i l j || has_mask_of w (met s) i l j)
      ∙ and_or (has live i) (takes_for rules n (numbers_in (from_to q r)) (want_at rules i n))
      (takes_for rules n (numbers_in s) (want_at rules i n))
      ∙ ap (λ (b : Bool). has live i && b) (go i (want_at rules i n) refl))
    where
      go : (i : ℕ) (x : Option Want) → want_at rules i n ≡ x
          → takes_for rules n (numbers_in (from_to q r)) x || takes_for rules n (numbers_in s) x
          ≡ takes_for rules n (numbers_in (from_to q s)) x
      go i none d = refl
      go i (some (a_symbol l h)) d = refl
      go i (some (a_compound a j)) d = refl
      go i (some (a_number l h)) d =
          meets_joined l h q.low r.high s.low s.high (sound i (a_number l h) d).0 o e f

  -- The pairs of the runs of each of some gauges that ascend, by running unions.
  gauges_paired : (gs : List ℕ) → AscendingBy ◌<◌ gs
      → map as_run (pairs_on gs ranges) ≡ gauge_pairs (map as_run (of_each (λ g. runs_on g ranges) gs))
  gauges_paired [] a = refl
  gauges_paired (g ∷ gs) a =
      let own = runs_on g ranges in
      let later = of_each (λ k. runs_on k ranges) gs in
      map_join as_run (run_pairs own) (pairs_on gs ranges)
      ∙ (λ i.
      sym
      (pairs_union number_code (λ r. (as_run r).set) sets_join own
      (between_unbroken (frame (on_gauge g 0) (on_gauge (suc g) 0) (filter (is_on g) ranges))
      (frame_ascends (on_gauge g 0) (on_gauge (suc g) 0) (filter (is_on g) ranges)))) i
      ++ gauges_paired gs a.1 i)
      ∙ sym
      (gauge_split (768 + g) (map as_run own) (map as_run later)
      (all_mapped (RunOn (768 + g)) as_run own
      (all_from (λ (r : Range). RunOn (768 + g) (as_run r)) own (λ r m. on_code g r (run_on ranges one g r m))))
      (other_first later (λ r m.
      let k = (of_each_lem (λ k. runs_on k ranges) gs r).0 m in
      let h = all_at (λ (z : ℕ). g < z) k.1 a.0 in
      let e = on_code k.0 r (run_on ranges one k.0 r k.2) in
      λ d. omega arith)))
      ∙ ap gauge_pairs (sym (map_join as_run own later))
    where
      on_code : (k : ℕ) (r : Range) → gauges.OnGauge k r → gauge_at (as_run r) ≡ 768 + k
      on_code k r on = omega (arith, on.0, on.1, on.2)

      other_first : (rs : List Range) → ((r : Range) → Mem r rs → gauge_at (as_run r) ≡ 768 + g → ⊥)
          → OtherFirst (768 + g) (map as_run rs)
      other_first [] f = tt
      other_first (r ∷ rs) f = f r here

  pub numbers_paired : map as_run (number_pairs ranges) ≡ gauge_pairs (map as_run (gauge_runs ranges))
  numbers_paired = gauges_paired (gauges_of ranges) (gauges_ascend ranges)

  abbrev runs : List Run
  runs = framed_runs live (cuts_to rules n (length rules))

  abbrev name_part : List Run
  name_part = map (case_run rules n live) (name_cases wants)

  abbrev number_part : List Run
  number_part = map as_run (gauge_runs ranges)

  -- The runs of symbols and compounds come first, then those of numbers.
  pub names_part : name_runs base runs ≡ name_part
  names_part =
      ap (name_runs base) (runs_are_framed rules n live fits sound)
      ∙ left_part (is_name_run base) name_part number_part (runs_of_names rules n live fits sound)
      (runs_of_numbers rules n live fits sound (gauge_runs ranges))

  pub numbers_part : number_runs base runs ≡ number_part
  numbers_part =
      ap (number_runs base) (runs_are_framed rules n live fits sound)
      ∙ right_part (is_name_run base) name_part number_part (runs_of_names rules n live fits sound)
      (runs_of_numbers rules n live fits sound (gauge_runs ranges))

  pub names_first : runs ≡ name_runs base runs ++ number_runs base runs
  names_first = runs_are_framed rules n live fits sound ∙ (λ i. sym names_part i ++ sym numbers_part i)

  -- "Record 46 becomes one case for each pair of first and last run, ordered so, with low and high their ends. It keeps the rules
  -- whose range has a number that this case takes, from its low to its high."
  pub switch_pairs : map (case_run rules n live) (cases_of wants) ≡ name_runs base runs ++ gauge_pairs (number_runs base runs)
  switch_pairs =
      let pairs = number_pairs ranges in
      map_join (case_run rules n live) (name_cases wants) (number_cases wants)
      ∙ ap (λ (l : List Run). name_part ++ l)
      (map_same numbers_in (case_run rules n live) as_run pairs
      (all-always (λ (r : Range). case_run rules n live (numbers_in r) ≡ as_run r) (λ r. refl) pairs)
      ∙ numbers_paired)
      ∙ (λ i. sym names_part i ++ gauge_pairs (sym numbers_part i))

  -- They are what the runs make, where those of symbols and compounds are cases by themselves.
  pub runs_make_pairs : map (case_run rules n live) (cases_of wants) ≡ switch_runs live (cuts_to rules n (length rules))
  runs_make_pairs =
      let names = name_runs base runs in
      let numbers = number_runs base runs in
      switch_pairs
      ∙ (λ i. sym (take-append_seam names numbers) i ++ gauge_pairs (sym (drop-append_seam names numbers) i))
      ∙ ap (case_runs (length names)) (sym names_first)
