-- The runs of a switch for the cuts of a sheet's rules: those between the codes of symbols and compounds that live rules want, then
-- all numbers of each gauge of which a live rule has a range.
use Prim.Native.Nat.{ℕ, suc, ◌^◌, ◌<◌, ◌≤◌}
use mathlib.Core.Path.{◌≡◌, refl, sym, ap, subst, ◌∙◌}
use mathlib.Core.Bool.{Bool, true, false, ◌&&◌}
use mathlib.Core.List.{List, [], ◌∷◌, ◌++◌, map}
use mathlib.Core.Logic.{◌⊎◌, inl, inr}
use mathlib.Core.Option.{some}
use native.Mathlib.Omega.{arith}
use lib.Dec.{T, leb}
use lib.ListN.{length}
use borrow.Author.Tests.{eqb-true, eqb-false}
use Rattle.basics.specs.Lists.{Mem, here, there, All}
use Rattle.basics.proofs.Booleans.{by_test}
use Rattle.basics.proofs.Filters.{mem_map, map_mem}
use Rattle.basics.proofs.ListLaws.{all_at, all_from, all_map, mem_join, mem_cases, mem_none}
use Rattle.basics.proofs.Numbers.{le_or_lt, both_le}
use Rattle.basics.proofs.Sorted.{AscendingBy}
use Rattle.masks.specs.Mask.{has}
use Rattle.masks.proofs.Extensionality.{has_mask_of}
use Rattle.masks.proofs.Membership.{has_pos}
use Rattle.terms.specs.Pattern.{Patterns}
use Rattle.terms.specs.RuleTests.{Want, a_symbol, a_number, a_compound, Range}
use Rattle.codes.specs.views.Codes.{number_code, want_high, SoundWant}
use Rattle.decision.specs.Cases.{ranges_of}
use Rattle.decision.specs.Edges.{live_wants}
use Rattle.decision.specs.Rules.{want_at}
use Rattle.decision.specs.Runs.{cuts as rangeCuts}
use Rattle.decision.proofs.cases.Intervals.{Contains}
use Rattle.decision.proofs.cases.RangeRuns as ranges
use Rattle.decision.proofs.cases.WantedRanges.{range_wanted, wanted_range}
use Rattle.decision.proofs.cases.OnGauges.{OneGauge}
use Rattle.decision.proofs.cases.GaugeRuns.{gauge_runs}
use Rattle.cuts.specs.views.Cuts.{Cut}
use Rattle.cuts.specs.views.FramedRuns.{framed_from, framed_runs}
use Rattle.cuts.specs.views.CutsOf.{cuts_to}
use Rattle.cuts.proofs.AscendingCuts.{cuts_ascend}
use Rattle.cuts.proofs.CodeRanges.{want_range}
use Rattle.cuts.proofs.Framing.{base, framed_codes, quiet, as_codes, framed_codes_lem, framed_parted}
use Rattle.cuts.proofs.GaugedRuns.{all_steady, gauged_are}
use Rattle.cuts.proofs.ListedWants.{listed_want, wants_sound}
use Rattle.cuts.proofs.NameCodes.{name_wants, Below, name_cuts_below, cuts_parted}
use Rattle.cuts.proofs.RunningSets.{set_runs, Follows, running_follows}
use Rattle.cuts.proofs.SwitchCases.{holds_at, wanters_at, running_wanted, none_want}
use Rattle.cuts.proofs.TurningCuts.{turning_is}

-- A range has the number, or none does.
some_has : (ws : List Range) (y : ℕ) → ((w : Range) × Mem w ws × Contains w y) ⊎ ((w : Range) → Mem w ws → Contains w y → ⊥)
some_has [] y = inr (λ w m k. mem_none m)
some_has (v ∷ ws) y =
    elim (some_has ws y) [
      | inl r ↦ inl (r.0, there r.1, r.2)
      | inr f ↦ elim (le_or_lt v.low y) [
        | inr p ↦ inr (λ w m k. elim (mem_cases m) [ inl e ↦ omega (arith, ap (λ (x : Range). x.low) e, k.0) | inr n ↦ f w n k ])
        | inl p ↦ elim (le_or_lt y v.high) [
          | inl q ↦ inl (v, here, (p, q))
          | inr q ↦ inr (λ w m k.
              elim (mem_cases m) [ inl e ↦ omega (arith, ap (λ (x : Range). x.high) e, k.1) | inr n ↦ f w n k ])
        ]
      ]
    ]

module _ (rules : List Patterns) (n live : ℕ) (fits : live < 2 ^ length rules)
    (sound : (i : ℕ) (w : Want) → want_at rules i n ≡ some w → SoundWant w) where
  abbrev cuts : List Cut
  cuts = cuts_to rules n (length rules)

  abbrev wants : List Want
  wants = live_wants rules live n

  pub all_sound : All SoundWant wants
  all_sound = wants_sound rules live n sound

  abbrev pub sets : ℕ → ℕ
  sets = wanters_at rules n live fits sound

  -- The codes at which what live rules want is cut: below the numbers, and in them.
  abbrev pub names : List ℕ
  names = rangeCuts (map want_range (name_wants wants))

  abbrev pub numbers : List ℕ
  numbers = map number_code (rangeCuts (ranges_of wants))

  -- Each wanted range is on one gauge.
  pub one_gauge : All OneGauge (ranges_of wants)
  one_gauge =
      all_from OneGauge (ranges_of wants)
      (λ r m. let s = all_at SoundWant (range_wanted wants r m) all_sound in (s.0, s.2))

  -- A number's code that live rules want is in a range,
  pub loud_number : (y : ℕ) → quiet live sets y ≡ false → (w : Range) × Mem w (ranges_of wants) × Contains w y
  loud_number y e =
      elim (some_has (ranges_of wants) y) [
        | inl r ↦ r
        | inr f ↦ absurd (eqb-false (sets (number_code y)) 0 e (none_want rules n live fits sound (number_code y) (want f)))
      ]
    where
      want : ((w : Range) → Mem w (ranges_of wants) → Contains w y → ⊥) → (w : Want) → Mem w wants
          → Contains (want_range w) (number_code y) → ⊥
      want f (a_symbol l h) m k = let s = all_at SoundWant m all_sound in omega (arith, s.1, k.1)
      want f (a_number l h) m k =
          f (record { low = l; high = h }) (wanted_range m) (omega (arith, k.0), omega (arith, k.1))
      want f (a_compound a j) m k = let s = all_at SoundWant m all_sound in omega (arith, s.0, s.1, k.1)

  -- and one that none wants is in no range.
  pub still_number : (y : ℕ) → quiet live sets y ≡ true → (w : Range) → Mem w (ranges_of wants) → Contains w y → ⊥
  still_number y e w m k =
      let i = listed_want rules live n (range_wanted wants w m) in
      let z = number_code y in
      let low = number_code w.low in
      let high = number_code w.high in
      let wanted : leb low z && leb z high ≡ true =
      by_test (leb low z && leb z high) (λ d. d)
      (λ d. absurd (subst T d ((both_le low z z high).1 (omega (arith, k.0), omega (arith, k.1))))) in
      let has-it : has (sets z) i.0 ≡ true =
      has_mask_of (length rules) (λ j. has live j && holds_at rules n live fits sound z (want_at rules j n)) i.0 i.1
      ∙ (λ j. i.2 j && holds_at rules n live fits sound z (i.3 j))
      ∙ wanted in
      omega (arith, has_pos (sets z) i.0 has-it, eqb-true (sets z) 0 e)

  abbrev pub quiet_number : ℕ → Bool
  quiet_number = quiet live sets

  -- Behind the codes of symbols and compounds, and before them, no live rule wants what is below the numbers.
  quiet_names : (y : ℕ) → y < base → All (λ (z : ℕ). z ≤ y) (0 ∷ names) → sets y ≡ 0
  quiet_names y below all = none_want rules n live fits sound y go
    where
      name : (w : Want) → Mem w wants → suc (want_high w) < base → Contains (want_range w) y → ⊥
      name w m h k =
          let cut = subst (λ (l : List ℕ). Mem (suc (want_high w)) l) (cuts_parted wants all_sound)
          (ranges.wanted_cut (mem_map want_range m) (suc (want_high w)) (inr refl)) in
          elim (mem_join names numbers cut) [
            | inl p ↦ (let b = all_at (λ (z : ℕ). z ≤ y) p all.1 in omega (arith, k.1))
            | inr p ↦ (let v = map_mem number_code (rangeCuts (ranges_of wants)) p in omega (arith, v.2))
          ]

      go : (w : Want) → Mem w wants → Contains (want_range w) y → ⊥
      go (a_symbol l h) m k = let s = all_at SoundWant m all_sound in name (a_symbol l h) m (omega (arith, s.1)) k
      go (a_number l h) m k = omega (arith, k.0)
      go (a_compound a j) m k = let s = all_at SoundWant m all_sound in name (a_compound a j) m (omega (arith, s.0, s.1)) k

  zero_free : (w : Want) → Mem w wants → Contains (want_range w) 0 → ⊥
  zero_free (a_symbol l h) m k = omega (arith, k.0)
  zero_free (a_number l h) m k = omega (arith, k.0)
  zero_free (a_compound a j) m k = omega (arith, k.0)

  pub none_first : sets 0 ≡ 0
  none_first = none_want rules n live fits sound 0 zero_free

  name_cuts_ascend : AscendingBy ◌<◌ (0 ∷ names)
  name_cuts_ascend = (
    all_map Below (λ (z : ℕ). 0 < z) (λ z h. h.0) names (name_cuts_below wants all_sound),
    ranges.cuts_ascend (map want_range (name_wants wants)),
  )

  name_cuts_low : All (λ (z : ℕ). z < base) (0 ∷ names)
  name_cuts_low = (omega arith, all_map Below (λ (z : ℕ). z < base) (λ z h. h.1) names (name_cuts_below wants all_sound))

  -- The runs below the numbers' codes, then those of the gauges that live rules have ranges on.
  pub framed_switch : framed_runs live cuts
      ≡ set_runs sets (0 ∷ names) ++ map (as_codes live sets) (gauge_runs (ranges_of wants))
  framed_switch =
      let inner = rangeCuts (ranges_of wants) in
      let follows : Follows live sets 0 cuts =
      running_follows live sets 0 cuts (cuts_ascend rules n (length rules))
      (λ x m. sym (running_wanted rules n live fits sound x.code)) in
      ap (λ (s : ℕ). framed_from base live 0 s cuts) (sym none_first)
      ∙ framed_codes_lem live sets 0 cuts (subst (λ (s : ℕ). Follows live sets s cuts) (sym none_first) follows)
      ∙ ap (framed_codes live sets 0) (turning_is rules n live fits sound ∙ cuts_parted wants all_sound)
      ∙ framed_parted live sets 0 names inner
      (all_steady (ranges_of wants) one_gauge quiet_number loud_number still_number) name_cuts_ascend name_cuts_low quiet_names
      ∙ ap (λ (l : List Range). set_runs sets (0 ∷ names) ++ map (as_codes live sets) l)
      (gauged_are (ranges_of wants) one_gauge quiet_number loud_number still_number)
