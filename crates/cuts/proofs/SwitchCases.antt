-- Which live rules want what is between the cuts of a switch: the runs of symbols and compounds are their cases, in this order.
use Prim.Native.Nat.{ℕ, suc, ◌^◌, ◌<◌, ◌≤◌}
use mathlib.Core.Path.{◌≡◌, refl, sym, ap, subst, ◌∙◌}
use mathlib.Core.Bool.{Bool, true, false, not, ◌&&◌, cond}
use mathlib.Core.List.{List, [], ◌∷◌, map}
use mathlib.Core.Logic.{◌↔◌, by_cases}
use mathlib.Core.Option.{Option, some, none}
use native.Mathlib.Decide.{dec_lt}
use native.Mathlib.Omega.{arith}
use lib.Dec.{T, eqb, leb}
use lib.ListN.{length}
use lib.Pow.{pow_pos}
use borrow.Author.Tests.{eq-eqb, ne_eqb, le-leb, lt-leb, lt-ltb}
use Rattle.basics.specs.Lists.{Mem, All, filter}
use Rattle.basics.proofs.Booleans.{by_test, same_truth, is_true, true_is}
use Rattle.basics.proofs.Filters.{mem_map, all_mapped, any_mem, mem_any}
use Rattle.basics.proofs.ListLaws.{all_at, all_from, all_map}
use Rattle.basics.proofs.Numbers.{both_le}
use Rattle.masks.specs.Mask.{has}
use Rattle.masks.proofs.Extensionality.{has_mask_of, mask_of_same, mask_of_unique, mask_of_lt, empty_ext}
use Rattle.masks.proofs.Membership.{has_empty, has_pos}
use Rattle.terms.specs.Pattern.{Patterns}
use Rattle.terms.specs.RuleTests.{Want, a_symbol, a_number, a_compound, Range}
use Rattle.decision.specs.Rules.{want_at, rules_where}
use Rattle.decision.specs.Runs.{cuts as rangeCuts, between, covers, is_covered, runs}
use Rattle.decision.specs.Cases.{Case}
use Rattle.decision.specs.Edges.{live_wants}
use Rattle.decision.proofs.cases.CaseList.{name_cases}
use Rattle.decision.proofs.cases.Intervals.{Contains, Between, between_cuts}
use Rattle.decision.proofs.cases.RangeRuns as ranges
use Rattle.decision.proofs.cases.RangeRuns.{meets, covers_contains, meets_contains, run_between}
use Rattle.decision.proofs.rules.LiveWants.{want_listed}
use Rattle.codes.specs.views.Codes.{number_code, want_low, want_high, SoundWant}
use Rattle.decision.specs.views.CaseCodes.{case_low, case_high}
use Rattle.cuts.specs.views.Cuts.{Cut}
use Rattle.cuts.specs.views.CutsOf.{cuts_to, takes_for, case_run}
use Rattle.cuts.proofs.CodeRanges.{want_range, case_range, NameFields, names_fields, name_below, wanted_meets}
use Rattle.cuts.proofs.CodeRuns.{names_in_runs, names_are_runs}
use Rattle.cuts.proofs.Parity.{apart, parity, turns_by, cuts_parity}
use Rattle.cuts.proofs.NameCodes.{name_wants, name_wants_all, symbol_name, compound_name, Below, name_cuts_below}
use Rattle.cuts.proofs.RunningSets.{run_of, set_runs, running_to, running_has, running_fits}
use Rattle.cuts.proofs.ListedWants.{listed_want, wants_sound}
use Rattle.cuts.proofs.TurningCuts.{want_order}

-- A code has been turned at by the low and not by the high: it is between.
apart_between : (l h c : ℕ) → l ≤ h → apart (leb (suc h) c) (leb l c) ≡ leb l c && leb c h
apart_between l h c o =
    by_cases (dec_lt c l) (λ (d : c < l). rw (lt-leb l c d, lt-leb (suc h) c (omega arith)))
    (λ (d : ¬ (c < l)).
    by_cases (dec_lt h c)
    (λ (e : h < c). rw (le-leb l c (omega arith), le-leb (suc h) c (omega arith), lt-leb c h e))
    (λ (e : ¬ (h < c)). rw (le-leb l c (omega arith), lt-leb (suc h) c (omega arith), le-leb c h (omega arith))))

-- Tests that agree on the things of a list leave the same of them, and so with what they are mapped to.
filter_same : {A : Type 0} (p q : A → Bool) (xs : List A) → All (λ (x : A). p x ≡ q x) xs → filter p xs ≡ filter q xs
filter_same p q [] h = refl
filter_same p q (x ∷ xs) h = λ i. cond (h.0 i) (x ∷ filter_same p q xs h.1 i) (filter_same p q xs h.1 i)

pub map_same
    : {A B C : Type 0} (f : A → B) (g : B → C) (h : A → C) (xs : List A) → All (λ (x : A). g (f x) ≡ h x) xs
    → map g (map f xs) ≡ map h xs
map_same f g h [] e = refl
map_same f g h (x ∷ xs) e = λ i. e.0 i ∷ map_same f g h xs e.1 i

module _ (rules : List Patterns) (n live : ℕ) (fits : live < 2 ^ length rules)
    (sound : (i : ℕ) (w : Want) → want_at rules i n ≡ some w → SoundWant w) where
  abbrev cuts : List Cut
  cuts = cuts_to rules n (length rules)

  abbrev wants : List Want
  wants = live_wants rules live n

  -- A code is one that is wanted.
  abbrev pub holds_at : ℕ → Option Want → Bool
  holds_at z none = false
  holds_at z (some w) = leb (want_low w) z && leb z (want_high w)

  -- The live rules that want a code.
  abbrev pub wanters_at : ℕ → ℕ
  wanters_at z = rules_where rules (λ i. has live i && holds_at z (want_at rules i n))

  -- They are what the pass over the cuts reaches there.
  pub running_wanted : (z : ℕ) → running_to live 0 cuts z ≡ wanters_at z
  running_wanted z =
      mask_of_unique (length rules) (running_to live 0 cuts z) (λ i. has live i && holds_at z (want_at rules i n))
      (running_fits live (length rules) 0 cuts z fits (pow_pos (length rules)))
      (λ i l.
      running_has live 0 cuts z i
      ∙ ap (λ (b : Bool). apart b (parity (λ c. leb c z) i cuts && has live i)) (has_empty i)
      ∙ ap (λ (b : Bool). b && has live i) (cuts_parity (λ c. leb c z) i rules n (length rules))
      ∙ ap (λ (b : Bool). (b && turns_by (λ c. leb c z) i (want_at rules i n)) && has live i) (lt-ltb i (length rules) l)
      ∙ ap (λ (b : Bool). b && has live i) (go i (want_at rules i n) refl)
      ∙ swap (holds_at z (want_at rules i n)) (has live i))
    where
      swap : (a b : Bool) → a && b ≡ b && a
      swap true true = refl
      swap true false = refl
      swap false true = refl
      swap false false = refl

      go : (i : ℕ) (x : Option Want) → want_at rules i n ≡ x → turns_by (λ c. leb c z) i x ≡ holds_at z x
      go i none e = refl
      go i (some w) e = apart_between (want_low w) (want_high w) z (want_order w (sound i w e))

  -- There are none where the code is in nothing that they want.
  pub none_want : (z : ℕ) → ((w : Want) → Mem w wants → Contains (want_range w) z → ⊥) → wanters_at z ≡ 0
  none_want z h =
      empty_ext (length rules) (wanters_at z) (mask_of_lt (length rules) wanting)
      (λ i l. has_mask_of (length rules) wanting i l ∙ none_here i l)
    where
      wanting : ℕ → Bool
      wanting i = has live i && holds_at z (want_at rules i n)

      none_here : (i : ℕ) → i < length rules → wanting i ≡ false
      none_here i l =
          by_test (has live i) (λ y. ap (λ (a : Bool). a && holds_at z (want_at rules i n)) y ∙ go (want_at rules i n) refl y)
          (λ y. ap (λ (a : Bool). a && holds_at z (want_at rules i n)) y)
        where
          go : (x : Option Want) → want_at rules i n ≡ x → has live i ≡ true → holds_at z x ≡ false
          go none e y = refl
          go (some w) e y =
              by_test (holds_at z (some w))
              (λ d.
              absurd
              (h w (want_listed rules live n i w l (is_true y) e)
              ((both_le (want_low w) z z (want_high w)).0 (is_true d))))
              (λ d. d)

  -- The symbols and compounds that are wanted, as ranges of codes.
  abbrev names : List Range
  names = map want_range (name_wants wants)

  module _ (r : Range) (b : Between (rangeCuts names) r) where
    -- A run that is covered has its first code wanted,
    covered_want : T (is_covered names r) → (w : Want) × Mem w wants × Contains (want_range w) r.low
    covered_want h =
        let Wanted : Range → Type 0 = λ s. Contains s r.low → (w : Want) × Mem w wants × Contains (want_range w) r.low in
        let each = all_mapped Wanted want_range (name_wants wants)
        (name_wants_all wants (λ (w : Want). Wanted (want_range w)) (λ l h m k. (a_symbol l h, m, k))
        (λ a j m k. (a_compound a j, m, k))) in
        let s = any_mem (λ (s : Range). covers s r) names h in
        let k = (both_le s.0.low r.low r.high s.0.high).0 s.2 in
        all_at Wanted s.1 each (k.0, omega (arith, k.1, b.ordered))

    name_covered : (w : Want) → Mem w (name_wants wants) → Contains (want_range w) r.low → T (is_covered names r)
    name_covered w m k =
        mem_any (λ (s : Range). covers s r) (mem_map want_range m)
        ((covers_contains names r (want_range w) r.low b (mem_map want_range m) (omega arith, b.ordered)).1 k)

    -- and one whose first code is wanted is covered: it is no number's.
    want_covered : (w : Want) → Mem w wants → Contains (want_range w) r.low → T (is_covered names r)
    want_covered (a_symbol l h) m k = name_covered (a_symbol l h) (symbol_name m) k
    want_covered (a_number l h) m k =
        let below = all_at Below b.begins (name_cuts_below wants (wants_sound rules live n sound)) in
        absurd (omega (arith, k.0, below.1))
    want_covered (a_compound a j) m k = name_covered (a_compound a j) (compound_name m) k

    -- So a run is a case where some live rule wants its first code.
    covered_is : is_covered names r ≡ not (eqb (wanters_at r.low) 0)
    covered_is =
        by_test (is_covered names r) (λ e. e ∙ sym (open-run (is_true e))) (λ e. e ∙ sym (shut_run (λ h. subst T e h)))
      where
        wanting : ℕ → Bool
        wanting i = has live i && holds_at r.low (want_at rules i n)

        open-run : T (is_covered names r) → not (eqb (wanters_at r.low) 0) ≡ true
        open-run h =
            let c = covered_want h in
            let i = listed_want rules live n c.1 in
            let in-it : has (wanters_at r.low) i.0 ≡ true =
            has_mask_of (length rules) wanting i.0 i.1
            ∙ (λ j. i.2 j && holds_at r.low (i.3 j))
            ∙ true_is (holds_at r.low (some c.0)) ((both_le (want_low c.0) r.low r.low (want_high c.0)).1 c.2) in
            let some-rule = has_pos (wanters_at r.low) i.0 in-it in
            ap not (ne_eqb (wanters_at r.low) 0 (λ e. omega arith))

        shut_run : (T (is_covered names r) → ⊥) → not (eqb (wanters_at r.low) 0) ≡ false
        shut_run h = ap not (eq-eqb (wanters_at r.low) 0 (none_want r.low (λ w m k. h (want_covered w m k))))

  -- The set of a run is that of the live rules that want what the case takes.
  case_set
      : (c : Case) → NameFields c → Between (rangeCuts names) (case_range c)
      → run_of wanters_at (case_range c) ≡ case_run rules n live c
  case_set c f b =
      ap (λ (s : ℕ). record { low = case_low c; high = case_high c; set = s })
      (mask_of_same (length rules) (λ i. has live i && holds_at (case_low c) (want_at rules i n))
      (λ i. has live i && takes_for rules n c (want_at rules i n))
      (λ i l. by_test (has live i) (λ y. ap (λ (t : Bool). has live i && t) (go i l y (want_at rules i n) refl)) (λ y. rw y)))
    where
      -- What is wanted has the lowest code of the case where it has any.
      first_met : (w : Want) → T (meets (want_range w) (case_range c)) ↔ Contains (want_range w) (case_low c)
          → holds_at (case_low c) (some w) ≡ meets (want_range w) (case_range c)
      first_met w same =
          let codes = both_le (want_low w) (case_low c) (case_low c) (want_high w) in
          same_truth (holds_at (case_low c) (some w)) (meets (want_range w) (case_range c)) (λ t. same.1 (codes.0 t))
          (λ t. codes.1 (same.0 t))

      name_met : (w : Want) → Mem w (name_wants wants) → holds_at (case_low c) (some w) ≡ meets (want_range w) (case_range c)
      name_met w m =
          first_met w
          (meets_contains names (case_range c) (want_range w) (case_low c) b (mem_map want_range m) (omega arith, b.ordered))

      met : (w : Want) → Mem w wants → holds_at (case_low c) (some w) ≡ meets (want_range w) (case_range c)
      met (a_symbol l h) m = name_met (a_symbol l h) (symbol_name m)
      met (a_number l h) m =
          let below = name_below c f in
          first_met (a_number l h) (
            λ t. let k = (both_le (number_code l) (case_high c) (case_low c) (number_code h)).0 t in
                absurd (omega (arith, k.0, below.1)),
            λ k. absurd (omega (arith, k.0, below.0)),
          )
      met (a_compound a j) m = name_met (a_compound a j) (compound_name m)

      go : (i : ℕ) → i < length rules → has live i ≡ true → (x : Option Want) → want_at rules i n ≡ x
          → holds_at (case_low c) x ≡ takes_for rules n c x
      go i l y none e = refl
      go i l y (some w) e =
          met w (want_listed rules live n i w l (is_true y) e) ∙ sym (wanted_meets c w f (sound i w e))

  -- A switch has a case for each run of ids that a live rule wants there, and for each compound.
  pub names_are : set_runs wanters_at (rangeCuts names) ≡ map (case_run rules n live) (name_cases wants)
  names_are =
      let known = wants_sound rules live n sound in
      ap (map (run_of wanters_at))
      (sym
      (filter_same (is_covered names) (λ (r : Range). not (eqb (wanters_at r.low) 0)) (between (rangeCuts names))
      (all_map (Between (rangeCuts names)) (λ (r : Range). is_covered names r ≡ not (eqb (wanters_at r.low) 0)) covered_is
      (between (rangeCuts names)) (between_cuts (rangeCuts names) (ranges.cuts_ascend names)))))
      ∙ ap (map (run_of wanters_at)) (sym (names_are_runs wants known))
      ∙ map_same case_range (run_of wanters_at) (case_run rules n live) (name_cases wants)
      (all_from (λ (c : Case). run_of wanters_at (case_range c) ≡ case_run rules n live c) (name_cases wants)
      (λ c m.
      case_set c (all_at NameFields m (names_fields wants known))
      (run_between names (case_range c) (all_at (λ (d : Case). Mem (case_range d) (runs names)) m (names_in_runs wants known)))))
