-- The tidy form of an accepted rule is accepted.
use Prim.Native.Nat.{ℕ, suc, pred, ◌+◌, ◌≤◌, ◌<◌}
use mathlib.Core.Path.{◌≡◌, sym, ap, subst, ◌∙◌}
use mathlib.Core.Bool.{Bool, true, false, cond}
use mathlib.Core.List.{List}
use mathlib.Core.Option.{Option, some, none}
use native.Mathlib.Omega.{arith}
use lib.Dec.{T, eqb, eqb→eq}
use Rattle.places.specs.Numbering.{stride}
use Rattle.basics.specs.Lists.{Mem, All, any_of}
use Rattle.basics.proofs.Booleans.{both_true, cond_holds, cond_by}
use Rattle.basics.proofs.ListLaws.{all_join}
use Rattle.basics.proofs.Filters.{any_mem}
use Rattle.terms.specs.Pattern.{Pattern, Patterns, count_patterns, pnil, pcons}
use Rattle.terms.specs.Pattern.{anything, the_symbol, the_series, the_range, the_gauged, the_compound, variable, ranged_variable}
use Rattle.terms.specs.RuleTests.{Occurrence, Range}
use Rattle.terms.specs.RuleTests.{patterns_range, pattern_variables, patterns_variables}
use Rattle.terms.specs.RuleTests.{rule_variables}
use Rattle.terms.specs.Accepted.{Sound, Sounds, InCommon, AcceptedRule}
use Rattle.terms.proofs.TermPlaces.{extent}
use Rattle.terms.proofs.Ascending.{Ascends}
use Rattle.terms.proofs.PairTests.{variable_place, all_variables_ascend}
use Rattle.terms.proofs.Ranges.{WideRange, ranges_wide}
use Rattle.tidy.specs.TidyRule.{is_repeated}
use Rattle.tidy.specs.TidyRule.{new_number, single, repeated, tidy_pattern, tidy_patterns, tidy_rule}
use Rattle.tidy.proofs.NewNumbers.{numbers_differ, number_lt}
use Rattle.tidy.proofs.TidyTests.{is_numbered, tidy_count, ranges_kept, has_number}

-- The number is 0 to 15.
abbrev pub Small : Occurrence → Type 0
Small o = o.name < 16

mutual
  -- "8 Is the variable 0 to 15?"
  names_small : (p : Pattern) (r b : ℕ) → Sound p r → All Small (pattern_variables p r b)
  names_small anything r b sound = tt
  names_small (the_symbol a) r b sound = tt
  names_small (the_series l h) r b sound = tt
  names_small (the_range l h) r b sound = tt
  names_small (the_gauged g l h) r b sound = tt
  names_small (the_compound a ps) r b sound = all_names_small ps (pred r) (suc b) sound.4
  names_small (variable v) r b sound = (sound.1, tt)
  names_small (ranged_variable v l h) r b sound = (sound.3, tt)

  pub all_names_small : (ps : Patterns) (r b : ℕ) → Sounds ps r → All Small (patterns_variables ps r b)
  all_names_small pnil r b sound = tt
  all_names_small (pcons p ps) r b sound =
      all_join Small (pattern_variables p r b) (patterns_variables ps r (b + stride r)) (names_small p r b sound.0)
      (all_names_small ps r (b + stride r) sound.1)

-- What is written for a variable is sound.
variable_sound
    : (c : Bool) (n : ℕ) (x : Option Range) (r : ℕ) → 1 ≤ r → (T c → n < 16) → InCommon x → WideRange x
    → Sound (cond c (repeated n x) (single x)) r
variable_sound true n none r deep small common wide = (deep, small tt)
variable_sound true n (some x) r deep small common wide = (deep, common, wide, small tt)
variable_sound false n none r deep small common wide = deep
variable_sound false n (some x) r deep small common wide = (deep, common, wide)

module _
    (os : List Occurrence) (range_of : ℕ → Option Range) (small : (v : ℕ) → T (is_repeated os v) → new_number os v < 16)
    (common : (v : ℕ) → InCommon (range_of v)) (wide : (v : ℕ) → WideRange (range_of v))
  where
    tidy_variable_sound : (v r : ℕ) → 1 ≤ r → Sound (tidy_pattern os range_of (variable v)) r
    tidy_variable_sound v r deep =
        variable_sound (is_repeated os v) (new_number os v) (range_of v) r deep (small v) (common v) (wide v)

    mutual
      -- So is the tidy form of a sound pattern,
      tidy_sound : (p : Pattern) (r : ℕ) → Sound p r → Sound (tidy_pattern os range_of p) r
      tidy_sound anything r sound = sound
      tidy_sound (the_symbol a) r sound = sound
      tidy_sound (the_series l h) r sound =
          cond_by (λ (p : Pattern). Sound p r) (eqb l h) (λ e. (sound.0, omega (arith, sound.1, sound.2))) (λ e. sound)
      tidy_sound (the_range l h) r sound = sound
      tidy_sound (the_gauged g l h) r sound =
          cond_by (λ (p : Pattern). Sound p r) (eqb g 0) (λ e. (sound.0, sound.1, sound.2)) (λ e. sound)
      tidy_sound (the_compound a ps) r sound =
          let n = tidy_count os range_of ps in
          (sound.0, sound.1, omega (arith, n, sound.2), omega (arith, n, sound.3), tidy_sounds ps (pred r) sound.4)
      tidy_sound (variable v) r sound = tidy_variable_sound v r sound.0
      tidy_sound (ranged_variable v l h) r sound = tidy_variable_sound v r sound.0

      -- and of a row of them.
      tidy_sounds : (ps : Patterns) (r : ℕ) → Sounds ps r → Sounds (tidy_patterns os range_of ps) r
      tidy_sounds pnil r sound = tt
      tidy_sounds (pcons p ps) r sound = (tidy_sound p r sound.0, tidy_sounds ps r sound.1)

module _ (arity : ℕ) (rule : Patterns) (accepted : AcceptedRule arity rule) where
  abbrev os : List Occurrence
  os = rule_variables rule

  abbrev end : ℕ
  end = 0 + extent (count_patterns rule) 4

  up : Ascends variable_place 0 end (rule_variables rule)
  up = all_variables_ascend rule 4 0 accepted.sound

  -- The ranges of a new number are those of the one variable that has it, or there are none.
  tidy_common : (k : ℕ) → InCommon (patterns_range (tidy_rule rule) k)
  tidy_common k = go (any_of (is_numbered os k) os) (any_mem (is_numbered os k) os) (λ t. t)
    where
      go
          : (c : Bool) → (T c → (o : Occurrence) × Mem o os × T (is_numbered os k o)) → (T (any_of (is_numbered os k) os) → T c)
          → InCommon (patterns_range (tidy_rule rule) k)
      go true found test =
          let (o, m, t) = found tt in
          let (h, n) = both_true (is_repeated os o.name) (eqb (new_number os o.name) k) t in
          let is : new_number os o.name ≡ k = eqb→eq (new_number os o.name) k n in
          let x = patterns_range rule o.name in
          let same : (v : ℕ) → T (is_repeated os v) → new_number os v ≡ k → patterns_range rule v ≡ x =
          λ v g e. ap (patterns_range rule) (numbers_differ 0 end os up v o.name g h (e ∙ sym is)) in
          subst InCommon (sym (ranges_kept os (patterns_range rule) k x same rule 4 0))
          (cond_holds InCommon (any_of (is_numbered os k) os) x none (accepted.common o.name) tt)
      go false found test =
          let same : (v : ℕ) → T (is_repeated os v) → new_number os v ≡ k → patterns_range rule v ≡ none =
          λ v g e. absurd (test (subst (λ (n : ℕ). T (any_of (is_numbered os n) os)) e (has_number os v g))) in
          subst InCommon (sym (ranges_kept os (patterns_range rule) k none same rule 4 0))
          (cond_holds InCommon (any_of (is_numbered os k) os) none none tt tt)

  -- The tidy rule is accepted.
  pub tidy_accepted : AcceptedRule arity (tidy_rule rule)
  tidy_accepted = record {
    arguments = tidy_count os (patterns_range rule) rule ∙ accepted.arguments;
    sound =
        tidy_sounds os (patterns_range rule) (number_lt 0 end os up 16 (all_names_small rule 4 0 accepted.sound))
        accepted.common (ranges_wide rule 4 accepted.sound) rule 4 accepted.sound;
    common = tidy_common;
  }
