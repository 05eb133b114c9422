-- A rule in which each symbol is written as a series, and each range as one on gauge 0, has the same tests, and is accepted where
-- the rule is.
use Prim.Native.Nat.{ℕ, suc, pred, ◌+◌}
use mathlib.Core.Path.{◌≡◌, refl, sym, ap, subst, ◌∙◌}
use mathlib.Core.List.{List, [], ◌∷◌, ◌++◌, map}
use mathlib.Core.Option.{Option}
use native.Mathlib.Omega.{arith}
use lib.ListN.{length, length-map}
use Rattle.basics.specs.Lists.{All}
use Rattle.places.specs.Numbering.{stride}
use Rattle.terms.specs.Pattern.{Pattern, Patterns, count_patterns, pnil, pcons}
use Rattle.terms.specs.Pattern.{anything, the_symbol, the_series, the_range, the_gauged, the_compound, variable, ranged_variable}
use Rattle.terms.specs.RuleTests.{a_number, a_compound, at, Range, common_part, pairs_of, pattern_variables, patterns_variables}
use Rattle.terms.specs.RuleTests.{pattern_range, patterns_range, pattern_tests, patterns_tests, place_tests, pair_tests}
use Rattle.terms.proofs.Gauges.{on_gauge_0}
use Rattle.terms.specs.Accepted.{Sound, Sounds, InCommon, AcceptedRule}
use Rattle.sheet.specs.Sheet.{Sheet}
use Rattle.sheet_tests.specs.CheckSheet.{AcceptedSheet}
use Rattle.decision.proofs.rules.SameTests.{same_tests_same_tests}
use Rattle.promises.specs.LongForm.{long_form, long_forms, long_sheet}

same_count : (ps : Patterns) → count_patterns (long_forms ps) ≡ count_patterns ps
same_count pnil = refl
same_count (pcons p ps) = ap suc (same_count ps)

mutual
  same_range : (p : Pattern) (v : ℕ) → pattern_range (long_form p) v ≡ pattern_range p v
  same_range anything v = refl
  same_range (the_symbol a) v = refl
  same_range (the_series l h) v = refl
  same_range (the_range l h) v = refl
  same_range (the_gauged g l h) v = refl
  same_range (the_compound a ps) v = same_ranges ps v
  same_range (variable u) v = refl
  same_range (ranged_variable u l h) v = refl

  same_ranges : (ps : Patterns) (v : ℕ) → patterns_range (long_forms ps) v ≡ patterns_range ps v
  same_ranges pnil v = refl
  same_ranges (pcons p ps) v = λ i. common_part (same_range p v i) (same_ranges ps v i)

mutual
  same_variables : (p : Pattern) (r b : ℕ) → pattern_variables (long_form p) r b ≡ pattern_variables p r b
  same_variables anything r b = refl
  same_variables (the_symbol a) r b = refl
  same_variables (the_series l h) r b = refl
  same_variables (the_range l h) r b = refl
  same_variables (the_gauged g l h) r b = refl
  same_variables (the_compound a ps) r b = all_same_variables ps (pred r) (suc b)
  same_variables (variable v) r b = refl
  same_variables (ranged_variable v l h) r b = refl

  all_same_variables : (ps : Patterns) (r b : ℕ) → patterns_variables (long_forms ps) r b ≡ patterns_variables ps r b
  all_same_variables pnil r b = refl
  all_same_variables (pcons p ps) r b = λ i. same_variables p r b i ++ all_same_variables ps r (b + stride r) i

module _ (range_of : ℕ → Option Range) where
  mutual
    same_tests : (p : Pattern) (r b : ℕ) → pattern_tests range_of (long_form p) r b ≡ pattern_tests range_of p r b
    same_tests anything r b = refl
    same_tests (the_symbol a) r b = refl
    same_tests (the_series l h) r b = refl
    same_tests (the_range l h) r b = λ i. at b (a_number (on_gauge_0 l i) (on_gauge_0 h i)) ∷ []
    same_tests (the_gauged g l h) r b = refl
    same_tests (the_compound a ps) r b = λ i. at b (a_compound a (same_count ps i)) ∷ all_same_tests ps (pred r) (suc b) i
    same_tests (variable v) r b = refl
    same_tests (ranged_variable v l h) r b = refl

    all_same_tests : (ps : Patterns) (r b : ℕ) → patterns_tests range_of (long_forms ps) r b ≡ patterns_tests range_of ps r b
    all_same_tests pnil r b = refl
    all_same_tests (pcons p ps) r b = λ i. same_tests p r b i ++ all_same_tests ps r (b + stride r) i

-- The same place tests, and the same equality tests.
same_places : (rule : Patterns) → place_tests (long_forms rule) ≡ place_tests rule
same_places rule =
    (λ i. patterns_tests (λ v. same_ranges rule v i) (long_forms rule) 4 0) ∙ all_same_tests (patterns_range rule) rule 4 0

same_pairs : (rule : Patterns) → pair_tests (long_forms rule) ≡ pair_tests rule
same_pairs rule = ap pairs_of (all_same_variables rule 4 0)

-- What is the same of a rule and of the rule so written is the same, rule for rule, of rules that are the same so written.
rule_for_rule
    : {A : Type 0} (f : Patterns → A) → ((rule : Patterns) → f (long_forms rule) ≡ f rule) → (rules others : List Patterns)
    → map long_forms rules ≡ map long_forms others → map f rules ≡ map f others
rule_for_rule f same rules others e =
    sym (written rules) ∙ ap (map f) e ∙ written others
  where
    written : (rs : List Patterns) → map f (map long_forms rs) ≡ map f rs
    written [] = refl
    written (r ∷ rs) = λ i. same r i ∷ written rs i

module _ (rules others : List Patterns) (e : map long_forms rules ≡ map long_forms others) where
  pub form_places : map place_tests rules ≡ map place_tests others
  form_places = rule_for_rule place_tests same_places rules others e

  pub form_pairs : map pair_tests rules ≡ map pair_tests others
  form_pairs = rule_for_rule pair_tests same_pairs rules others e

mutual
  -- A sound pattern so written is sound,
  form_sound : (p : Pattern) (r : ℕ) → Sound p r → Sound (long_form p) r
  form_sound anything r h = h
  form_sound (the_symbol a) r h = (h.0, omega arith, h.1)
  form_sound (the_series l u) r h = h
  form_sound (the_range l u) r h = (h.0, h.1, h.2, omega arith)
  form_sound (the_gauged g l u) r h = h
  form_sound (the_compound a ps) r h =
      let n = same_count ps in
      (h.0, h.1, omega (arith, n, h.2), omega (arith, n, h.3), form_sounds ps (pred r) h.4)
  form_sound (variable v) r h = h
  form_sound (ranged_variable v l u) r h = h

  form_sounds : (ps : Patterns) (r : ℕ) → Sounds ps r → Sounds (long_forms ps) r
  form_sounds pnil r h = tt
  form_sounds (pcons p ps) r h = (form_sound p r h.0, form_sounds ps r h.1)

mutual
  -- and once so written it stays as it is.
  form_twice : (p : Pattern) → long_form (long_form p) ≡ long_form p
  form_twice anything = refl
  form_twice (the_symbol a) = refl
  form_twice (the_series l u) = refl
  form_twice (the_range l u) = refl
  form_twice (the_gauged g l u) = refl
  form_twice (the_compound a ps) = ap (the_compound a) (forms_twice ps)
  form_twice (variable v) = refl
  form_twice (ranged_variable v l u) = refl

  forms_twice : (ps : Patterns) → long_forms (long_forms ps) ≡ long_forms ps
  forms_twice pnil = refl
  forms_twice (pcons p ps) = λ i. pcons (form_twice p i) (forms_twice ps i)

pub rules_twice : (rules : List Patterns) → map long_forms (map long_forms rules) ≡ map long_forms rules
rules_twice [] = refl
rules_twice (rule ∷ rules) = λ i. forms_twice rule i ∷ rules_twice rules i

rule_accepted : (arity : ℕ) (rule : Patterns) → AcceptedRule arity rule → AcceptedRule arity (long_forms rule)
rule_accepted arity rule ok = record {
  arguments = same_count rule ∙ ok.arguments;
  sound = form_sounds rule 4 ok.sound;
  common = λ v. subst InCommon (sym (same_ranges rule v)) (ok.common v);
}

rules_accepted
    : (arity : ℕ) (rules : List Patterns) → All (AcceptedRule arity) rules → All (AcceptedRule arity) (map long_forms rules)
rules_accepted arity [] ok = tt
rules_accepted arity (rule ∷ rules) ok = (rule_accepted arity rule ok.0, rules_accepted arity rules ok.1)

-- An accepted sheet so written is accepted.
pub form_accepted : (sheet : Sheet) → AcceptedSheet sheet → AcceptedSheet (long_sheet sheet)
form_accepted sheet accepted =
    let rules = sheet.rules in
    let sound = accepted.sound in
    let places = form_places (map long_forms rules) rules (rules_twice rules) in
    let pairs = form_pairs (map long_forms rules) rules (rules_twice rules) in
    let tests = same_tests_same_tests (map long_forms rules) rules places pairs in
    record {
      sound = record {
        some_argument = sound.some_argument;
        few_arguments = sound.few_arguments;
        few_rules = omega (arith, length-map rules long_forms, sound.few_rules);
        accepted_rules = rules_accepted sheet.arity rules sound.accepted_rules;
      };
      few_tests = omega (arith, ap length tests, accepted.few_tests);
    }
