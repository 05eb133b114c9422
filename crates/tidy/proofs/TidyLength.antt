-- How long a tidy sheet can be. A record that is no place test takes at most 2 bytes, one that is takes at most 6, and a compound's
-- takes 4 and has at most four arguments. So each test of a rule adds at most 10 bytes to the 2 of each argument; with at most 64
-- tests and 8 arguments these are at most 656 bytes a rule.
use Prim.Native.Nat.{ℕ, suc, pred, ◌+◌, ◌*◌, ◌≤◌}
use mathlib.Core.Path.{sym, ap, subst}
use mathlib.Core.Bool.{Bool, true, false, cond}
use mathlib.Core.Logic.{inl, inr}
use mathlib.Core.List.{List, [], ◌∷◌, map}
use mathlib.Core.Option.{Option, some, none}
use native.Mathlib.Omega.{arith}
use lib.Dec.{eqb}
use lib.ListN.{length, length-append, length-map}
use Rattle.places.specs.Numbering.{stride}
use Rattle.basics.specs.Lists.{All, Mem, here, there}
use Rattle.basics.proofs.Booleans.{cond_by}
use Rattle.basics.proofs.ListLaws.{mem_cases, mem_none}
use Rattle.basics.proofs.Filters.{map_mem}
use Rattle.terms.specs.Pattern.{Pattern, Patterns, count_patterns, pnil, pcons}
use Rattle.terms.specs.Pattern.{anything, the_symbol, the_series, the_range, the_gauged, the_compound, variable, ranged_variable}
use Rattle.terms.specs.RuleTests.{Occurrence, Range, PlaceTest, range_test, pattern_tests, patterns_tests}
use Rattle.terms.specs.RuleTests.{at, patterns_range, rule_variables, place_tests}
use Rattle.terms.specs.Accepted.{Sound, Sounds, AcceptedRule}
use Rattle.terms.proofs.Ascending.{Ascends}
use Rattle.terms.proofs.PreorderTests.{test_place, all_tests_ascend}
use Rattle.sheet.specs.Sheet.{Sheet, most_rules}
use Rattle.sheet.specs.WriteSheet.{pattern_bytes, patterns_bytes, rules_bytes}
use Rattle.sheet_tests.specs.SheetTests.{place, sheet_tests}
use Rattle.sheet_tests.specs.CheckSheet.{most_tests, AcceptedSheet}
use Rattle.sheet_tests.proofs.SheetTestsSentence.{pair_test, sheet_tests_are}
use Rattle.decision.proofs.exploring.MetOnce.{Distinct}
use Rattle.decision.proofs.exploring.Explored.{distinct_most}
use Rattle.tidy.specs.TidyRule.{is_repeated, new_number, single, repeated, tidy_variable, tidy_pattern, tidy_patterns, tidy_rule}
use Rattle.tidy.specs.TidySheet.{tidy_bytes}

module _ (variables : List Occurrence) (range_of : ℕ → Option Range) where
  variable_short : (v b : ℕ) → length (pattern_bytes (tidy_variable variables range_of v)) ≤ 2 + 10 * length (range_test b (range_of v))
  variable_short v b = go (is_repeated variables v) (range_of v)
    where
      go
          : (x : Bool) (y : Option Range)
          → length (pattern_bytes (cond x (repeated (new_number variables v) y) (single y))) ≤ 2 + 10 * length (range_test b y)
      go true none = omega arith
      go true (some y) = omega arith
      go false none = omega arith
      go false (some y) = omega arith

  mutual
    pattern_short
        : (p : Pattern) (r b : ℕ) → Sound p r
        → length (pattern_bytes (tidy_pattern variables range_of p)) ≤ 2 + 10 * length (pattern_tests range_of p r b)
    pattern_short anything r b sound = omega arith
    pattern_short (the_symbol a) r b sound = omega arith
    pattern_short (the_series l h) r b sound =
        cond_by (λ (p : Pattern). length (pattern_bytes p) ≤ 12) (eqb l h) (λ e. omega arith) (λ e. omega arith)
    pattern_short (the_range l h) r b sound = omega arith
    pattern_short (the_gauged g l h) r b sound =
        cond_by (λ (p : Pattern). length (pattern_bytes p) ≤ 12) (eqb g 0) (λ e. omega arith) (λ e. omega arith)
    pattern_short (the_compound a ps) r b sound = omega (arith, sound.3, patterns_short ps (pred r) (suc b) sound.4)
    pattern_short (variable v) r b sound = variable_short v b
    pattern_short (ranged_variable v l h) r b sound = variable_short v b

    patterns_short
        : (ps : Patterns) (r b : ℕ) → Sounds ps r
        → length (patterns_bytes (tidy_patterns variables range_of ps))
        ≤ 2 * count_patterns ps + 10 * length (patterns_tests range_of ps r b)
    patterns_short pnil r b sound = omega arith
    patterns_short (pcons p ps) r b sound =
        let first = pattern_bytes (tidy_pattern variables range_of p) in
        let rest = patterns_bytes (tidy_patterns variables range_of ps) in
        let tests = pattern_tests range_of p r b in
        let others = patterns_tests range_of ps r (b + stride r) in
        omega (
          arith,
          length-append first rest,
          length-append tests others,
          pattern_short p r b sound.0,
          patterns_short ps r (b + stride r) sound.1,
        )

-- The place tests of a rule have places of their own,
places_from_lem : (xs : List PlaceTest) (b e : ℕ) → Ascends test_place b e xs → {n : ℕ} → Mem n (map test_place xs) → b ≤ n
places_from_lem [] b e up m = absurd (mem_none m)
places_from_lem (x ∷ xs) b e up m = elim (mem_cases m) [
  | inl d ↦ omega (arith, up.0, d)
  | inr k ↦ omega (arith, up.0, places_from_lem xs (suc (test_place x)) e up.1 k)
]

places_apart : (xs : List PlaceTest) (b e : ℕ) → Ascends test_place b e xs → Distinct (map test_place xs)
places_apart [] b e up = tt
places_apart (x ∷ xs) b e up = (
  λ m. omega (arith, places_from_lem xs (suc (test_place x)) e up.1 m),
  places_apart xs (suc (test_place x)) e up.1,
)

-- so they are no more than the sheet's tests,
few_places_lem
    : (rules : List Patterns) (arity : ℕ) (rule : Patterns) → Mem rule rules → AcceptedRule arity rule
    → length (place_tests rule) ≤ length (sheet_tests rules)
few_places_lem rules arity rule m accepted =
    let are = sheet_tests_are rules in
    let own = place_tests rule in
    let apart = places_apart own 0 _ (all_tests_ascend (patterns_range rule) rule 4 0 accepted.sound) in
    let few =
    distinct_most (map test_place own) are.places apart
    (λ n k.
    let (x, h, is) = map_mem test_place own k in
    (are.tested_places n).1 (rule, m, (x.want, subst (λ (y : ℕ). Mem (at y x.want) own) (sym is) h))) in
    omega (
      arith,
      ap length are.tests,
      length-append (map place are.places) (map pair_test are.pairs),
      length-map are.places place,
      length-map own test_place,
    )

-- and the rules of a sheet are short,
rules_short
    : (arity : ℕ) (all rules : List Patterns) → arity ≤ 8 → length (sheet_tests all) ≤ most_tests
    → ((rule : Patterns) → Mem rule rules → Mem rule all) → All (AcceptedRule arity) rules
    → length (rules_bytes (map tidy_rule rules)) ≤ 656 * length rules
rules_short arity all [] small few within accepted = omega arith
rules_short arity all (rule ∷ rules) small few within accepted =
    let first = patterns_bytes (tidy_rule rule) in
    let rest = rules_bytes (map tidy_rule rules) in
    let (own, others) = accepted in
    omega (
      arith,
      length-append first rest,
      patterns_short (rule_variables rule) (patterns_range rule) rule 4 0 own.sound,
      own.arguments,
      few_places_lem all arity rule (within rule here) own,
      rules_short arity all rules small few (λ r m. within r (there m)) others,
    )

-- as the tidy sheet is: at most 41,987 bytes for 64 rules.
pub tidy_short : (sheet : Sheet) → AcceptedSheet sheet → length (tidy_bytes sheet) ≤ 3 + 656 * most_rules
tidy_short sheet accepted =
    let sound = accepted.sound in
    omega (
      arith,
      rules_short sheet.arity sheet.rules sheet.rules sound.few_arguments accepted.few_tests (λ r m. m)
          sound.accepted_rules,
      sound.few_rules,
    )
