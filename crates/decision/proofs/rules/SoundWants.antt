-- What the rules of an accepted sheet want is sound: its ids are wide, its numbers of one gauge, no series or range is empty,
-- arities are small.
use Prim.Native.Nat.{ℕ, suc, pred, ◌+◌, ◌<◌}
use mathlib.Core.Path.{◌≡◌, refl}
use mathlib.Core.List.{List}
use mathlib.Core.Option.{Option, some, none}
use native.Mathlib.Omega.{arith}
use lib.ListN.{length}
use Rattle.places.specs.Numbering.{stride}
use Rattle.basics.specs.Lists.{All}
use Rattle.terms.specs.Pattern.{Pattern, Patterns, pnil, pcons}
use Rattle.terms.specs.Pattern.{anything, the_symbol, the_series, the_range, the_gauged, the_compound, variable, ranged_variable}
use Rattle.terms.specs.RuleTests.{Want, PlaceTest, Range, range_test, pattern_tests, patterns_tests, patterns_range, place_tests}
use Rattle.terms.specs.Accepted.{Sound, Sounds, InCommon, AcceptedRule}
use Rattle.basics.proofs.ListLaws.{all_join, all_at}
use Rattle.terms.proofs.Ranges.{WideRange, ranges_wide}
use Rattle.terms.specs.Answer.{rule_at}
use Rattle.basics.proofs.Positions.{mem_at}
use Rattle.codes.specs.views.Codes.{SoundWant}
use Rattle.decision.specs.Rules.{want_at}
use Rattle.decision.specs.Edges.{live_wants}
use Rattle.decision.proofs.rules.TestsOfRules.{want_test}
use Rattle.decision.proofs.rules.LiveWants.{IfWanted, wants_all}

-- What the test wants is sound.
abbrev pub SoundTest : PlaceTest → Type 0
SoundTest x = SoundWant x.want

-- The test for a common part that is not empty is sound.
range_sound : (n : ℕ) (x : Option Range) → InCommon x → WideRange x → All SoundTest (range_test n x)
range_sound n none c w = tt
range_sound n (some x) c w = ((c, omega arith, omega arith), tt)

module _ (range_of : ℕ → Option Range) (common : (v : ℕ) → InCommon (range_of v))
    (wide : (v : ℕ) → WideRange (range_of v)) where
  mutual
    -- The tests of a pattern are sound,
    tests_sound : (p : Pattern) (r b : ℕ) → Sound p r → All SoundTest (pattern_tests range_of p r b)
    tests_sound anything r b s = tt
    tests_sound (the_symbol a) r b s = ((omega arith, s.1), tt)
    tests_sound (the_series l h) r b s = ((s.1, s.2), tt)
    tests_sound (the_range l h) r b s = ((s.1, omega (arith, s.2), omega (arith, s.1, s.2)), tt)
    tests_sound (the_gauged g l h) r b s =
        ((omega (arith, s.1), omega (arith, s.2, s.3), omega (arith, s.1, s.2)), tt)
    tests_sound (the_compound a ps) r b s = ((s.1, s.3), all_tests_sound ps (pred r) (suc b) s.4)
    tests_sound (variable v) r b s = range_sound b (range_of v) (common v) (wide v)
    tests_sound (ranged_variable v l h) r b s = range_sound b (range_of v) (common v) (wide v)

    -- and those of a row of patterns are.
    all_tests_sound : (ps : Patterns) (r b : ℕ) → Sounds ps r → All SoundTest (patterns_tests range_of ps r b)
    all_tests_sound pnil r b s = tt
    all_tests_sound (pcons p ps) r b s =
        all_join SoundTest (pattern_tests range_of p r b) (patterns_tests range_of ps r (b + stride r))
        (tests_sound p r b s.0) (all_tests_sound ps r (b + stride r) s.1)

-- So are the place tests of an accepted rule.
pub rule_tests_sound : {arity : ℕ} (rule : Patterns) → AcceptedRule arity rule → All SoundTest (place_tests rule)
rule_tests_sound rule a =
    all_tests_sound (patterns_range rule) a.common (ranges_wide rule 4 a.sound) rule 4 0 a.sound

-- Each rule of an accepted sheet is an accepted one.
pub rule_accepted
    : (arity : ℕ) (rules : List Patterns) → All (AcceptedRule arity) rules → (i : ℕ) → i < length rules
    → AcceptedRule arity (rule_at rules (suc i))
rule_accepted arity rules accepted i l = all_at (AcceptedRule arity) (mem_at pnil rules i l) accepted

-- So what the live rules want at a place is sound.
pub wants_sound
    : (arity : ℕ) (rules : List Patterns) → All (AcceptedRule arity) rules → (live n : ℕ) → All SoundWant (live_wants rules live n)
wants_sound arity rules accepted live n = wants_all rules live n SoundWant (λ i l. go i l (want_at rules i n) refl)
  where
    go : (i : ℕ) → i < length rules → (x : Option Want) → want_at rules i n ≡ x → IfWanted SoundWant x
    go i l none e = tt
    go i l (some w) e =
        let rule = rule_at rules (suc i) in
        all_at SoundTest (want_test (place_tests rule) n w e) (rule_tests_sound rule (rule_accepted arity rules accepted i l))
