-- Question 9 gets a yes exactly where each variable's ranges have a number in common.
use Prim.Native.Nat.{ℕ, ◌≤◌}
use mathlib.Core.Path.{◌≡◌, refl, sym, ap, subst}
use mathlib.Core.Bool.{true, cond}
use mathlib.Core.Option.{Option, some, none}
use native.Mathlib.Decide.{dec_lt}
use native.Mathlib.Omega.{arith}
use borrow.Author.Tests.{leb-true, le-leb, ne_eqb}
use Rattle.terms.specs.Pattern.{Pattern, Patterns, anything, the_symbol, the_series, the_range, the_gauged, the_compound, variable, ranged_variable, pnil, pcons}
use Rattle.terms.specs.RuleTests.{Range, common_part, pattern_range, patterns_range}
use Rattle.terms.specs.Accepted.{Sound, Sounds, InCommon}
use Rattle.sheet.specs.ReadSheet.{in_common, ranges_meet}
use Rattle.basics.proofs.AllBelow.{all_at, all_true}

in_common_yes : (x : Option Range) → in_common x ≡ true → InCommon x
in_common_yes none e = tt
in_common_yes (some x) e = leb-true x.low x.high e

in_common_true : (x : Option Range) → InCommon x → in_common x ≡ true
in_common_true none h = refl
in_common_true (some x) h = le-leb x.low x.high h

mutual
  -- A sound pattern has no variable beyond 15, nor has a row.
  range_beyond : (p : Pattern) (r v : ℕ) → Sound p r → 16 ≤ v → pattern_range p v ≡ none
  range_beyond anything r v h k = refl
  range_beyond (the_symbol a) r v h k = refl
  range_beyond (the_series l u) r v h k = refl
  range_beyond (the_range l u) r v h k = refl
  range_beyond (the_gauged g l u) r v h k = refl
  range_beyond (the_compound a ps) r v h k = ranges_beyond ps _ v h.4 k
  range_beyond (variable u) r v h k = refl
  range_beyond (ranged_variable u l m) r v h k =
      ap (λ b. cond b (some (record { low = l; high = m })) none)
      (ne_eqb u v (λ e. omega arith))

  ranges_beyond : (ps : Patterns) (r v : ℕ) → Sounds ps r → 16 ≤ v → patterns_range ps v ≡ none
  ranges_beyond pnil r v h k = refl
  ranges_beyond (pcons p ps) r v h k =
      λ j. common_part (range_beyond p r v h.0 k j) (ranges_beyond ps r v h.1 k j)

-- A yes says it of every variable.
pub meet_common
    : (rule : Patterns) (r : ℕ) → Sounds rule r → ranges_meet rule ≡ true → (v : ℕ) → InCommon (patterns_range rule v)
meet_common rule r sound meet v =
    elim (dec_lt v 16) [
      | yes small ↦ in_common_yes (patterns_range rule v) (all_at 16 _ meet v small)
      | no large ↦ subst InCommon (sym (ranges_beyond rule r v sound (omega arith))) tt
    ]

-- Where it is so, the answer is yes.
pub common_meet : (rule : Patterns) → ((v : ℕ) → InCommon (patterns_range rule v)) → ranges_meet rule ≡ true
common_meet rule common = all_true 16 _ (λ v small. in_common_true (patterns_range rule v) (common v))
