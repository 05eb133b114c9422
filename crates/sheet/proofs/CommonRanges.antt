-- The common range of a variable is the same in a rule and in its notes.
use Prim.Native.Nat.{ℕ, pred, suc, ◌+◌, min, max}
use mathlib.Core.Path.{◌≡◌, refl, sym, ap, ◌∙◌}
use mathlib.Core.List.{List, [], ◌∷◌, ◌++◌}
use mathlib.Core.Option.{Option, some, none}
use native.Mathlib.Omega.{arith}
use Rattle.places.specs.Numbering.{stride}
use Rattle.terms.specs.Pattern.{Pattern, Patterns, anything, the_symbol, the_series, the_range, the_gauged, the_compound, variable, ranged_variable, pnil, pcons}
use Rattle.terms.specs.RuleTests.{Range, common_part, pattern_range, patterns_range}
use Rattle.patterns.specs.views.Note.{Note}
use Rattle.sheet.specs.views.Noted.{pattern_notes, patterns_notes, rule_notes}
use Rattle.sheet.specs.views.NoteRanges.{record_range, range_in}

-- The common part with no range.
pub common_none : (x : Option Range) → common_part x none ≡ x
common_none none = refl
common_none (some x) = refl

-- The common part of three is the same in either order of taking parts.
pub common_assoc
    : (x y z : Option Range) → common_part (common_part x y) z ≡ common_part x (common_part y z)
common_assoc none y z = refl
common_assoc (some x) none z = refl
common_assoc (some x) (some y) none = refl
common_assoc (some x) (some y) (some z) =
    let lows : max (max x.low y.low) z.low ≡ max x.low (max y.low z.low) = omega arith in
    let highs : min (min x.high y.high) z.high ≡ min x.high (min y.high z.high) = omega arith in
    λ j. some (record { low = lows j; high = highs j })

-- The range in two lists of notes is the common part of the ranges in each.
pub range_append
    : (xs ys : List Note) (v : ℕ) → range_in (xs ++ ys) v ≡ common_part (range_in xs v) (range_in ys v)
range_append [] ys v = refl
range_append (x ∷ xs) ys v =
    let r = record_range x.what v in
    ap (common_part r) (range_append xs ys v) ∙ sym (common_assoc r (range_in xs v) (range_in ys v))

mutual
  -- The range in the notes of a pattern, and of a row of patterns, is its range.
  pub pattern_range_lem
      : (p : Pattern) (below b v : ℕ) → range_in (pattern_notes p below b) v ≡ pattern_range p v
  pattern_range_lem anything below b v = refl
  pattern_range_lem (the_symbol a) below b v = refl
  pattern_range_lem (the_series l h) below b v = refl
  pattern_range_lem (the_range l h) below b v = refl
  pattern_range_lem (the_gauged g l h) below b v = refl
  pattern_range_lem (the_compound a ps) below b v = patterns_range_lem ps (pred below) (suc b) v
  pattern_range_lem (variable u) below b v = refl
  pattern_range_lem (ranged_variable u l h) below b v = common_none (pattern_range (ranged_variable u l h) v)

  pub patterns_range_lem
      : (ps : Patterns) (below b v : ℕ) → range_in (patterns_notes ps below b) v ≡ patterns_range ps v
  patterns_range_lem pnil below b v = refl
  patterns_range_lem (pcons p ps) below b v =
      let next = b + stride (suc below) in
      range_append (pattern_notes p below b) (patterns_notes ps below next) v
      ∙ (λ j. common_part (pattern_range_lem p below b v j) (patterns_range_lem ps below next v j))

-- The range in the notes of a rule is the variable's common range.
pub rule_range : (rule : Patterns) (v : ℕ) → range_in (rule_notes rule) v ≡ patterns_range rule v
rule_range rule v = patterns_range_lem rule 3 0 v
