-- The rules and pieces that the counter accepts (document 01, "Questions at the counter").
use Rattle.std.specs.Prelude.{ℕ, pred, ◌≤◌, ◌<◌, ◌≡◌}
use Rattle.std.proofs.Math.Option.{Option, some, none}
use Rattle.terms.specs.Term.{Term, Terms, count, Wide, unknown, never, symbol, numbers, compound, nil, cons}
use Rattle.terms.specs.Pattern.{Pattern, Patterns, count_patterns, pnil, pcons}
use Rattle.terms.specs.Pattern.{anything, the_symbol, the_series, the_range, the_gauged, the_compound, variable, ranged_variable}
use Rattle.terms.specs.RuleTests.{Range, patterns_range}
use Rattle.terms.specs.Filling.{WellFormeds}

-- "5 If compound, is its depth at most 3? 6 Is its arity 1 to 4? 7 Is low at most high? 8 Is the variable 0 to 15?" at a pattern
-- with r levels. Every pattern takes a level, so a compound, whose arguments take another, has 2 or more.
abbrev mutual
  pub Sound : Pattern → ℕ → Type 0
  Sound anything r = 1 ≤ r
  Sound (the_symbol a) r = (1 ≤ r) × Wide a
  Sound (the_series l h) r = (1 ≤ r) × (l ≤ h) × Wide h
  Sound (the_range l h) r = (1 ≤ r) × (l ≤ h) × Wide h
  Sound (the_gauged g l h) r = (1 ≤ r) × (l ≤ h) × Wide h × (g < 256)
  Sound (the_compound a ps) r = (1 ≤ r) × Wide a × (1 ≤ count_patterns ps) × (count_patterns ps ≤ 4) × Sounds ps (pred r)
  Sound (variable v) r = (1 ≤ r) × (v < 16)
  Sound (ranged_variable v l h) r = (1 ≤ r) × (l ≤ h) × Wide h × (v < 16)

  pub Sounds : Patterns → ℕ → Type 0
  Sounds pnil r = Unit
  Sounds (pcons p ps) r = Sound p r × Sounds ps r

-- "9 Has each variable's set of ranges a number in common?"
abbrev pub InCommon : Option Range → Type 0
InCommon none = Unit
InCommon (some x) = x.low ≤ x.high

-- A rule of an accepted sheet of that arity.
pub record AcceptedRule (arity : ℕ) (rule : Patterns) : Type 0 where
  pub arguments : count_patterns rule ≡ arity
  pub sound : Sounds rule 4
  pub common : (v : ℕ) → InCommon (patterns_range rule v)

-- "15 If compound, is its depth at most 3?" at a term with r levels.
abbrev mutual
  pub Shallow : Term → ℕ → Type 0
  Shallow unknown r = 1 ≤ r
  Shallow never r = 1 ≤ r
  Shallow (symbol a) r = 1 ≤ r
  Shallow (numbers a b) r = 1 ≤ r
  Shallow (compound a ts) r = (1 ≤ r) × Shallows ts (pred r)

  pub Shallows : Terms → ℕ → Type 0
  Shallows nil r = Unit
  Shallows (cons t ts) r = Shallow t r × Shallows ts r

-- An accepted piece of that arity.
pub record AcceptedPiece (arity : ℕ) (piece : Terms) : Type 0 where
  pub arguments : count piece ≡ arity
  pub well_formed : WellFormeds piece
  pub shallow : Shallows piece 4
