-- The bytes that spell what is accepted are bytes.
use Prim.Native.Nat.{ℕ, pred}
use mathlib.Core.List.{List, [], ◌∷◌}
use native.Mathlib.Omega.{arith}
use Rattle.records.specs.Fields.{wide_then, AreBytes}
use Rattle.basics.specs.Lists.{All}
use Rattle.terms.specs.Pattern.{Pattern, Patterns, count_patterns, anything, the_symbol, the_series, the_range, the_gauged, the_compound, variable, ranged_variable, pnil, pcons}
use Rattle.terms.specs.Accepted.{Sound, Sounds, AcceptedRule}
use Rattle.sheet.specs.Sheet.{Sheet, SoundSheet}
use Rattle.sheet.specs.WriteSheet.{pattern_bytes, patterns_bytes, rules_bytes, sheet_bytes}
use Rattle.records.proofs.ByteLists.{bytes_append, wide_bytes}

mutual
  pattern_bytes_lem : (p : Pattern) (r : ℕ) → Sound p r → AreBytes (pattern_bytes p)
  pattern_bytes_lem anything r h = (omega arith, tt)
  pattern_bytes_lem (the_symbol a) r h = (omega arith, wide_bytes a [] tt)
  pattern_bytes_lem (the_series l u) r h = (omega arith, wide_bytes l (wide_then u []) (wide_bytes u [] tt))
  pattern_bytes_lem (the_range l u) r h = (omega arith, wide_bytes l (wide_then u []) (wide_bytes u [] tt))
  pattern_bytes_lem (the_gauged g l u) r h = (omega arith, (h.3, wide_bytes l (wide_then u []) (wide_bytes u [] tt)))
  pattern_bytes_lem (the_compound a ps) r h = (
    omega arith,
    wide_bytes a (count_patterns ps ∷ patterns_bytes ps)
        (omega (arith, h.3), patterns_bytes_lem ps (pred r) h.4),
  )
  pattern_bytes_lem (variable v) r h = (omega arith, (omega (arith, h.1), tt))
  pattern_bytes_lem (ranged_variable v l u) r h =
      (omega arith, (omega (arith, h.3), wide_bytes l (wide_then u []) (wide_bytes u [] tt)))

  patterns_bytes_lem : (ps : Patterns) (r : ℕ) → Sounds ps r → AreBytes (patterns_bytes ps)
  patterns_bytes_lem pnil r h = tt
  patterns_bytes_lem (pcons p ps) r h =
      bytes_append (pattern_bytes p) (patterns_bytes ps) (pattern_bytes_lem p r h.0) (patterns_bytes_lem ps r h.1)

rules_bytes_lem : (arity : ℕ) (rules : List Patterns) → All (AcceptedRule arity) rules → AreBytes (rules_bytes rules)
rules_bytes_lem arity [] h = tt
rules_bytes_lem arity (rule ∷ rules) h =
    bytes_append (patterns_bytes rule) (rules_bytes rules) (patterns_bytes_lem rule 4 h.0.sound)
    (rules_bytes_lem arity rules h.1)

-- A sound sheet is written in bytes.
pub sheet_bytes_lem : (sheet : Sheet) → SoundSheet sheet → AreBytes (sheet_bytes sheet)
sheet_bytes_lem sheet sound =
    let rules = rules_bytes_lem sheet.arity sheet.rules sound.accepted_rules in
    (omega arith, (omega (arith, sound.few_arguments), (omega (arith, sound.few_rules), rules)))
