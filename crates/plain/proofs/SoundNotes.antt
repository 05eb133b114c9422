-- The notes of an accepted rule: their places and their fields.
use Prim.Native.Nat.{ℕ, suc, pred, ◌+◌, ◌≤◌}
use native.Mathlib.Omega.{arith}
use Rattle.places.specs.Numbering.{stride}
use Rattle.basics.specs.Lists.{All}
use Rattle.terms.specs.Pattern.{Pattern, Patterns, anything, the_symbol, the_series, the_range, the_gauged, the_compound, variable, ranged_variable, pnil, pcons}
use Rattle.terms.specs.Accepted.{Sound, Sounds, AcceptedRule}
use Rattle.basics.proofs.ListLaws.{all_join}
use Rattle.patterns.specs.views.Note.{Note}
use Rattle.sheet.specs.views.Noted.{pattern_notes, patterns_notes, rule_notes}
use Rattle.patterns.specs.views.NoteCode.{Fitting}
use Rattle.pairs.specs.views.NoteVariables.{Placed}
use Rattle.sheet_tests.proofs.NotedTests.{rule_placed}

-- The fields of a note fit.
abbrev pub NoteFits : Note → Type 0
NoteFits n = Fitting n.what

mutual
  -- The fields of sound patterns' notes fit.
  pattern_fits : (p : Pattern) (r below b : ℕ) → Sound p r → All NoteFits (pattern_notes p below b)
  pattern_fits anything r below b sound = tt
  pattern_fits (the_symbol a) r below b sound = (sound.1, tt)
  pattern_fits (the_series l h) r below b sound = ((omega (arith, sound.1, sound.2), sound.2), tt)
  pattern_fits (the_range l h) r below b sound = ((omega (arith, sound.1, sound.2), sound.2), tt)
  pattern_fits (the_gauged g l h) r below b sound = ((sound.3, omega (arith, sound.1, sound.2), sound.2), tt)
  pattern_fits (the_compound a ps) r below b sound =
      ((sound.1, omega (arith, sound.3)), patterns_fit ps (pred r) (pred below) (suc b) sound.4)
  pattern_fits (variable v) r below b sound = (sound.1, tt)
  pattern_fits (ranged_variable v l h) r below b sound =
      ((sound.3, omega (arith, sound.1, sound.2), sound.2), tt)

  patterns_fit : (ps : Patterns) (r below b : ℕ) → Sounds ps r → All NoteFits (patterns_notes ps below b)
  patterns_fit pnil r below b sound = tt
  patterns_fit (pcons p ps) r below b sound =
      let next = b + stride (suc below) in
      all_join NoteFits (pattern_notes p below b) (patterns_notes ps below next) (pattern_fits p r below b sound.0)
      (patterns_fit ps r below next sound.1)

module _ {arity : ℕ} {rule : Patterns} (accepted : AcceptedRule arity rule) where
  -- The fields of an accepted rule's notes fit,
  pub rule_fits : All NoteFits (rule_notes rule)
  rule_fits = patterns_fit rule 4 3 0 accepted.sound

  -- and their places are among the 680.
  pub rule_notes_placed : arity ≤ 8 → All Placed (rule_notes rule)
  rule_notes_placed few = rule_placed arity rule accepted few
