-- The places of a rule's notes ascend: each note has a place of its own, so 680 entries hold the notes of any rule.
use Prim.Native.Nat.{ℕ, pred, suc, ◌+◌, ◌*◌, ◌≤◌}
use mathlib.Core.Path.{◌≡◌, sym, subst}
use mathlib.Core.List.{List, [], ◌∷◌, ◌++◌}
use native.Mathlib.Nat.{mul-le-mul_right, suc-mul}
use native.Mathlib.Omega.{arith}
use Rattle.places.specs.Numbering.{stride}
use Rattle.terms.specs.Pattern.{Pattern, Patterns, count_patterns, anything, the_symbol, the_series, the_range, the_gauged, the_compound, variable, ranged_variable, pnil, pcons}
use Rattle.terms.specs.Accepted.{Sound, Sounds, AcceptedRule}
use Rattle.patterns.specs.views.Note.{Note}
use Rattle.sheet.specs.views.Noted.{pattern_notes, patterns_notes, rule_notes}
use Rattle.sheet.proofs.SpelledReads.{sounds_level}

-- The places of the notes are at least low, ascend strictly, and are below high.
abbrev pub Ascending : ℕ → List Note → ℕ → Type 0
Ascending low [] high = low ≤ high
Ascending low (n ∷ notes) high = (low ≤ n.place) × Ascending (suc n.place) notes high

-- With room to spare on either side.
pub ascending_wider
    : (notes : List Note) (low low' high high' : ℕ) → low' ≤ low → high ≤ high' → Ascending low notes high
    → Ascending low' notes high'
ascending_wider [] low low' high high' below above h = omega arith
ascending_wider (n ∷ notes) low low' high high' below above h =
    (omega (arith, h.0), ascending_wider notes (suc n.place) (suc n.place) high high' (omega arith) above h.1)

-- Notes that ascend, then notes that ascend from there.
pub ascending_append
    : (xs ys : List Note) (low middle high : ℕ) → Ascending low xs middle → Ascending middle ys high
    → Ascending low (xs ++ ys) high
ascending_append [] ys low middle high first second = ascending_wider ys middle low high high first (omega arith) second
ascending_append (x ∷ xs) ys low middle high first second =
    (first.0, ascending_append xs ys (suc x.place) middle high first.1 second)

mutual
  -- The notes of a sound pattern ascend within its places.
  pub pattern_places
      : (p : Pattern) (below b : ℕ) → Sound p (suc below)
      → Ascending b (pattern_notes p below b) (b + stride (suc below))
  pattern_places anything below b sound = omega arith
  pattern_places (the_symbol a) below b sound = omega arith
  pattern_places (the_series l h) below b sound = omega arith
  pattern_places (the_range l h) below b sound = omega arith
  pattern_places (the_gauged g l h) below b sound = omega arith
  pattern_places (the_compound a ps) below b sound =
      let deep = sounds_level ps below sound.4 sound.2 in
      let level : suc (pred below) ≡ below = omega arith in
      let places = count_patterns ps * stride (suc (pred below)) in
      let inside : places ≤ 4 * stride below =
      subst (λ (r : ℕ). count_patterns ps * stride r ≤ 4 * stride below) (sym level)
      (mul-le-mul_right (stride below) sound.3) in (
        omega arith,
        ascending_wider (patterns_notes ps (pred below) (suc b)) (suc b) (suc b) (suc b + places)
            (b + stride (suc below)) (omega arith)
            (omega (arith, inside))
            (patterns_places ps (pred below) (suc b) (subst (Sounds ps) (sym level) sound.4)),
      )
  pattern_places (variable v) below b sound = omega arith
  pattern_places (ranged_variable v l h) below b sound = omega arith

  -- So do those of a row of sound patterns.
  pub patterns_places
      : (ps : Patterns) (below b : ℕ) → Sounds ps (suc below)
      → Ascending b (patterns_notes ps below b) (b + count_patterns ps * stride (suc below))
  patterns_places pnil below b sound = omega arith
  patterns_places (pcons p ps) below b sound =
      let places = stride (suc below) in
      let next = b + places in
      let others = count_patterns ps * places in
      ascending_append (pattern_notes p below b) (patterns_notes ps below next) b next
      (b + suc (count_patterns ps) * places)
      (pattern_places p below b sound.0)
      (ascending_wider (patterns_notes ps below next) next next (next + others) (b + suc (count_patterns ps) * places)
      (omega arith)
      (omega (arith, suc-mul (count_patterns ps) places)) (patterns_places ps below next sound.1))

-- The places of an accepted rule's notes ascend strictly and are below 680.
pub notes_places
    : (arity : ℕ) (rule : Patterns) → AcceptedRule arity rule → arity ≤ 8 → Ascending 0 (rule_notes rule) 680
notes_places arity rule accepted few =
    ascending_wider (rule_notes rule) 0 0 (0 + count_patterns rule * 85) 680 (omega arith)
    (omega (arith, accepted.arguments))
    (patterns_places rule 3 0 accepted.sound)
