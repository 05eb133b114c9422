-- The bytes that spell an accepted pattern or rule are read as it.
use Prim.Native.Nat.{ℕ, zero, suc, ◌+◌, ◌≤◌, ◌<◌}
use mathlib.Core.Path.{◌≡◌, refl, sym, ap, ◌∙◌}
use mathlib.Core.List.{List, [], ◌∷◌, ◌++◌, append_assoc}
use native.Mathlib.Omega.{arith}
use lib.ListN.{length, length-append}
use borrow.Author.Tests.{le-leb, lt-leb}
use Rattle.records.specs.Fields.{wide_then}
use Rattle.records.specs.Reading.{took, refused, ask, after, and_then}
use Rattle.records.proofs.Rows.{row_none}
use Rattle.records.proofs.Spelling.{row_joined}
use Rattle.basics.specs.Lists.{All}
use Rattle.terms.specs.Term.{Wide}
use Rattle.terms.specs.Pattern.{Pattern, Patterns, count_patterns, anything, the_symbol, the_series, the_range, the_gauged, the_compound, variable, ranged_variable, pnil, pcons}
use Rattle.terms.specs.Accepted.{Sound, Sounds, AcceptedRule}
use Rattle.patterns.specs.declared.PatternRecord.{PatternRecord}
use Rattle.patterns.specs.declared.PatternRecord.TheVariants.{Anything, Symbol, Range, Compound, Variable, Ranged, Series, Gauged}
use Rattle.sheet.specs.ReadSheet.{read_pattern, read_patterns, ranges_meet, read_rule, read_rules}
use Rattle.sheet.specs.WriteSheet.{pattern_bytes, patterns_bytes, rules_bytes}
use Rattle.patterns.proofs.HeadBytes.{WideFields, spelled_head}
use Rattle.sheet.proofs.Compounds.{compound_of, pattern_by_head}
use Rattle.sheet.proofs.RangesMeet.{common_meet}
use Rattle.patterns.specs.views.PatternRecord.{record_spelling, on_record, on_head}

-- A pattern has a level, and so has each of a row.
sound_level : (p : Pattern) (r : ℕ) → Sound p r → 1 ≤ r
sound_level anything r h = h
sound_level (the_symbol a) r h = h.0
sound_level (the_series l u) r h = h.0
sound_level (the_range l u) r h = h.0
sound_level (the_gauged g l u) r h = h.0
sound_level (the_compound a ps) r h = h.0
sound_level (variable v) r h = h.0
sound_level (ranged_variable v l u) r h = h.0

pub sounds_level : (ps : Patterns) (r : ℕ) → Sounds ps r → 1 ≤ count_patterns ps → 1 ≤ r
sounds_level pnil r h enough = absurd (omega arith)
sounds_level (pcons p ps) r h enough = sound_level p r h.0

-- Bytes that spell a record are read by it.
by_record
    : (below : ℕ) (r : PatternRecord) (rest : List ℕ) → WideFields r
    → read_pattern below (record_spelling r ++ rest) ≡ on_record (compound_of below (record_spelling r ++ rest)) r
by_record below r rest wide =
    let s = record_spelling r ++ rest in
    pattern_by_head below s ∙ ap (on_head (compound_of below s)) (spelled_head r rest wide)

-- "Question 7 applies to it": a series with low above high is refused.
pub series_low_above_high
    : (below l h : ℕ) (rest : List ℕ) → Wide l → Wide h → h < l
    → read_pattern below (0x26 ∷ wide_then l (wide_then h rest)) ≡ refused 7
series_low_above_high below l h rest wideLow wide_high less =
    by_record below (Series l h) rest (wideLow, wide_high) ∙ rw (lt-leb l h less)

-- "Questions 4, 7 and 14 take the new records in": so is a range on a gauge.
pub gauged_low_above_high
    : (below g l h : ℕ) (rest : List ℕ) → g < 256 → Wide l → Wide h → h < l
    → read_pattern below (0x27 ∷ g ∷ wide_then l (wide_then h rest)) ≡ refused 7
gauged_low_above_high below g l h rest byte wideLow wide_high less =
    by_record below (Gauged g l h) rest (wideLow, wide_high, byte) ∙ rw (lt-leb l h less)

mutual
  -- The bytes of a sound pattern, with so many levels below it, are read as it.
  pub pattern_read_lem
      : (p : Pattern) (below : ℕ) (rest : List ℕ) → Sound p (suc below)
      → read_pattern below (pattern_bytes p ++ rest) ≡ took (length (pattern_bytes p)) p
  pattern_read_lem anything below rest sound = by_record below Anything rest tt
  pattern_read_lem (the_symbol a) below rest sound = by_record below (Symbol a) rest sound.1
  pattern_read_lem (the_series l h) below rest sound =
      by_record below (Series l h) rest (omega (arith, sound.1, sound.2), sound.2) ∙ rw (le-leb l h sound.1)
  pattern_read_lem (the_range l h) below rest sound =
      by_record below (Range l h) rest (omega (arith, sound.1, sound.2), sound.2) ∙ rw (le-leb l h sound.1)
  pattern_read_lem (the_gauged g l h) below rest sound =
      by_record below (Gauged g l h) rest (omega (arith, sound.1, sound.2), sound.2, sound.3)
      ∙ rw (le-leb l h sound.1)
  pattern_read_lem (the_compound a ps) zero rest sound = absurd (omega (arith, sounds_level ps 0 sound.4 sound.2))
  pattern_read_lem (the_compound a ps) (suc below) rest sound =
      let n = count_patterns ps in
      let bytes = length (patterns_bytes ps) in
      let all : 4 + bytes ≡ suc (suc (suc (suc bytes))) = omega arith in
      by_record (suc below) (Compound a n) (patterns_bytes ps ++ rest) sound.1
      ∙ rw (le-leb 1 n sound.2, le-leb n 4 sound.3)
      (ap (after 4 (the_compound a)) (patterns_read_lem ps below rest sound.4)
      ∙ ap (λ (k : ℕ). took k (the_compound a ps)) all)
  pattern_read_lem (variable v) below rest sound =
      by_record below (Variable v) rest tt ∙ rw (le-leb v 15 (omega (arith, sound.1)))
  pattern_read_lem (ranged_variable v l h) below rest sound =
      by_record below (Ranged v l h) rest (omega (arith, sound.1, sound.2), sound.2)
      ∙ rw (le-leb l h sound.1, le-leb v 15 (omega (arith, sound.3)))

  -- So are the bytes of a row of sound patterns.
  pub patterns_read_lem
      : (ps : Patterns) (below : ℕ) (rest : List ℕ) → Sounds ps (suc below)
      → read_patterns below (count_patterns ps) (patterns_bytes ps ++ rest) ≡ took (length (patterns_bytes ps)) ps
  patterns_read_lem pnil below rest sound = row_none pnil pcons (read_pattern below) 0 rest refl
  patterns_read_lem (pcons p ps) below rest sound =
      ap (read_patterns below (suc (count_patterns ps))) (append_assoc (pattern_bytes p) (patterns_bytes ps) rest)
      ∙ row_joined pnil pcons (read_pattern below) (count_patterns ps) (pattern_bytes p) (patterns_bytes ps ++ rest)
      (pattern_read_lem p below (patterns_bytes ps ++ rest) sound.0) (patterns_read_lem ps below rest sound.1)
      ∙ ap (λ (k : ℕ). took k (pcons p ps)) (sym (length-append (pattern_bytes p) (patterns_bytes ps)))

-- So are the bytes of an accepted rule.
pub rule_read_lem
    : (arity : ℕ) (rule : Patterns) (rest : List ℕ) → AcceptedRule arity rule
    → read_rule arity (patterns_bytes rule ++ rest) ≡ took (length (patterns_bytes rule)) rule
rule_read_lem arity rule rest accepted =
    let s = patterns_bytes rule ++ rest in
    ap (λ x. and_then x (λ a rule. ask 9 (ranges_meet rule) (took a rule)))
    (ap (λ (n : ℕ). read_patterns 3 n s) (sym accepted.arguments) ∙ patterns_read_lem rule 3 rest accepted.sound)
    ∙ ap (λ b. ask 9 b (took (length (patterns_bytes rule)) rule)) (common_meet rule accepted.common)

-- So are the bytes of a row of accepted rules.
pub rules_read_lem
    : (arity : ℕ) (rules : List Patterns) (rest : List ℕ) → All (AcceptedRule arity) rules
    → read_rules arity (length rules) (rules_bytes rules ++ rest) ≡ took (length (rules_bytes rules)) rules
rules_read_lem arity [] rest accepted = row_none [] ◌∷◌ (read_rule arity) 0 rest refl
rules_read_lem arity (rule ∷ rules) rest accepted =
    ap (read_rules arity (suc (length rules))) (append_assoc (patterns_bytes rule) (rules_bytes rules) rest)
    ∙ row_joined [] ◌∷◌ (read_rule arity) (length rules) (patterns_bytes rule) (rules_bytes rules ++ rest)
    (rule_read_lem arity rule (rules_bytes rules ++ rest) accepted.0) (rules_read_lem arity rules rest accepted.1)
    ∙ ap (λ (k : ℕ). took k (rule ∷ rules)) (sym (length-append (patterns_bytes rule) (rules_bytes rules)))
