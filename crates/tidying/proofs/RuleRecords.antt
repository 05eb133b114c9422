-- The records of an accepted rule: its bytes are gone over by them, there are at most 680, and they fit.
use Prim.Native.Nat.{ℕ, suc, pred, ◌+◌, ◌-◌, ◌*◌, ◌≤◌}
use mathlib.Core.Path.{◌≡◌, refl, sym, ap, subst, ◌∙◌}
use mathlib.Core.List.{List, ◌∷◌, ◌++◌, append_assoc, append-nil}
use native.Mathlib.Nat.{mul-le-mul_right, suc-mul}
use native.Mathlib.Omega.{arith}
use lib.ListN.{length, drop, length-append}
use Rattle.basics.specs.Lists.{All}
use Rattle.basics.proofs.ListLaws.{all_join}
use Rattle.places.specs.Numbering.{stride}
use Rattle.terms.specs.Pattern.{Pattern, Patterns, count_patterns, pnil, pcons}
use Rattle.terms.specs.Pattern.{anything, the_symbol, the_series, the_range, the_gauged, the_compound, variable, ranged_variable}
use Rattle.terms.specs.Accepted.{Sound, Sounds, AcceptedRule}
use Rattle.patterns.specs.declared.PatternRecord.{PatternRecord}
use Rattle.patterns.specs.declared.PatternRecord.TheVariants.{Anything, Symbol, Series, Range, Compound, Variable, Ranged, Gauged}
use Rattle.sheet.specs.WriteSheet.{pattern_bytes, patterns_bytes}
use Rattle.patterns.specs.views.NoteCode.{Fitting}
use Rattle.patterns.specs.views.PatternRecord.{record_bytes, record_spelling}
use Rattle.patterns.proofs.HeadBytes.{WideFields, spelled_head}
use Rattle.sheet.proofs.SpelledReads.{sounds_level}
use Rattle.tidy.proofs.TidyRecords.{pattern_records, patterns_records}
use Rattle.rule_rows.specs.views.Row.{arguments_of, row_records, rule_records}
use Rattle.rule_rows.proofs.NextRecords.{row_more, row_last}

-- Behind the bytes that spell a record come the others.
spelled_rest : (r : PatternRecord) (rest : List ℕ) → drop (record_bytes r) (record_spelling r ++ rest) ≡ rest
spelled_rest Anything rest = refl
spelled_rest (Symbol a) rest = refl
spelled_rest (Series l h) rest = refl
spelled_rest (Gauged g l h) rest = refl
spelled_rest (Range l h) rest = refl
spelled_rest (Compound a n) rest = refl
spelled_rest (Variable v) rest = refl
spelled_rest (Ranged v l h) rest = refl

-- Bytes that begin with those of a record go on with its arguments and the patterns behind it.
spelled_row
    : (r : PatternRecord) (most k : ℕ) (rest : List ℕ) → WideFields r → 1 ≤ most
    → row_records most (suc k) (record_spelling r ++ rest) ≡ r ∷ row_records (most - 1) (arguments_of r + k) rest
spelled_row r most k rest wide some =
    let patterns : suc k - 1 + arguments_of r ≡ arguments_of r + k = omega arith in
    row_more most (suc k) (record_spelling r ++ rest) some (omega arith) (spelled_head r rest wide)
    ∙ (λ j. r ∷ row_records (most - 1) (patterns j) (spelled_rest r rest j))

-- A record without arguments.
leaf_row
    : (r : PatternRecord) (most k : ℕ) (rest : List ℕ) → WideFields r → arguments_of r ≡ 0 → 1 ≤ most
    → row_records most (suc k) (record_spelling r ++ rest) ≡ r ∷ row_records (most - 1) k rest
leaf_row r most k rest wide none some =
    let patterns : arguments_of r + k ≡ k = omega arith in
    spelled_row r most k rest wide some ∙ (λ j. r ∷ row_records (most - 1) (patterns j) rest)

mutual
  -- The bytes of a sound pattern are gone over by its records, and so are those of a row.
  pattern_row_lem
      : (p : Pattern) (r most k : ℕ) (rest : List ℕ) → Sound p r → length (pattern_records p) ≤ most
      → row_records most (suc k) (pattern_bytes p ++ rest)
      ≡ pattern_records p ++ row_records (most - length (pattern_records p)) k rest
  pattern_row_lem anything r most k rest sound room = leaf_row Anything most k rest tt refl room
  pattern_row_lem (the_symbol a) r most k rest sound room = leaf_row (Symbol a) most k rest sound.1 refl room
  pattern_row_lem (the_series l h) r most k rest sound room =
      leaf_row (Series l h) most k rest (omega (arith, sound.1, sound.2), sound.2) refl room
  pattern_row_lem (the_range l h) r most k rest sound room =
      leaf_row (Range l h) most k rest (omega (arith, sound.1, sound.2), sound.2) refl room
  pattern_row_lem (the_gauged g l h) r most k rest sound room =
      leaf_row (Gauged g l h) most k rest (omega (arith, sound.1, sound.2), sound.2, sound.3) refl room
  pattern_row_lem (the_compound a ps) r most k rest sound room =
      let size : most - 1 - length (patterns_records ps) ≡ most - suc (length (patterns_records ps)) = omega arith in
      let n = count_patterns ps in
      spelled_row (Compound a n) most k (patterns_bytes ps ++ rest) sound.1 (omega arith)
      ∙ ap (Compound a n ∷◌)
      (patterns_row ps (pred r) (most - 1) k rest sound.4 (omega arith)
      ∙ ap (λ (m : ℕ). patterns_records ps ++ row_records m k rest) size)
  pattern_row_lem (variable v) r most k rest sound room = leaf_row (Variable v) most k rest tt refl room
  pattern_row_lem (ranged_variable v l h) r most k rest sound room =
      leaf_row (Ranged v l h) most k rest (omega (arith, sound.1, sound.2), sound.2) refl room

  patterns_row
      : (ps : Patterns) (r most k : ℕ) (rest : List ℕ) → Sounds ps r → length (patterns_records ps) ≤ most
      → row_records most (count_patterns ps + k) (patterns_bytes ps ++ rest)
      ≡ patterns_records ps ++ row_records (most - length (patterns_records ps)) k rest
  patterns_row pnil r most k rest sound room =
      let none : 0 + k ≡ k = omega arith in
      let all : most ≡ most - 0 = omega arith in
      λ j. row_records (all j) (none j) rest
  patterns_row (pcons p ps) r most k rest sound room =
      let one = pattern_records p in
      let others = patterns_records ps in
      let n = count_patterns ps in
      let both : length (one ++ others) ≡ length one + length others = length-append one others in
      let more : suc n + k ≡ suc (n + k) = omega arith in
      let left : most - length one - length others ≡ most - length (one ++ others) = omega (arith, both) in
      (λ j. row_records most (more j) (append_assoc (pattern_bytes p) (patterns_bytes ps) rest j))
      ∙ pattern_row_lem p r most (n + k) (patterns_bytes ps ++ rest) sound.0 (omega (arith, both))
      ∙ ap (one ++◌)
      (patterns_row ps r (most - length one) k rest sound.1 (omega (arith, both))
      ∙ ap (λ (m : ℕ). others ++ row_records m k rest) left)
      ∙ sym (append_assoc one others (row_records (most - length (one ++ others)) k rest))

mutual
  -- A sound pattern has at most a record for each of its places, and so has a row.
  pattern_size : (p : Pattern) (below : ℕ) → Sound p (suc below) → length (pattern_records p) ≤ stride (suc below)
  pattern_size anything below sound = omega arith
  pattern_size (the_symbol a) below sound = omega arith
  pattern_size (the_series l h) below sound = omega arith
  pattern_size (the_range l h) below sound = omega arith
  pattern_size (the_gauged g l h) below sound = omega arith
  pattern_size (the_compound a ps) below sound =
      let deep = sounds_level ps below sound.4 sound.2 in
      let level : suc (pred below) ≡ below = omega arith in
      let inside : count_patterns ps * stride (suc (pred below)) ≤ 4 * stride below =
      subst (λ (r : ℕ). count_patterns ps * stride r ≤ 4 * stride below) (sym level)
      (mul-le-mul_right (stride below) sound.3) in
      omega (arith, inside, patterns_size ps (pred below) (subst (Sounds ps) (sym level) sound.4))
  pattern_size (variable v) below sound = omega arith
  pattern_size (ranged_variable v l h) below sound = omega arith

  patterns_size
      : (ps : Patterns) (below : ℕ) → Sounds ps (suc below)
      → length (patterns_records ps) ≤ count_patterns ps * stride (suc below)
  patterns_size pnil below sound = omega arith
  patterns_size (pcons p ps) below sound =
      omega (
        arith,
        length-append (pattern_records p) (patterns_records ps),
        pattern_size p below sound.0,
        patterns_size ps below sound.1,
        suc-mul (count_patterns ps) (stride (suc below)),
      )

mutual
  -- The fields of a sound pattern's records fit, and so do those of a row.
  pattern_fits : (p : Pattern) (r : ℕ) → Sound p r → All Fitting (pattern_records p)
  pattern_fits anything r sound = (tt, tt)
  pattern_fits (the_symbol a) r sound = (sound.1, tt)
  pattern_fits (the_series l h) r sound = ((omega (arith, sound.1, sound.2), sound.2), tt)
  pattern_fits (the_range l h) r sound = ((omega (arith, sound.1, sound.2), sound.2), tt)
  pattern_fits (the_gauged g l h) r sound = ((sound.3, omega (arith, sound.1, sound.2), sound.2), tt)
  pattern_fits (the_compound a ps) r sound = ((sound.1, omega (arith, sound.3)), patterns_fit ps (pred r) sound.4)
  pattern_fits (variable v) r sound = (sound.1, tt)
  pattern_fits (ranged_variable v l h) r sound = ((sound.3, omega (arith, sound.1, sound.2), sound.2), tt)

  patterns_fit : (ps : Patterns) (r : ℕ) → Sounds ps r → All Fitting (patterns_records ps)
  patterns_fit pnil r sound = tt
  patterns_fit (pcons p ps) r sound =
      all_join Fitting (pattern_records p) (patterns_records ps) (pattern_fits p r sound.0) (patterns_fit ps r sound.1)

module _ (arity : ℕ) (rule : Patterns) (accepted : AcceptedRule arity rule) where
  pub records_fit : All Fitting (patterns_records rule)
  records_fit = patterns_fit rule 4 accepted.sound

  -- The bytes of an accepted rule are gone over by its records.
  pub rule_row : arity ≤ 8 → (rest : List ℕ) → rule_records arity (patterns_bytes rule ++ rest) ≡ patterns_records rule
  rule_row few rest =
      let rs = patterns_records rule in
      let all : arity ≡ count_patterns rule + 0 = omega (arith, accepted.arguments) in
      let room : length rs ≤ 680 =
      omega (arith, patterns_size rule 3 accepted.sound, accepted.arguments, mul-le-mul_right 85 few) in
      ap (λ (n : ℕ). row_records 680 n (patterns_bytes rule ++ rest)) all
      ∙ patterns_row rule 4 680 0 rest accepted.sound room
      ∙ ap (rs ++◌) (row_last (680 - length rs) 0 rest refl)
      ∙ append-nil rs
