-- What is read from bytes is accepted: patterns, rules and sheets.
use Prim.Native.Nat.{ℕ, zero, suc, pred, ◌≤◌}
use mathlib.Core.Path.{◌≡◌, refl}
use mathlib.Core.List.{List, [], ◌∷◌}
use native.Mathlib.Omega.{arith}
use lib.ListN.{length, drop}
use Rattle.records.specs.Fields.{AreBytes}
use Rattle.records.specs.Reading.{took}
use Rattle.records.proofs.Rows.{row_size}
use Rattle.records.proofs.Spelling.{row_holds}
use Rattle.basics.specs.Lists.{All}
use Rattle.terms.specs.Pattern.{Pattern, Patterns, pnil, pcons}
use Rattle.terms.specs.Accepted.{Sound, Sounds, AcceptedRule}
use Rattle.sheet.specs.Sheet.{Sheet, SoundSheet}
use Rattle.sheet.specs.ReadSheet.{read_pattern, read_patterns, read_rule, read_rules, read_sheet}
use Rattle.patterns.proofs.HeadBytes.{head_wide}
use Rattle.sheet.proofs.Compounds.{row_count}
use Rattle.sheet.proofs.RangesMeet.{meet_common}
use Rattle.sheet.proofs.SheetReads.{rule_is, sheet_is}
use Rattle.sheet.proofs.PatternReads.{PatternIs, is_anything, is_symbol, is_range, is_compound, is_variable, is_ranged, is_series, is_gauged, pattern_is}
use Rattle.records.proofs.ByteLists.{bytes_drop}

-- A pattern is sound where the rows below it are.
sound_from
    : (below : ℕ) (s : List ℕ) {k : ℕ} {p : Pattern} → AreBytes s
    → (1 ≤ below → (n b : ℕ) (ps : Patterns) → read_patterns (pred below) n (drop 4 s) ≡ took b ps → Sounds ps below)
    → PatternIs below s k p → Sound p (suc below)
sound_from below s bytes rows (is_anything head) = omega arith
sound_from below s bytes rows (is_symbol head) = (omega arith, head_wide s bytes head)
sound_from below s bytes rows (is_range head range) = (omega arith, range, (head_wide s bytes head).1)
sound_from below s bytes rows (is_compound {n = n} {b = b} {ps = ps} head deep enough few read) =
    let count = row_count (pred below) n (drop 4 s) read in
    (omega arith, head_wide s bytes head, omega arith, omega arith, rows deep n b ps read)
sound_from below s bytes rows (is_variable head small) = (omega arith, omega arith)
sound_from below s bytes rows (is_ranged head range small) = (omega arith, range, (head_wide s bytes head).1, omega arith)
sound_from below s bytes rows (is_series head range) = (omega arith, range, (head_wide s bytes head).1)
sound_from below s bytes rows (is_gauged head range) =
    let fields = head_wide s bytes head in (omega arith, range, fields.1, fields.2)

-- A row of patterns is sound where each is.
row_sound
    : (below : ℕ) → ((s : List ℕ) (k : ℕ) (p : Pattern) → AreBytes s → read_pattern below s ≡ took k p
    → Sound p (suc below))
    → (n : ℕ) (s : List ℕ) {k : ℕ} {ps : Patterns} → AreBytes s → read_patterns below n s ≡ took k ps
    → Sounds ps (suc below)
row_sound below each n s bytes e =
    row_holds pnil pcons (read_pattern below) AreBytes bytes_drop (λ (p : Pattern). Sound p (suc below))
    (λ (ps : Patterns). Sounds ps (suc below)) tt (λ p ps first rest. (first, rest)) each n s bytes e

-- A pattern that is read from bytes, with so many levels below it, is sound.
pub pattern_sound
    : (below : ℕ) (s : List ℕ) {k : ℕ} {p : Pattern} → AreBytes s → read_pattern below s ≡ took k p
    → Sound p (suc below)
pattern_sound zero s bytes e = sound_from zero s bytes (λ deep n b ps read. absurd (omega arith)) (pattern_is zero s e)
pattern_sound (suc below) s bytes e =
    sound_from (suc below) s bytes
    (λ deep n b ps read.
    row_sound below (λ s k p good read. pattern_sound below s good read) n (drop 4 s) (bytes_drop 4 s bytes) read)
    (pattern_is (suc below) s e)

-- So is a row of patterns.
pub patterns_sound
    : (below n : ℕ) (s : List ℕ) {k : ℕ} {ps : Patterns} → AreBytes s → read_patterns below n s ≡ took k ps
    → Sounds ps (suc below)
patterns_sound below n s bytes e = row_sound below (λ s k p good read. pattern_sound below s good read) n s bytes e

-- A rule that is read from bytes is accepted.
pub rule_sound
    : (arity : ℕ) (s : List ℕ) {k : ℕ} {rule : Patterns} → AreBytes s → read_rule arity s ≡ took k rule
    → AcceptedRule arity rule
rule_sound arity s {rule = rule} bytes e =
    let (read, meet) = rule_is arity s e in
    let sounds = patterns_sound 3 arity s bytes read in
    record { arguments = row_count 3 arity s read; sound = sounds; common = meet_common rule 4 sounds meet }

-- So is each of a row of rules, of which there are as many as are asked for.
rules_sound
    : (arity n : ℕ) (s : List ℕ) {k : ℕ} {rules : List Patterns} → AreBytes s → read_rules arity n s ≡ took k rules
    → All (AcceptedRule arity) rules
rules_sound arity n s bytes e =
    row_holds [] ◌∷◌ (read_rule arity) AreBytes bytes_drop (AcceptedRule arity) (All (AcceptedRule arity)) tt
    (λ rule rules first rest. (first, rest)) (λ s k rule good read. rule_sound arity s good read) n s bytes e

-- A sheet that is read from bytes is sound.
pub sheet_sound : (s : List ℕ) {k : ℕ} {sheet : Sheet} → AreBytes s → read_sheet s ≡ took k sheet → SoundSheet sheet
sheet_sound s bytes e =
    let is = sheet_is s e in
    let count = row_size [] ◌∷◌ (read_rule _) length refl (λ rule rules. refl) is.count (drop 3 s) is.rules_read in
    record {
      some_argument = is.header.some_argument;
      few_arguments = is.header.few_arguments;
      few_rules = omega (arith, count, is.header.few_rules);
      accepted_rules = rules_sound _ is.count (drop 3 s) (bytes_drop 3 s bytes) is.rules_read;
    }
