-- What is read from bytes is spelled by the bytes that it took: patterns and rules.
use Prim.Native.Nat.{ℕ, zero, suc, pred, ◌+◌, ◌≤◌}
use mathlib.Core.Path.{◌≡◌, refl, sym, subst}
use mathlib.Core.List.{List, [], ◌∷◌, ◌++◌}
use native.Mathlib.Omega.{arith}
use lib.ListN.{drop}
use Rattle.records.specs.Fields.{AreBytes}
use Rattle.records.specs.Reading.{took}
use Rattle.records.proofs.Spelling.{Spelled, spelled_join, row_spelled}
use Rattle.terms.specs.Pattern.{Pattern, Patterns, pnil, pcons}
use Rattle.patterns.specs.declared.PatternRecord.TheVariants.{Compound}
use Rattle.sheet.specs.ReadSheet.{read_pattern, read_patterns, read_rule, read_rules}
use Rattle.sheet.specs.WriteSheet.{pattern_bytes, patterns_bytes, rules_bytes}
use Rattle.patterns.proofs.HeadBytes.{head_spelled}
use Rattle.patterns.specs.views.PatternRecord.{record_spelling}
use Rattle.sheet.proofs.Compounds.{row_count}
use Rattle.sheet.proofs.PatternReads.{PatternIs, is_anything, is_symbol, is_range, is_compound, is_variable, is_ranged, is_series, is_gauged, pattern_is}
use Rattle.sheet.proofs.SheetReads.{rule_is}
use Rattle.records.proofs.ByteLists.{bytes_drop}

-- A pattern is spelled where the rows below it are.
spelled_from
    : (below : ℕ) (s : List ℕ) {k : ℕ} {p : Pattern} → AreBytes s
    → (1 ≤ below → (n b : ℕ) (ps : Patterns) → read_patterns (pred below) n (drop 4 s) ≡ took b ps
    → Spelled (patterns_bytes ps) b (drop 4 s))
    → PatternIs below s k p → Spelled (pattern_bytes p) k s
spelled_from below s bytes rows (is_anything head) = record { begins = head_spelled s bytes head; many = refl }
spelled_from below s bytes rows (is_symbol head) = record { begins = head_spelled s bytes head; many = refl }
spelled_from below s bytes rows (is_range head range) = record { begins = head_spelled s bytes head; many = refl }
spelled_from below s bytes rows (is_compound {a = a} {n = n} {b = b} {ps = ps} head deep enough few read) =
    let own : Spelled (record_spelling (Compound a n)) 4 s =
    record { begins = head_spelled s bytes head; many = refl } in
    subst (λ (i : ℕ). Spelled (record_spelling (Compound a i) ++ patterns_bytes ps) (4 + b) s)
    (sym (row_count (pred below) n (drop 4 s) read)) (spelled_join own (rows deep n b ps read))
spelled_from below s bytes rows (is_variable head small) = record { begins = head_spelled s bytes head; many = refl }
spelled_from below s bytes rows (is_ranged head range small) = record { begins = head_spelled s bytes head; many = refl }
spelled_from below s bytes rows (is_series head range) = record { begins = head_spelled s bytes head; many = refl }
spelled_from below s bytes rows (is_gauged head range) = record { begins = head_spelled s bytes head; many = refl }

-- A row of patterns is spelled where each is.
row_bytes
    : (below : ℕ)
    → ((s : List ℕ) (k : ℕ) (p : Pattern) → AreBytes s → read_pattern below s ≡ took k p
    → Spelled (pattern_bytes p) k s)
    → (n : ℕ) (s : List ℕ) {k : ℕ} {ps : Patterns} → AreBytes s → read_patterns below n s ≡ took k ps
    → Spelled (patterns_bytes ps) k s
row_bytes below each n s bytes e =
    row_spelled pnil pcons (read_pattern below) AreBytes bytes_drop pattern_bytes patterns_bytes refl (λ p ps. refl)
    each
    n s bytes e

-- A pattern that is read from bytes is spelled by those that it took.
pub pattern_spelled
    : (below : ℕ) (s : List ℕ) {k : ℕ} {p : Pattern} → AreBytes s → read_pattern below s ≡ took k p
    → Spelled (pattern_bytes p) k s
pattern_spelled zero s bytes e =
    spelled_from zero s bytes (λ deep n b ps read. absurd (omega arith)) (pattern_is zero s e)
pattern_spelled (suc below) s bytes e =
    spelled_from (suc below) s bytes
    (λ deep n b ps read.
    row_bytes below (λ s k p good read. pattern_spelled below s good read) n (drop 4 s) (bytes_drop 4 s bytes) read)
    (pattern_is (suc below) s e)

-- So is a row of patterns.
pub patterns_spelled
    : (below n : ℕ) (s : List ℕ) {k : ℕ} {ps : Patterns} → AreBytes s → read_patterns below n s ≡ took k ps
    → Spelled (patterns_bytes ps) k s
patterns_spelled below n s bytes e = row_bytes below (λ s k p good read. pattern_spelled below s good read) n s bytes e

-- So is a rule, and a row of rules.
pub rule_spelled
    : (arity : ℕ) (s : List ℕ) {k : ℕ} {rule : Patterns} → AreBytes s → read_rule arity s ≡ took k rule
    → Spelled (patterns_bytes rule) k s
rule_spelled arity s bytes e = patterns_spelled 3 arity s bytes (rule_is arity s e).0

pub rules_spelled
    : (arity n : ℕ) (s : List ℕ) {k : ℕ} {rules : List Patterns} → AreBytes s → read_rules arity n s ≡ took k rules
    → Spelled (rules_bytes rules) k s
rules_spelled arity n s bytes e =
    row_spelled [] ◌∷◌ (read_rule arity) AreBytes bytes_drop patterns_bytes rules_bytes refl (λ rule rules. refl)
    (λ s k rule good read. rule_spelled arity s good read) n s bytes e
