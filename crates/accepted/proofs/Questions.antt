-- A sheet is refused by one of its own questions, 1 to 11; no refusal has the number 0, which says that a sheet is accepted.
use Prim.Native.Nat.{ℕ, zero, suc, ◌+◌, ◌-◌}
use mathlib.Core.Bool.{Bool, true, false, ◌&&◌, cond}
use mathlib.Core.List.{List, [], ◌∷◌}
use native.Mathlib.Omega.{arith}
use lib.Dec.{leb, eqb}
use lib.ListN.{length, drop}
use Rattle.records.specs.Kinds.{kind_of, begins_with, is_whole}
use Rattle.records.specs.Fields.{byte_at, wide_at}
use Rattle.records.specs.Reading.{Reading, took, refused, ask, after}
use Rattle.terms.specs.Pattern.{Pattern, Patterns, the_range, the_gauged, the_series, the_compound, variable, ranged_variable, pnil, pcons}
use Rattle.sheet.specs.Sheet.{SheetHead, most_rules}
use Rattle.sheet.specs.ReadSheet.{pattern_of, read_pattern, read_patterns, ranges_meet, read_rule, end_sheet, read_header, read_rules, read_sheet}
use Rattle.sheet_tests.specs.SheetTests.{sheet_tests}
use Rattle.sheet_tests.specs.CheckSheet.{most_tests, accept_sheet}
use Rattle.accepted.proofs.Named.{Named, ask_named, then_named, after_named, row_named}
use Rattle.accepted.specs.Questions.{SheetQuestion}

-- So it is with the record of a pattern,
kind_named : (b : Bool) (x y : Reading Pattern) → Named SheetQuestion x → Named SheetQuestion y → Named SheetQuestion (cond b x y)
kind_named true x y h k = h
kind_named false x y h k = k

record_named
    : (compound : Reading Pattern) → Named SheetQuestion compound → (s : List ℕ)
    → Named SheetQuestion (ask 4 (is_whole 0x20 0x27 s) (pattern_of compound s))
record_named compound named s =
    let range = took 5 (the_range (wide_at s 1) (wide_at s 3)) in
    let name = took 2 (variable (byte_at s 1)) in
    let ranged = took 6 (ranged_variable (byte_at s 1) (wide_at s 2) (wide_at s 4)) in
    let series = took 5 (the_series (wide_at s 1) (wide_at s 3)) in
    let gauged = took 6 (the_gauged (byte_at s 1) (wide_at s 2) (wide_at s 4)) in
    let small = leb (byte_at s 1) 15 in
    ask_named SheetQuestion 4 (is_whole 0x20 0x27 s) (pattern_of compound s) (omega arith, omega arith)
    (kind_named (eqb (kind_of s) 0x20) _ _ tt
    (kind_named (eqb (kind_of s) 0x21) _ _ tt
    (kind_named (eqb (kind_of s) 0x22) _ _
    (ask_named SheetQuestion 7 (leb (wide_at s 1) (wide_at s 3)) range (omega arith, omega arith) tt)
    (kind_named (eqb (kind_of s) 0x23) _ _ named
    (kind_named (eqb (kind_of s) 0x24) _ _ (ask_named SheetQuestion 8 small name (omega arith, omega arith) tt)
    (kind_named (eqb (kind_of s) 0x25) _ _
    (ask_named SheetQuestion 7 (leb (wide_at s 2) (wide_at s 4)) (ask 8 small ranged) (omega arith, omega arith)
    (ask_named SheetQuestion 8 small ranged (omega arith, omega arith) tt))
    (kind_named (eqb (kind_of s) 0x26) _ _
    (ask_named SheetQuestion 7 (leb (wide_at s 1) (wide_at s 3)) series (omega arith, omega arith) tt)
    (kind_named (eqb (kind_of s) 0x27) _ _
    (ask_named SheetQuestion 7 (leb (wide_at s 2) (wide_at s 4)) gauged (omega arith, omega arith) tt)
    (omega arith, omega arith)))))))))

-- with a pattern,
pattern_named : (below : ℕ) (s : List ℕ) → Named SheetQuestion (read_pattern below s)
unfolding read_pattern
pattern_named zero s = record_named (refused 5) (omega arith, omega arith) s
pattern_named (suc below) s =
    let n = byte_at s 3 in
    let arguments : Reading Patterns = read_patterns below n (drop 4 s) in
    let all = after 4 (the_compound (wide_at s 1)) arguments in
    record_named (ask 6 (leb 1 n && leb n 4) all)
    (ask_named SheetQuestion 6 (leb 1 n && leb n 4) all (omega arith, omega arith)
    (after_named SheetQuestion 4 (the_compound (wide_at s 1)) arguments
    (row_named SheetQuestion pnil pcons (read_pattern below) (pattern_named below) n (drop 4 s))))
    s

-- with a rule,
rule_named : (arity : ℕ) (s : List ℕ) → Named SheetQuestion (read_rule arity s)
rule_named arity s =
    then_named SheetQuestion (read_patterns 3 arity s) (λ a rule. ask 9 (ranges_meet rule) (took a rule))
    (row_named SheetQuestion pnil pcons (read_pattern 3) (pattern_named 3) arity s)
    (λ a rule. ask_named SheetQuestion 9 (ranges_meet rule) (took a rule) (omega arith, omega arith) tt)

end_named : (arity bytes : ℕ) (x : Reading (List Patterns)) → Named SheetQuestion x → Named SheetQuestion (end_sheet arity bytes x)
end_named arity bytes (took a rules) h =
    ask_named SheetQuestion 10 (eqb a bytes) (took (3 + a) (record { arity = arity; rules = rules })) (omega arith, omega arith) tt
end_named arity bytes (refused q) h = h

-- with the record that a sheet begins with,
header_named : (s : List ℕ) → Named SheetQuestion (read_header s)
unfolding read_header
header_named s =
    let head : Reading SheetHead = took 3 (record { arity = byte_at s 1; rule_count = byte_at s 2 }) in
    let third = ask 3 (leb (byte_at s 2) most_rules) head in
    let few = leb 1 (byte_at s 1) && leb (byte_at s 1) 8 in
    ask_named SheetQuestion 1 (begins_with 0x10 s) (ask 2 few third) (omega arith, omega arith)
    (ask_named SheetQuestion 2 few third (omega arith, omega arith)
    (ask_named SheetQuestion 3 (leb (byte_at s 2) most_rules) head (omega arith, omega arith) tt))

-- and with a sheet.
pub sheet_named : (s : List ℕ) → Named SheetQuestion (accept_sheet s)
unfolding accept_sheet read_sheet
sheet_named s =
    let rules : ℕ → SheetHead → Reading (List Patterns) = λ a head. read_rules head.arity head.rule_count (drop a s) in
    then_named SheetQuestion (read_sheet s) (λ a sheet. ask 11 (leb (length (sheet_tests sheet.rules)) most_tests) (took a sheet))
    (then_named SheetQuestion (read_header s) (λ a head. end_sheet head.arity (length s - a) (rules a head)) (header_named s)
    (λ a head.
    end_named head.arity (length s - a) (rules a head)
    (row_named SheetQuestion [] ◌∷◌ (read_rule head.arity) (rule_named head.arity) head.rule_count (drop a s))))
    (λ a sheet. ask_named SheetQuestion 11 (leb (length (sheet_tests sheet.rules)) most_tests) (took a sheet) (omega arith, omega arith) tt)
