-- How a sheet is read: its arity and rules, or the number of the first question that gets a no (document 01, "Questions at the
-- counter", 1 to 10).
use Rattle.std.specs.Prelude.{ℕ, zero, suc, ◌+◌, ◌-◌, Bool, true, cond, ◌&&◌, List, [], ◌∷◌, length, drop, leb, eqb}
use Rattle.std.proofs.Math.Option.{Option, some, none}
use Rattle.records.specs.Kinds.{record_length, kind_of, begins_with, is_whole}
use Rattle.records.specs.Fields.{byte_at, wide_at}
use Rattle.records.specs.Reading.{Reading, took, refused, ask, after, and_then, read_row}
use Rattle.terms.specs.Pattern.{Pattern, Patterns, pnil, pcons}
use Rattle.terms.specs.Pattern.{anything, the_symbol, the_series, the_range, the_gauged, the_compound, variable, ranged_variable}
use Rattle.terms.specs.RuleTests.{Range, patterns_range}
use Rattle.sheet.specs.Sheet.{Sheet, SheetHead, most_rules}
use Rattle.basics.specs.Lists.{all_below}

-- "1 Does it begin with a whole 10 record?" "2 Is its arity 1 to 8?" "3 Has it at most 32 rules (0 is allowed)?" How many it may
-- have is given; document 02, request 9: "Question 3 then reads 64".
abbrev pub read_header_up_to : ℕ → List ℕ → Reading SheetHead
read_header_up_to most s =
    ask 1 (begins_with 0x10 s)
    (ask 2 (leb 1 (byte_at s 1) && leb (byte_at s 1) 8)
    (ask 3 (leb (byte_at s 2) most)
    (took (record_length 0x10) (record { arity = byte_at s 1; rule_count = byte_at s 2 }))))

unfoldable pub read_header : List ℕ → Reading SheetHead
read_header s = read_header_up_to most_rules s

-- The pattern of a record, by its kind: "7 Is low at most high?" "8 Is the variable 0 to 15?" A compound is read as given.
abbrev pub pattern_of : Reading Pattern → List ℕ → Reading Pattern
pattern_of compound s =
    cond (eqb (kind_of s) 0x20) (took (record_length 0x20) anything)
    (cond (eqb (kind_of s) 0x21) (took (record_length 0x21) (the_symbol (wide_at s 1)))
    (cond (eqb (kind_of s) 0x22)
    (ask 7 (leb (wide_at s 1) (wide_at s 3)) (took (record_length 0x22) (the_range (wide_at s 1) (wide_at s 3))))
    (cond (eqb (kind_of s) 0x23) compound
    (cond (eqb (kind_of s) 0x24) (ask 8 (leb (byte_at s 1) 15) (took (record_length 0x24) (variable (byte_at s 1))))
    (cond (eqb (kind_of s) 0x25)
    (ask 7 (leb (wide_at s 2) (wide_at s 4))
    (ask 8 (leb (byte_at s 1) 15) (took (record_length 0x25) (ranged_variable (byte_at s 1) (wide_at s 2) (wide_at s 4)))))
    (cond (eqb (kind_of s) 0x26)
    (ask 7 (leb (wide_at s 1) (wide_at s 3)) (took (record_length 0x26) (the_series (wide_at s 1) (wide_at s 3))))
    (cond (eqb (kind_of s) 0x27)
    (ask 7 (leb (wide_at s 2) (wide_at s 4)) (took (record_length 0x27) (the_gauged (byte_at s 1) (wide_at s 2) (wide_at s 4))))
    (refused 4))))))))

-- A pattern with so many levels below it: "4 Is it a whole record of kinds 20 to 25?", and of 26 "question 4 admits it and
-- question 7 applies to it" (document 02, request 5); of 27 "questions 4, 7 and 14 take the new records in" (request 7). "5 If
-- compound, is its depth at most 3?" Its depth is 4 where no level is below. "6 Is its arity 1 to 4?" Its arguments follow, "in
-- prefix order".
unfoldable pub read_pattern : ℕ → List ℕ → Reading Pattern
read_pattern zero s = ask 4 (is_whole 0x20 0x27 s) (pattern_of (refused 5) s)
read_pattern (suc below) s =
    ask 4 (is_whole 0x20 0x27 s)
    (pattern_of
    (ask 6 (leb 1 (byte_at s 3) && leb (byte_at s 3) 4)
    (after (record_length 0x23) (the_compound (wide_at s 1))
    (read_row pnil pcons (read_pattern below) (byte_at s 3) (drop (record_length 0x23) s))))
    s)

-- n patterns in a row.
abbrev pub read_patterns : ℕ → ℕ → List ℕ → Reading Patterns
read_patterns below n s = read_row pnil pcons (read_pattern below) n s

-- "9 Has each variable's set of ranges a number in common?" A variable with no ranged record has nothing to ask.
abbrev pub in_common : Option Range → Bool
in_common none = true
in_common (some x) = leb x.low x.high

abbrev pub ranges_meet : Patterns → Bool
ranges_meet rule = all_below 16 (λ v. in_common (patterns_range rule v))

-- A rule of so many arguments, which stand at depth 1 with 3 levels below; "at a rule's end" question 9.
abbrev pub read_rule : ℕ → List ℕ → Reading Patterns
read_rule arity s = and_then (read_patterns 3 arity s) (λ a rule. ask 9 (ranges_meet rule) (took a rule))

-- The rules, as many as the sheet says.
abbrev pub read_rules : ℕ → ℕ → List ℕ → Reading (List Patterns)
read_rules arity count s = read_row [] ◌∷◌ (read_rule arity) count s

-- "10 Are no bytes left?" where the rules had so many.
abbrev pub end_sheet : ℕ → ℕ → Reading (List Patterns) → Reading Sheet
end_sheet arity bytes (took a rules) = ask 10 (eqb a bytes) (took (3 + a) (record { arity = arity; rules = rules }))
end_sheet arity bytes (refused q) = refused q

-- After the first record the rules, then the end.
abbrev pub after_header : Reading SheetHead → List ℕ → Reading Sheet
after_header header s =
    and_then
    header
    (λ a head. end_sheet head.arity (length s - a) (read_rules head.arity head.rule_count (drop a s)))

unfoldable pub read_sheet : List ℕ → Reading Sheet
read_sheet s = after_header (read_header s) s
