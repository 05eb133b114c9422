-- What a rule and a sheet that were read are: the answers to questions 1 to 3, 9 and 10.
use Prim.Native.Nat.{ℕ, ◌-◌, ◌≤◌}
use mathlib.Core.Path.{◌≡◌, refl, sym, ap, subst, ◌∙◌}
use mathlib.Core.Bool.{true, ◌&&◌}
use mathlib.Core.List.{List}
use native.Mathlib.Omega.{arith}
use lib.ListN.{length, get_or, drop}
use lib.Dec.{leb, eqb}
use borrow.Author.Tests.{leb-true, le-leb, eqb-true, eq-eqb}
use Rattle.records.specs.Reading.{Reading, took, refused, ask, and_then}
use Rattle.records.proofs.Rows.{ask_holds}
use Rattle.terms.specs.Pattern.{Patterns}
use Rattle.sheet.specs.Sheet.{Sheet, SheetHead, most_rules}
use Rattle.sheet.specs.ReadSheet.{read_patterns, ranges_meet, read_rule, read_header, read_rules, end_sheet, read_sheet}
use Rattle.basics.proofs.Booleans.{and_both}

-- A rule that was read is a row of patterns whose ranges meet.
abbrev RuleRead : ℕ → List ℕ → Reading Patterns → Type 0
RuleRead arity s (took k rule) = (read_patterns 3 arity s ≡ took k rule) × (ranges_meet rule ≡ true)
RuleRead arity s (refused q) = Unit

rule_asked
    : (arity : ℕ) (s : List ℕ) (x : Reading Patterns) → read_patterns 3 arity s ≡ x
    → RuleRead arity s (and_then x (λ a rule. ask 9 (ranges_meet rule) (took a rule)))
rule_asked arity s (took k rule) e =
    ask_holds (RuleRead arity s) 9 (ranges_meet rule) (took k rule) tt (λ meet. (e, meet))
rule_asked arity s (refused q) e = tt

pub rule_is
    : (arity : ℕ) (s : List ℕ) {k : ℕ} {rule : Patterns} → read_rule arity s ≡ took k rule
    → (read_patterns 3 arity s ≡ took k rule) × (ranges_meet rule ≡ true)
rule_is arity s e = subst (RuleRead arity s) e (rule_asked arity s (read_patterns 3 arity s) refl)

-- The record that a sheet begins with, and the answers to questions 1 to 3.
pub record HeaderIs (s : List ℕ) (k : ℕ) (head : SheetHead) : Type 0 where
  pub whole : 3 ≤ length s
  pub kind : get_or s 0 0 ≡ 0x10
  pub arity_there : get_or s 1 0 ≡ head.arity
  pub count_there : get_or s 2 0 ≡ head.rule_count
  pub some_argument : 1 ≤ head.arity
  pub few_arguments : head.arity ≤ 8
  pub few_rules : head.rule_count ≤ most_rules
  pub three_bytes : k ≡ 3

-- Where questions 1 and 2 get a yes, question 3 is asked.
pub header_count
    : (s : List ℕ) → 3 ≤ length s → get_or s 0 0 ≡ 0x10 → 1 ≤ get_or s 1 0 → get_or s 1 0 ≤ 8
    → read_header s
    ≡ ask 3 (leb (get_or s 2 0) most_rules) (took 3 (record { arity = get_or s 1 0; rule_count = get_or s 2 0 }))
unfolding read_header
header_count s whole kind enough few =
    simp (
      le-leb 3 (length s) whole,
      eq-eqb (get_or s 0 0) 0x10 kind,
      le-leb 1 (get_or s 1 0) enough,
      le-leb (get_or s 1 0)
          8 few,
    )

abbrev HeaderRead : List ℕ → Reading SheetHead → Type 0
HeaderRead s (took k head) = HeaderIs s k head
HeaderRead s (refused q) = Unit

header_asked : (s : List ℕ) → HeaderRead s (read_header s)
unfolding read_header
header_asked s =
    ask_holds (HeaderRead s) 1 (leb 3 (length s) && eqb (get_or s 0 0) 0x10) _ tt (λ first.
    ask_holds (HeaderRead s) 2 (leb 1 (get_or s 1 0) && leb (get_or s 1 0) 8) _ tt (λ second.
    ask_holds (HeaderRead s) 3 (leb (get_or s 2 0) most_rules) _ tt (λ third.
    let begins = and_both (leb 3 (length s)) (eqb (get_or s 0 0) 0x10) first in
    let arguments = and_both (leb 1 (get_or s 1 0)) (leb (get_or s 1 0) 8) second in
    record {
      whole = leb-true 3 (length s) begins.0;
      kind = eqb-true (get_or s 0 0) 0x10 begins.1;
      arity_there = refl;
      count_there = refl;
      some_argument = leb-true 1 (get_or s 1 0) arguments.0;
      few_arguments = leb-true (get_or s 1 0) 8 arguments.1;
      few_rules = leb-true (get_or s 2 0) most_rules third;
      three_bytes = refl;
    })))

-- The first record of a sheet, where it was read.
pub header_is : (s : List ℕ) {k : ℕ} {head : SheetHead} → read_header s ≡ took k head → HeaderIs s k head
header_is s e = subst (HeaderRead s) e (header_asked s)

-- A sheet that was read has that record and then its rules, to the end.
pub record SheetIs (s : List ℕ) (k : ℕ) (sheet : Sheet) : Type 0 where
  pub count : ℕ
  pub header : HeaderIs s 3 (record { arity = sheet.arity; rule_count = count })
  pub rules_read : read_rules sheet.arity count (drop 3 s) ≡ took (length s - 3) sheet.rules
  pub all_bytes : k ≡ length s

abbrev SheetRead : List ℕ → Reading Sheet → Type 0
SheetRead s (took k sheet) = SheetIs s k sheet
SheetRead s (refused q) = Unit

rules_asked
    : (s : List ℕ) (head : SheetHead) → HeaderIs s 3 head → (x : Reading (List Patterns))
    → read_rules head.arity head.rule_count (drop 3 s) ≡ x → SheetRead s (end_sheet head.arity (length s - 3) x)
rules_asked s head is (took a rules) e =
    ask_holds (SheetRead s) 10 (eqb a (length s - 3)) _ tt
    (λ end.
    let all : a ≡ length s - 3 = eqb-true a (length s - 3) end in
    record {
      count = head.rule_count;
      header = is;
      rules_read = e ∙ ap (λ (n : ℕ). took n rules) all;
      all_bytes = omega (arith, is.whole);
    })
rules_asked s head is (refused q) e = tt

sheet_asked
    : (s : List ℕ) (x : Reading SheetHead) → read_header s ≡ x
    → SheetRead s (and_then x
    (λ a head. end_sheet head.arity (length s - a) (read_rules head.arity head.rule_count (drop a s))))
sheet_asked s (took k head) e =
    let is = header_is s e in
    subst (λ (a : ℕ). SheetRead s
    (end_sheet head.arity (length s - a) (read_rules head.arity head.rule_count (drop a s))))
    (sym is.three_bytes)
    (rules_asked s head (subst (λ (a : ℕ). HeaderIs s a head) is.three_bytes is)
    (read_rules head.arity head.rule_count (drop 3 s)) refl)
sheet_asked s (refused q) e = tt

pub sheet_is : (s : List ℕ) {k : ℕ} {sheet : Sheet} → read_sheet s ≡ took k sheet → SheetIs s k sheet
unfolding read_sheet
sheet_is s e = subst (SheetRead s) e (sheet_asked s (read_header s) refl)
