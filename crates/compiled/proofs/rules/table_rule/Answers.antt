-- The row, then the cuts of the rule.
use Prim.Native.Nat.{ℕ, ◌+◌}
use mathlib.Core.Path.{◌≡◌, sym, ap, ◌∙◌, subst}
use mathlib.Core.List.{List}
use native.Mathlib.Omega.{arith}
use lib.ListN.{set}
use Rattle.sheet.specs.declared.Ranges.{Ranges}
use Rattle.sheet.specs.views.NoteArray.{notes_in}
use Rattle.sheet.specs.views.NoteRanges.{lows_of, highs_of}
use Rattle.tables.specs.views.Planes.{place_tests_in}
use Rattle.test_list.specs.views.Tests.{pairs_listed}
use Rattle.rows.specs.views.Wants.{notes_tests}
use Rattle.rows.specs.views.Row.{row_of}
use Rattle.compiled.specs.views.Columns.{Columned}
use Rattle.compiled.specs.views.CutRules.{turn_all, TurnsFit}
use Rattle.compiled.proofs.rules.table_rule.Goals as goal

-- The row as another number.
moved
    : (i : ℕ) (s : List ℕ) {x y : ℕ} {s' : List ℕ} → x ≡ y → Columned i x (set s (68 + i) x) s' → Columned i y (set s (68 + i) y) s'
moved i s {s' = s'} e c = subst (λ (z : ℕ). Columned i z (set s (68 + i) z) s') e c

pub cut_rule-requires : goal.cut_rule-requires
cut_rule-requires c =
    let a = c.args in
    let notes = notes_in a.notes.now a.n in
    let pre = c.requires.n_bound in
    let many = c.rules-rules.ensures in
    let own = c.ranges-ranges.ensures in record {
      n_bound = (pre.0, pre.1, pre.2, pre.3, omega (arith, many, pre.6), pre.4);
      turns_fit = subst (λ (r : Ranges). TurnsFit a.numbers.now c.rules-rules.result a.i (notes_tests r.low r.high notes) a.c.now)
          (sym own)
          (subst (λ (k : ℕ). TurnsFit a.numbers.now k a.i (notes_tests (lows_of notes) (highs_of notes) notes) a.c.now) (sym many) c.requires.turns_fit);
    }

pub returns : goal.returns
returns c =
    let a = c.args in
    let notes = notes_in a.notes.now a.n in
    let numbers = c.args.numbers.now in
    let s = c.args.s.now in
    let many = c.rules-rules.ensures in
    let own = c.ranges-ranges.ensures in
    let row =
    c.rule_row-row.ensures
    ∙ ap (λ (r : Ranges). row_of numbers (place_tests_in s) (pairs_listed s) r.low r.high notes) own in record {
      columned = moved a.i s row c.put_row.ensures;
      c_after = c.cut_rule.ensures
          ∙ (λ j. turn_all numbers (many j) a.i (notes_tests (own j).low (own j).high notes) a.c.now);
    }
