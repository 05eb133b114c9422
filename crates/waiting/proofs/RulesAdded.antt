-- The rules of a sheet, read one after another, each adding to the set: those that are left give the whole.
use Prim.Native.Nat.{ℕ, suc, ◌+◌, ◌-◌, ◌≤◌, ◌<◌}
use mathlib.Core.Path.{◌≡◌, sym, ap, subst, ◌∙◌}
use mathlib.Core.List.{List, [], ◌∷◌}
use native.Mathlib.Omega.{arith}
use lib.ListN.{length, drop}
use Rattle.records.specs.Reading.{took, refused}
use Rattle.records.proofs.Rows.{row_none}
use Rattle.terms.specs.Pattern.{Patterns}
use Rattle.sheet.specs.views.Noted.{rule_notes}
use Rattle.sheet.specs.ReadSheet.{read_rule, read_rules}
use Rattle.sheet_tests.specs.SheetTests.{Test}
use Rattle.graph.specs.views.Rewriting.{IsTook, read_or}
use Rattle.graph.proofs.RowsLeft.{row_there, others_left, first_others}
use Rattle.rule_masks.specs.views.RuleMasks.{notes_masks}
use Rattle.waiting.specs.views.SpanTests.{with_rule, with_rules}

module _ (tests : List Test) (cells numbers s : List ℕ) (arity count : ℕ) where
  abbrev rules_from : ℕ → ℕ → List Patterns
  rules_from n at = read_or [] (read_rules arity n (drop at s))

  -- i rules were read, up to a position, and gave the set; the others are still to be read.
  pub record Adding (at i set : ℕ) : Type 0 where
    pub there : at ≤ length s
    pub left : IsTook (read_rules arity (count - i) (drop at s))
    pub same : with_rules tests cells numbers (rules_from (count - i) at) set ≡ with_rules tests cells numbers (rules_from count 0) 0

  -- Before the first.
  pub adding_starts : IsTook (read_rules arity count s) → Adding 0 0 0
  adding_starts read =
      let all : count ≡ count - 0 = omega arith in
      record {
        there = omega arith;
        left = subst (λ (n : ℕ). IsTook (read_rules arity n s)) all read;
        same = λ j. with_rules tests cells numbers (rules_from (sym all j) 0) 0;
      }

  module _ {at i set : ℕ} (g : Adding at i set) where
    -- Behind the last.
    pub adding_done : count ≤ i → set ≡ with_rules tests cells numbers (rules_from count 0) 0
    adding_done done =
        let none : count - i ≡ 0 = omega arith in
        sym
        (ap (λ r. with_rules tests cells numbers (read_or [] r) set) (row_none [] ◌∷◌ (read_rule arity) (count - i) (drop at s) none))
        ∙ g.same

    module _ (more : i < count) where
      next : count - i ≡ suc (count - (i + 1))
      next = omega arith

      -- The next is there to be read,
      pub adding_there : {q : ℕ} → read_rule arity (drop at s) ≡ refused q → ⊥
      adding_there e = row_there (read_rule arity) s (count - i) (count - (i + 1)) at next g.left e

      -- and adds what it does.
      pub adding_more
          : {b : ℕ} {rule : Patterns} → read_rule arity (drop at s) ≡ took b rule → at + b ≤ length s → {new : ℕ}
          → new ≡ with_rule (notes_masks tests cells (rule_notes rule)) numbers set → Adding (at + b) (i + 1) new
      adding_more {b} {rule} e inside is = record {
        there = inside;
        left = others_left (read_rule arity) s (count - i) (count - (i + 1)) at next g.left e;
        same =
            ap (with_rules tests cells numbers (rules_from (count - (i + 1)) (at + b))) is
            ∙ sym
            (ap (λ (rs : List Patterns). with_rules tests cells numbers rs set)
            (first_others (read_rule arity) s (count - i) (count - (i + 1)) at next g.left e))
            ∙ g.same;
      }
