-- Tidy sheets (document 02, request 2): "Two accepted sheets get equal bytes exactly when they have the same arity and, rule for
-- rule, the same tests. Tidying a tidy sheet changes no byte, and the tidy sheet has the same graph."
use Prim.Native.Nat.{ℕ}
use mathlib.Core.Path.{◌≡◌, refl, sym, ap, subst, ◌∙◌}
use mathlib.Core.Logic.{◌↔◌}
use mathlib.Core.List.{List, map}
use native.Mathlib.Omega.{arith}
use lib.ListN.{length, length-map}
use Rattle.records.specs.Reading.{took}
use Rattle.basics.specs.Lists.{All}
use Rattle.terms.specs.Term.{Terms}
use Rattle.terms.specs.RuleTests.{place_tests, pair_tests}
use Rattle.terms.specs.Accepted.{AcceptedRule}
use Rattle.terms.specs.Answer.{plain_answer}
use Rattle.sheet.specs.Sheet.{Sheet, SoundSheet}
use Rattle.sheet.specs.WriteSheet.{sheet_bytes}
use Rattle.sheet.specs.ReadSheet.{read_sheet}
use Rattle.sheet_tests.specs.SheetTests.{sheet_tests}
use Rattle.sheet_tests.specs.CheckSheet.{accept_sheet, AcceptedSheet}
use Rattle.accepted.proofs.Spelled.{sheet_read_lem}
use Rattle.accepted.proofs.WrittenBytes.{sheet_bytes_lem}
use Rattle.accepted.proofs.Acceptance.{sheet_accepted_lem}
use Rattle.decision.specs.Graph.{graph_in, graph_of}
use Rattle.decision.proofs.rules.SameTests.{same_tests_same_tests, same_tests_same_plain}
use Rattle.decision.proofs.built.SameGraph.{same_tests_same_graph_in, same_tests_same_graph}
use Rattle.tidy.specs.TidyRule.{tidy_rule}
use Rattle.tidy.specs.TidySheet.{tidy_sheet, tidy_bytes, AllSameTests}
use Rattle.tidy.proofs.Exactly.{tidy_rules_exactly, tidy_rules_accepted, tidy_rules_twice, tidy_rules_tests}

-- Two sound sheets with the same bytes are the same.
bytes_determine : (a b : Sheet) → SoundSheet a → SoundSheet b → sheet_bytes a ≡ sheet_bytes b → a ≡ b
bytes_determine a b sound also e =
    let read : took (length (sheet_bytes a)) a ≡ took (length (sheet_bytes b)) b =
    sym (sheet_read_lem a sound) ∙ ap read_sheet e ∙ sheet_read_lem b also in
    let same : a ≡ b = cc in
    same

module _ (sheet : Sheet) (accepted : AcceptedSheet sheet) where
  -- Rule for rule, the tidy sheet has the sheet's tests,
  tests_kept
      : (map place_tests (tidy_sheet sheet).rules ≡ map place_tests sheet.rules)
      × (map pair_tests (tidy_sheet sheet).rules ≡ map pair_tests sheet.rules)
  tests_kept = tidy_rules_tests sheet.arity sheet.rules accepted.sound.accepted_rules

  pub tidy_sheet_tests : sheet_tests (tidy_sheet sheet).rules ≡ sheet_tests sheet.rules
  tidy_sheet_tests = same_tests_same_tests (tidy_sheet sheet).rules sheet.rules tests_kept.0 tests_kept.1

  -- is accepted,
  pub tidy_sheet_accepted : AcceptedSheet (tidy_sheet sheet)
  tidy_sheet_accepted =
      let sound = accepted.sound in
      record {
        sound = record {
          some_argument = sound.some_argument;
          few_arguments = sound.few_arguments;
          few_rules = omega (arith, length-map sheet.rules tidy_rule, sound.few_rules);
          accepted_rules = tidy_rules_accepted sheet.arity sheet.rules sound.accepted_rules;
        };
        few_tests = omega (arith, ap length tidy_sheet_tests, accepted.few_tests);
      }

  -- is its own tidy form,
  pub tidy_sheet_twice : tidy_sheet (tidy_sheet sheet) ≡ tidy_sheet sheet
  tidy_sheet_twice =
      let twice = tidy_rules_twice sheet.arity sheet.rules accepted.sound.accepted_rules in
      λ i. record { arity = sheet.arity; rules = twice i }

  -- and is what its bytes are read as.
  pub tidy_read : accept_sheet (tidy_bytes sheet) ≡ took (length (tidy_bytes sheet)) (tidy_sheet sheet)
  tidy_read =
      let also = tidy_sheet_accepted in
      (sheet_accepted_lem (tidy_bytes sheet) (sheet_bytes_lem (tidy_sheet sheet) also.sound) (length (tidy_bytes sheet)) (tidy_sheet sheet)
      ).1 (also, refl, refl)

  -- "Tidying a tidy sheet changes no byte": whatever sheet its bytes are read as gets these bytes again.
  pub tidy_twice : {k : ℕ} (again : Sheet) → accept_sheet (tidy_bytes sheet) ≡ took k again → tidy_bytes again ≡ tidy_bytes sheet
  tidy_twice {k} again e =
      let read : took k again ≡ took (length (tidy_bytes sheet)) (tidy_sheet sheet) = sym e ∙ tidy_read in
      let same : again ≡ tidy_sheet sheet = cc in
      ap tidy_bytes same ∙ ap sheet_bytes tidy_sheet_twice

  -- And "the tidy sheet has the same graph", in whatever order the tests are asked,
  pub tidy_same_graph : graph_of (tidy_sheet sheet).rules ≡ graph_of sheet.rules
  tidy_same_graph = same_tests_same_graph (tidy_sheet sheet).rules sheet.rules tests_kept.0 tests_kept.1

  pub tidy_same_graph_in : (order : List ℕ) → graph_in (tidy_sheet sheet).rules order ≡ graph_in sheet.rules order
  tidy_same_graph_in = same_tests_same_graph_in (tidy_sheet sheet).rules sheet.rules tests_kept.0 tests_kept.1

  -- and the same plain answers.
  pub tidy_same_plain : (piece : Terms) → plain_answer (tidy_sheet sheet).rules piece ≡ plain_answer sheet.rules piece
  tidy_same_plain = same_tests_same_plain (tidy_sheet sheet).rules sheet.rules tests_kept.0 tests_kept.1

-- "Two accepted sheets get equal bytes exactly when they have the same arity and, rule for rule, the same tests." Sheets that
-- differ in what a place test wants do not get equal bytes, nor do two of which one has an equality test more.
pub tidy_exactly
    : (a b : Sheet) → AcceptedSheet a → AcceptedSheet b
    → (tidy_bytes a ≡ tidy_bytes b) ↔ ((a.arity ≡ b.arity) × AllSameTests a.rules b.rules)
tidy_exactly a b accepted also = (forth, back)
  where
    exactly : a.arity ≡ b.arity → (map tidy_rule a.rules ≡ map tidy_rule b.rules) ↔ AllSameTests a.rules b.rules
    exactly e =
        tidy_rules_exactly a.arity a.rules b.rules accepted.sound.accepted_rules
        (subst (λ (n : ℕ). All (AcceptedRule n) b.rules) (sym e) also.sound.accepted_rules)

    forth : tidy_bytes a ≡ tidy_bytes b → (a.arity ≡ b.arity) × AllSameTests a.rules b.rules
    forth e =
        let one = tidy_sheet_accepted a accepted in
        let two = tidy_sheet_accepted b also in
        let same = bytes_determine (tidy_sheet a) (tidy_sheet b) one.sound two.sound e in
        let arity : a.arity ≡ b.arity = ap (λ (s : Sheet). s.arity) same in
        (arity, (exactly arity).0 (ap (λ (s : Sheet). s.rules) same))

    back : (a.arity ≡ b.arity) × AllSameTests a.rules b.rules → tidy_bytes a ≡ tidy_bytes b
    back h =
        let rules = (exactly h.0).1 h.1 in
        λ i. sheet_bytes (record { arity = h.0 i; rules = rules i })
