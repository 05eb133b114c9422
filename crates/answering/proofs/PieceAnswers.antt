-- The answer for a piece, by the rules of an accepted sheet, and the plain answer.
use Prim.Native.Nat.{ℕ, ◌≤◌}
use mathlib.Core.Path.{◌≡◌, sym, ap, ◌∙◌}
use mathlib.Core.Bool.{Bool}
use mathlib.Core.List.{List}
use lib.Dec.{eqb}
use borrow.Author.Tests.{eq-eqb, ne_eqb}
use Rattle.records.specs.Reading.{Reading, took, refused, ask, map_reading, and_then}
use Rattle.basics.specs.Lists.{All}
use Rattle.terms.specs.Pattern.{Patterns}
use Rattle.terms.specs.Outcome.{rule_outcome}
use Rattle.terms.specs.Accepted.{AcceptedRule, AcceptedPiece}
use Rattle.terms.specs.Answer.{Answer, fail, plain_answer}
use Rattle.basics.proofs.ListLaws.{all_map}
use Rattle.sheet.specs.Sheet.{Sheet}
use Rattle.sheet_tests.specs.CheckSheet.{accept_sheet}
use Rattle.piece.specs.Piece.{Piece}
use Rattle.piece.specs.ReadPiece.{read_piece}
use Rattle.piece.specs.views.LaidOut.{piece_cells}
use Rattle.plain.specs.Plain.{PlainValues, piece_reading, plain_reading, answer_values, plain_refusal_values, reading_values}
use Rattle.rule_by_rule.specs.views.RuleByRule.{moved_by}
use Rattle.plain.specs.views.NotesOutcome.{cells_outcome}
use Rattle.rule_by_rule.proofs.RuleByRule.{plain_by_rule, Moved-same}
use Rattle.plain.proofs.NotesRight.{rule_right}

module _ (arity : ℕ) (rules : List Patterns) (p : List ℕ) where
  abbrev asked : ℕ → Piece → Reading Answer
  asked k piece = ask 20 (eqb arity piece.arity) (took 0 (plain_answer rules piece.terms))

  -- A piece that is refused.
  pub piece_refused : {q : ℕ} → read_piece p ≡ refused q → plain_refusal_values q ≡ reading_values (piece_reading arity rules p)
  piece_refused e = sym (ap (λ x. reading_values (and_then x asked)) e)

  module _ {k : ℕ} {piece : Piece} (read : read_piece p ≡ took k piece) where
    -- A piece of another arity.
    pub arities_differ : (piece.arity ≡ arity → ⊥) → plain_refusal_values 20 ≡ reading_values (piece_reading arity rules p)
    arities_differ differ =
        sym
        (ap (λ x. reading_values (and_then x asked)) read
        ∙ ap (λ (b : Bool). reading_values (ask 20 b (took 0 (plain_answer rules piece.terms))))
        (ne_eqb arity piece.arity (λ e. differ (sym e))))

    -- A piece of that arity is answered.
    pub piece_answered : piece.arity ≡ arity → answer_values (plain_answer rules piece.terms) ≡ reading_values (piece_reading arity rules p)
    piece_answered same =
        sym
        (ap (λ x. reading_values (and_then x asked)) read
        ∙ ap (λ (b : Bool). reading_values (ask 20 b (took 0 (plain_answer rules piece.terms))))
        (eq-eqb arity piece.arity (sym same)))

    -- It is answered rule by rule, by its cells.
    pub cells_answer
        : piece.arity ≡ arity → arity ≤ 8 → AcceptedPiece arity piece.terms → All (AcceptedRule arity) rules
        → {values : PlainValues} {cells : List ℕ} {bytes : ℕ} {read : Reading (List Patterns)} → read ≡ took bytes rules
        → cells ≡ piece_cells piece.terms → values ≡ reading_values (map_reading (moved_by (cells_outcome cells) 1 fail) read)
        → values ≡ reading_values (piece_reading arity rules p)
    cells_answer same few ok accepted rules_read laid is =
        let outcomes =
        all_map (AcceptedRule arity) (λ (rule : Patterns). cells_outcome (piece_cells piece.terms) rule ≡ rule_outcome rule piece.terms)
        (λ rule a. rule_right piece.terms ok few a) rules accepted in
        is
        ∙ (λ j. reading_values (map_reading (moved_by (cells_outcome (laid j)) 1 fail) (rules_read j)))
        ∙ ap answer_values
        (Moved-same (cells_outcome (piece_cells piece.terms)) (λ (rule : Patterns). rule_outcome rule piece.terms) rules 1 fail outcomes
        ∙ sym (plain_by_rule rules piece.terms))
        ∙ piece_answered same

module _ (s p : List ℕ) where
  abbrev answered : ℕ → Sheet → Reading Answer
  answered k sheet = piece_reading sheet.arity sheet.rules p

  -- A sheet that is refused.
  pub sheet_refused : {q : ℕ} → accept_sheet s ≡ refused q → plain_refusal_values q ≡ reading_values (plain_reading s p)
  unfolding plain_reading
  sheet_refused e = sym (ap (λ x. reading_values (and_then x answered)) e)

  -- A sheet that is accepted answers for the piece.
  pub sheet_answers
      : {k : ℕ} {sheet : Sheet} → accept_sheet s ≡ took k sheet
      → reading_values (piece_reading sheet.arity sheet.rules p) ≡ reading_values (plain_reading s p)
  unfolding plain_reading
  sheet_answers e = sym (ap (λ x. reading_values (and_then x answered)) e)
