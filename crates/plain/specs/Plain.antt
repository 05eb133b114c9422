-- The plain answer, from bytes (document 01, "The walk", "Questions at the counter").
use Rattle.std.specs.Prelude.{ℕ, List, eqb, Result}
use Rattle.records.specs.Reading.{Reading, took, refused, ask, and_then}
use Rattle.records.specs.Refusals.{reading_in}
use Rattle.records.specs.declared.refusal.Refusal.{Refusal}
use Rattle.terms.specs.Pattern.{Patterns}
use Rattle.terms.specs.Answer.{Answer, commit, execute, suspend, fail, word_of, rule_of, plain_answer}
use Rattle.sheet_tests.specs.CheckSheet.{accept_sheet}
use Rattle.piece.specs.ReadPiece.{read_piece}
use Rattle.plain.specs.declared.Answer as answer

-- The answer for a piece of bytes p, where these are the rules of an accepted sheet: "the piece's, then 20": "20 Are
-- the two arities equal?"
abbrev pub piece_reading : ℕ → List Patterns → List ℕ → Reading Answer
piece_reading arity rules p =
    and_then (read_piece p) (λ _ piece. ask 20 (eqb arity piece.arity) (took 0 (plain_answer rules piece.terms)))

-- "The plain answer asks the sheet's, the piece's, then 20."
unfoldable pub plain_reading : List ℕ → List ℕ → Reading Answer
plain_reading s p = and_then (accept_sheet s) (λ _ sheet. piece_reading sheet.arity sheet.rules p)

-- "The plain answer gives only answer word and rule." "The first no, in order, gives its number. Every other result field is
-- then 0."
pub record PlainValues : Type 0 where
  pub refusal : ℕ
  pub word : ℕ
  pub rule : ℕ

abbrev pub answer_values : Answer → PlainValues
answer_values a = record { refusal = 0; word = word_of a; rule = rule_of a }

abbrev pub plain_refusal_values : ℕ → PlainValues
plain_refusal_values q = record { refusal = q; word = 0; rule = 0 }

abbrev pub reading_values : Reading Answer → PlainValues
reading_values (took a x) = answer_values x
reading_values (refused q) = plain_refusal_values q

-- The answer, and the values of what is handed back.
abbrev pub answer_of : answer.Answer → Answer
answer_of (answer.TheVariants.Commit i) = commit i
answer_of (answer.TheVariants.Execute i) = execute i
answer_of answer.TheVariants.Suspend = suspend
answer_of answer.TheVariants.Fail = fail

abbrev pub plain_values : Result answer.Answer Refusal → PlainValues
plain_values r = reading_values (reading_in (λ a. took 0 (answer_of a)) r)
