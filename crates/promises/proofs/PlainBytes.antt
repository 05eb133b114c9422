-- Demand 3 for the plain answer, over bytes: the rules and terms are those that the bytes of a sheet and of a piece spell.
use Prim.Native.Nat.{ℕ}
use mathlib.Core.Path.{◌≡◌, sym, ◌∙◌, subst}
use mathlib.Core.List.{List}
use Rattle.basics.specs.Lists.{All}
use Rattle.terms.specs.Filling.{FilledFurther}
use Rattle.terms.specs.Accepted.{AcceptedRule, AcceptedPiece}
use Rattle.terms.specs.Answer.{Answer, plain_answer}
use Rattle.terms.specs.Right.{Right, Keeps}
use Rattle.terms.proofs.Plain.{plain_answer_right, plain_answer_keeps}
use Rattle.sheet.specs.Sheet.{Sheet}
use Rattle.piece.specs.Piece.{Piece}
use Rattle.piece.proofs.Spelled.{piece_spelled}
use Rattle.promises.specs.AcceptedBytes.{AcceptedBytes}
use Rattle.plain.specs.Plain.{plain_reading, answer_values, reading_values}
use Rattle.accepted.proofs.CheckedSheets.{accepted_rules_lem}
use Rattle.answering.proofs.PieceAnswers.{piece_answered, sheet_answers}

module _ {s p : List ℕ} {sheet : Sheet} {piece : Piece} (accepted : AcceptedBytes s p sheet piece) where
  -- The values of accepted bytes are the word and the rule of the plain answer.
  pub plain_bytes : reading_values (plain_reading s p) ≡ answer_values (plain_answer sheet.rules piece.terms)
  plain_bytes =
      sym (sheet_answers s p accepted.sheet_accepted)
      ∙ sym (piece_answered sheet.arity sheet.rules p accepted.piece_accepted accepted.same_arity)

  pub rules_accepted : All (AcceptedRule sheet.arity) sheet.rules
  rules_accepted = accepted_rules_lem s accepted.are_bytes.0 accepted.sheet_accepted

  pub terms_accepted : AcceptedPiece sheet.arity piece.terms
  terms_accepted =
      let spelled = (piece_spelled p accepted.are_bytes.1 accepted.piece_took piece).0 accepted.piece_accepted in
      subst (λ (n : ℕ). AcceptedPiece n piece.terms) accepted.same_arity spelled.0.accepted

  -- They are the word and the rule of an answer that is right: "commit i exactly when every filling of the piece meets rule i
  -- and no filling meets another rule", and so for execute, fail and suspend.
  pub plain_bytes_right
      : (answer : Answer) × (reading_values (plain_reading s p) ≡ answer_values answer) × Right sheet.rules piece.terms answer
  plain_bytes_right = (
    plain_answer sheet.rules piece.terms,
    plain_bytes,
    plain_answer_right sheet.arity sheet.rules piece.terms rules_accepted terms_accepted,
  )

-- For a piece filled in further the answer is "fail where it answered fail, commit i where commit i, and execute i, commit i or
-- fail where execute i".
pub plain_bytes_keep
    : {s p q : List ℕ} {sheet : Sheet} {piece further : Piece} → AcceptedBytes s p sheet piece
    → AcceptedBytes s q sheet further → FilledFurther piece.terms further.terms
    → (answer later : Answer) × (reading_values (plain_reading s p) ≡ answer_values answer)
    × (reading_values (plain_reading s q) ≡ answer_values later) × Keeps answer later
plain_bytes_keep {sheet = sheet} {piece = piece} {further = further} accepted acceptedFurther more = (
  plain_answer sheet.rules piece.terms,
  plain_answer sheet.rules further.terms,
  plain_bytes accepted,
  plain_bytes acceptedFurther,
  plain_answer_keeps sheet.arity sheet.rules piece.terms further.terms (rules_accepted accepted) (terms_accepted accepted)
      (terms_accepted acceptedFurther) more,
)
