-- Demand 3 for the plain answer, over accepted rules and pieces: it is right, and it keeps what it promises for a piece
-- filled in further.
use Prim.Native.Nat.{ℕ, zero, suc, pred, ◌<◌}
use mathlib.Core.List.{List, [], ◌∷◌}
use native.Mathlib.Omega.{arith}
use lib.ListN.{length, get_or}
use Rattle.basics.specs.Lists.{All}
use Rattle.terms.specs.Term.{Terms}
use Rattle.terms.specs.Pattern.{Patterns, pnil}
use Rattle.terms.specs.Outcome.{rule_outcome}
use Rattle.terms.specs.Filling.{FilledFurther}
use Rattle.terms.specs.Accepted.{AcceptedRule, AcceptedPiece}
use Rattle.terms.specs.Answer.{rule_at, plain_answer}
use Rattle.terms.specs.Right.{IsRule, Right, Keeps}
use Rattle.terms.proofs.Says.{Says}
use Rattle.terms.proofs.Stays.{rule_stays}
use Rattle.terms.proofs.RuleLaw.{rule_law}
use Rattle.terms.proofs.PlainRight.{plain_right}
use Rattle.terms.proofs.Monotone.{right_keeps}

-- What holds of each thing in a list holds of the one at an index.
all_index : {A : Type 0} (Q : A → Type 0) (d : A) (xs : List A) (n : ℕ) → n < length xs → All Q xs → Q (get_or xs n d)
all_index Q d [] n l h = absurd (omega arith)
all_index Q d (x ∷ xs) zero l h = h.0
all_index Q d (x ∷ xs) (suc n) l h = all_index Q d xs n (omega arith) h.1

-- The outcome of each accepted rule says what the fillings of an accepted piece do.
pub rules_say
    : (arity : ℕ) (rules : List Patterns) (piece : Terms) → All (AcceptedRule arity) rules → AcceptedPiece arity piece
    → (i : ℕ) → IsRule rules i → Says (rule_outcome (rule_at rules i) piece) (rule_at rules i) piece
rules_say arity rules piece accepted ok i is_rule =
    rule_law arity (rule_at rules i) piece (all_index (AcceptedRule arity) pnil rules (pred i) (omega arith) accepted) ok

-- The plain answer is the one that demand 3 asks for.
pub plain_answer_right
    : (arity : ℕ) (rules : List Patterns) (piece : Terms) → All (AcceptedRule arity) rules → AcceptedPiece arity piece
    → Right rules piece (plain_answer rules piece)
plain_answer_right arity rules piece accepted ok =
    plain_right rules piece ok.well_formed (rules_say arity rules piece accepted ok)

-- The plain answer of a piece filled in further is "fail where it answered fail, commit i where commit i, and execute i,
-- commit i or fail where execute i".
pub plain_answer_keeps
    : (arity : ℕ) (rules : List Patterns) (piece further : Terms) → All (AcceptedRule arity) rules
    → AcceptedPiece arity piece → AcceptedPiece arity further → FilledFurther piece further
    → Keeps (plain_answer rules piece) (plain_answer rules further)
plain_answer_keeps arity rules piece further accepted ok okFurther more =
    let say = rules_say arity rules piece accepted ok in
    let sayFurther = rules_say arity rules further accepted okFurther in
    let right = plain_answer_right arity rules piece accepted ok in
    let rightFurther = plain_answer_right arity rules further accepted okFurther in
    let before = plain_answer rules piece in
    let after = plain_answer rules further in
    right_keeps rules piece further ok.well_formed okFurther.well_formed (λ i. rule_stays more (rule_at rules i)) say
    sayFurther before after right rightFurther
