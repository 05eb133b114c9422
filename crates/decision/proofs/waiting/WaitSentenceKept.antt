-- The wait sentence (document 02, request 8) for built graphs, in every asking order: "while each listed place keeps what it held
-- and each listed pair is still not known, a piece filled in further suspends, although its walk may take another way." It "asks
-- that listed places keep the unknown or span that they held" (request 4).
use Prim.Native.Nat.{ℕ}
use mathlib.Core.Path.{◌≡◌, subst}
use mathlib.Core.List.{List}
use mathlib.Core.Option.{some}
use lib.Dec.{T}
use Rattle.masks.specs.Mask.{has}
use Rattle.records.specs.Reading.{took}
use Rattle.terms.specs.Term.{Terms}
use Rattle.terms.specs.Filling.{FilledFurther}
use Rattle.terms.specs.Accepted.{AcceptedPiece}
use Rattle.terms.specs.Answer as answers
use Rattle.sheet.specs.Sheet.{Sheet}
use Rattle.sheet_tests.specs.CheckSheet.{AcceptedSheet}
use Rattle.decision.specs.Node.{Node}
use Rattle.decision.specs.Graph.{graph_in}
use Rattle.decision.specs.AskingOrder.{AskingOrder}
use Rattle.decision.specs.Walk.{Walk, walk}
use Rattle.decision.specs.Waiting.{ListedKept}
use Rattle.decision.proofs.waiting.Suspended.{suspended}
use Rattle.decision.proofs.waiting.WaitSentenceSpans.{wait_sentence_spans}

-- If a walk of a built graph suspends, and each listed place keeps what it held and each listed pair is still not known in a piece
-- filled in further, the walk of that piece suspends.
pub wait_sentence_kept
    : (sheet : Sheet) → AcceptedSheet sheet → (order : List ℕ) → AskingOrder sheet.rules order
    → (nodes : List (Node ℕ)) → graph_in sheet.rules order ≡ some nodes
    → (piece further : Terms) → AcceptedPiece sheet.arity piece → AcceptedPiece sheet.arity further
    → FilledFurther piece further
    → (w : Walk) → walk sheet.rules nodes piece ≡ took 0 w → w.answer ≡ answers.suspend
    → ListedKept sheet.rules w.waits piece further
    → (v : Walk) × (walk sheet.rules nodes further ≡ took 0 v) × (v.answer ≡ answers.suspend)
wait_sentence_kept sheet accepted order asks nodes built piece further ok okFurther more w e suspends listed =
    let s = suspended sheet.rules nodes piece w e suspends in
    wait_sentence_spans sheet accepted order asks nodes built piece further ok okFurther more s.walked s.taken
    (λ t h m. listed t h (subst (λ (v : Walk). T (has v.waits t)) s.told m))
