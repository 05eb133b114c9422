-- The wait sentence of a path that suspends, for built graphs, in every asking order (document 02, request 4): "The wait sentence
-- now speaks of built graphs only, .. and asks that listed places keep the unknown or span that they held." While they do, and
-- each listed pair is still not known, a piece filled in further suspends.
use Prim.Native.Nat.{ℕ}
use mathlib.Core.Path.{◌≡◌, sym, subst, ◌∙◌}
use mathlib.Core.List.{List}
use mathlib.Core.Option.{some}
use Rattle.records.specs.Reading.{took}
use Rattle.terms.specs.Term.{Terms}
use Rattle.terms.specs.Pattern.{Patterns}
use Rattle.terms.specs.Filling.{FilledFurther}
use Rattle.terms.specs.Accepted.{AcceptedPiece}
use Rattle.terms.specs.Answer as answers
use Rattle.terms.specs.Right.{Right}
use Rattle.terms.proofs.Verdict.{one_right}
use Rattle.sheet.specs.Sheet.{Sheet}
use Rattle.sheet_tests.specs.CheckSheet.{AcceptedSheet}
use Rattle.decision.specs.Key.{Leaf, suspend_node, leaf}
use Rattle.decision.specs.Node.{Node}
use Rattle.decision.specs.Graph.{graph_in}
use Rattle.decision.specs.AskingOrder.{AskingOrder}
use Rattle.decision.specs.Path.{ends, path}
use Rattle.decision.specs.Walk.{Walk, suspend_waits, walk}
use Rattle.decision.specs.Waiting.{ListedKept}
use Rattle.decision.proofs.elimination.RightKeys.{RightVertex}
use Rattle.decision.proofs.walking.BuiltWalk.{MetOn, WalksRight, given, walk_answers}
use Rattle.decision.proofs.walking.Demand3.{right_in_every_order}
use Rattle.decision.proofs.waiting.Suspended.{way_same}
use Rattle.decision.proofs.waiting.KeptOpen.{suspend_still}
use Rattle.decision.proofs.waiting.SpanWaits.{unsure_listed}

module _ (sheet : Sheet) (accepted : AcceptedSheet sheet) (order : List ℕ) (asks : AskingOrder sheet.rules order)
    (nodes : List (Node ℕ)) (built : graph_in sheet.rules order ≡ some nodes)
    (piece further : Terms) (ok : AcceptedPiece sheet.arity piece) (okFurther : AcceptedPiece sheet.arity further)
    (more : FilledFurther piece further) (walked : List ℕ) (e : path nodes piece ≡ ends walked suspend_node) where
  abbrev rules : List Patterns
  rules = sheet.rules

  before : WalksRight rules nodes piece
  before = right_in_every_order sheet accepted order asks nodes built piece ok

  after : WalksRight rules nodes further
  after = right_in_every_order sheet accepted order asks nodes built further okFurther

  -- The walk ends at a suspend node that is right with the tests met seen.
  ending : RightVertex rules piece (MetOn rules nodes walked) (leaf suspend_node)
  ending =
      let (none, nodesWalked, last) = way_same (sym before.ended ∙ e) in
      subst (λ (l : Leaf). RightVertex rules piece (MetOn rules nodes walked) (leaf l)) last
      (subst (λ (ns : List ℕ). RightVertex rules piece (MetOn rules nodes ns) (leaf before.last)) nodesWalked before.ending)

  -- If the walk of a built graph suspends, and each listed place keeps the unknown or span that it held and each listed pair is
  -- still not known in a piece filled in further, the walk of that piece suspends.
  pub wait_sentence_spans
      : ListedKept rules (suspend_waits rules nodes piece walked) piece further
      → (v : Walk) × (walk rules nodes further ≡ took 0 v) × (v.answer ≡ answers.suspend)
  wait_sentence_spans listed =
      let accepted_rules = accepted.sound.accepted_rules in
      let right : Right rules further answers.suspend =
      suspend_still sheet.arity rules piece further accepted_rules ok okFurther more ending
      (λ t met unsure.
      listed t met.0 (unsure_listed sheet.arity rules accepted_rules nodes piece walked t met.0 met.1 unsure)) in
      let same = one_right rules further okFurther.well_formed (given after).answer answers.suspend after.right right in
      (given after, walk_answers after, same)
