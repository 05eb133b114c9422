-- The wait sentence, over bytes (document 01, "The walk"), which "now speaks of built graphs only, as another maker's cases may cut
-- inside a range, and asks that listed places keep the unknown or span that they held" (document 02, request 4): "while each listed
-- place keeps what it held and each listed pair is still not known, a piece filled in further suspends" (request 8).
use Prim.Native.Nat.{ℕ}
use mathlib.Core.Path.{◌≡◌, refl, sym, ap, subst, ◌∙◌}
use mathlib.Core.List.{List}
use native.Mathlib.Omega.{arith}
use Rattle.records.specs.Reading.{Reading, took, refused}
use Rattle.terms.specs.Filling.{FilledFurther}
use Rattle.terms.specs.Answer.{Answer, commit, execute, suspend, fail, word_of}
use Rattle.sheet.specs.Sheet.{Sheet}
use Rattle.piece.specs.Piece.{Piece}
use Rattle.promises.specs.AcceptedBytes.{AcceptedBytes}
use Rattle.decision.specs.Node.{Node}
use Rattle.decision.specs.Walk.{Walk}
use Rattle.decision.proofs.waiting.WaitSentenceKept as definitions
use Rattle.graph.specs.ReadGraph.{read_graph}
use Rattle.order.specs.Asking.{Asking}
use Rattle.walk.specs.Walking.{walk_reply, reply_values}
use Rattle.promises.specs.BuiltGraph.{BuiltGraph}
use Rattle.promises.proofs.PlainBytes.{terms_accepted}
use Rattle.promises.proofs.Demand2.{building, accepted_sheet_lem, built_asks, graph_read_back}
use Rattle.promises.proofs.Demand3.{walk_over_nodes}
use Rattle.promises.proofs.PathEdges.{walk_takes_none}
use Rattle.decision.specs.Waiting.{ListedKept}
use Rattle.build.specs.Building.{Building}

-- The word tells whether an answer is suspend.
word_suspends : (a : Answer) → word_of a ≡ word_of suspend → a ≡ suspend
word_suspends (commit i) e = absurd (omega (arith, e))
word_suspends (execute i) e = absurd (omega (arith, e))
word_suspends suspend e = refl
word_suspends fail e = absurd (omega (arith, e))

-- A reply with the word suspend, over a graph that is read as nodes, is a walk that suspends.
reply_suspends
    : {s p : List ℕ} {sheet : Sheet} {piece : Piece} → AcceptedBytes s p sheet piece
    → (g : List ℕ) {k : ℕ} {nodes : List (Node ℕ)} → read_graph sheet g ≡ took k nodes
    → (reply_values (walk_reply s g p)).word ≡ word_of suspend
    → (w : Walk) × (walk_reply s g p ≡ took 0 w) × (w.answer ≡ suspend)
reply_suspends {s} {p} {sheet} {piece} ok g {k} {nodes} read word = go (walk_reply s g p) refl
  where
    go : (r : Reading Walk) → walk_reply s g p ≡ r → (w : Walk) × (walk_reply s g p ≡ took 0 w) × (w.answer ≡ suspend)
    go (took k w) e =
        let none = walk_takes_none sheet.rules nodes piece.terms (sym (walk_over_nodes g ok read) ∙ e) in
        let suspends = word_suspends w.answer (ap (λ (x : Reading Walk). (reply_values x).word) (sym e) ∙ word) in
        (w, e ∙ ap (λ (n : ℕ). took n w) none, suspends)
    go (refused q) e = absurd (omega (arith, ap (λ (x : Reading Walk). (reply_values x).word) (sym e) ∙ word))

module _ {s p q : List ℕ} {sheet : Sheet} {piece further : Piece} (ok : AcceptedBytes s p sheet piece)
    (okFurther : AcceptedBytes s q sheet further) (more : FilledFurther piece.terms further.terms) where
  -- Of every built graph.
  module _ {asking : Asking} {buffer g : List ℕ} (built : BuiltGraph asking s buffer g) where
    abbrev built_as : Building asking s buffer
    built_as = building built ok.sheet_accepted

    -- "While each listed place keeps what it held and each listed pair is still not known, a piece filled in further suspends,
    -- although its walk may take another way."
    pub wait_sentence_kept
        : {w : Walk} → walk_reply s g p ≡ took 0 w → w.answer ≡ suspend
        → ListedKept sheet.rules w.waits piece.terms further.terms
        → (v : Walk) × (walk_reply s g q ≡ took 0 v) × (v.answer ≡ suspend)
    wait_sentence_kept {w} e suspends listed =
        let accepted = accepted_sheet_lem built ok.are_bytes.0 built_as in
        let read = graph_read_back built ok.are_bytes.0 built_as in
        let asks = built_asks built ok.are_bytes.0 built_as in
        let (v, walks, still) =
        definitions.wait_sentence_kept sheet accepted (built_as.order sheet.rules) asks built_as.nodes built_as.graph
        piece.terms further.terms (terms_accepted ok) (terms_accepted okFurther) more w
        (sym (walk_over_nodes g ok read) ∙ e) suspends listed in
        (v, walk_over_nodes g okFurther read ∙ walks, still)

    -- So it is of the word that `vt_walk` and of the wait list that `vt_wait` hands back.
    pub wait_word_kept
        : (reply_values (walk_reply s g p)).word ≡ word_of suspend
        → ListedKept sheet.rules (reply_values (walk_reply s g p)).waits piece.terms further.terms
        → (reply_values (walk_reply s g q)).word ≡ word_of suspend
    wait_word_kept word listed =
        let (w, answers, suspends) = reply_suspends ok g (graph_read_back built ok.are_bytes.0 built_as) word in
        let here =
        subst (λ (x : Reading Walk). ListedKept sheet.rules (reply_values x).waits piece.terms further.terms) answers
        listed in
        let (v, later, still) = wait_sentence_kept answers suspends here in
        ap (λ (x : Reading Walk). (reply_values x).word) later ∙ ap word_of still
