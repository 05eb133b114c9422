-- Demand 3 of what the calls hand back: of every result whose values are those that the contract of `walk` or of `plain` gives.
use Prim.Native.Nat.{ℕ}
use mathlib.Core.Path.{◌≡◌, refl, sym, ap, subst, ◌∙◌}
use mathlib.Core.List.{List}
use native.Mathlib.Omega.{arith}
use Rattle.std.specs.Prelude.{Result, Ok, Err}
use Rattle.records.specs.Reading.{Reading, took, refused}
use Rattle.records.specs.Refusals.{number}
use Rattle.records.specs.declared.refusal.Refusal.{Refusal}
use Rattle.terms.specs.Filling.{FilledFurther}
use Rattle.terms.specs.Answer.{Answer, commit, execute, suspend, fail, word_of, rule_of}
use Rattle.terms.specs.Right.{Right, Keeps}
use Rattle.sheet.specs.Sheet.{Sheet}
use Rattle.piece.specs.Piece.{Piece}
use Rattle.plain.specs.declared.Answer as answer
use Rattle.promises.specs.AcceptedBytes.{AcceptedBytes}
use Rattle.plain.specs.Plain.{PlainValues, plain_reading, answer_values, reading_values, answer_of, plain_values}
use Rattle.promises.proofs.PlainBytes.{plain_bytes_right, plain_bytes_keep}
use Rattle.decision.specs.Walk.{Walk}
use Rattle.order.specs.Asking.{Asking}
use Rattle.walk.specs.declared.Walk as given
use Rattle.walk.specs.Walking.{WalkValues, walk_reply, reply_values, walk_values, walked_values}
use Rattle.promises.specs.BuiltGraph.{BuiltGraph}
use Rattle.promises.specs.Path.{EdgesOfPath}
use Rattle.promises.proofs.PathEdges.{edges_are_the_path}
use Rattle.promises.proofs.Demand3.{demand_3, walk_is_plain, monotone_promise}
use Rattle.promises.proofs.Waiting.{wait_word_kept}
use Rattle.decision.specs.Waiting.{ListedKept}

-- Word and rule determine the answer.
pub answer_determined : (a b : Answer) → word_of a ≡ word_of b → rule_of a ≡ rule_of b → a ≡ b
answer_determined (commit i) (commit j) w r = ap commit r
answer_determined (commit i) (execute j) w r = absurd (omega (arith, w))
answer_determined (commit i) suspend w r = absurd (omega (arith, w))
answer_determined (commit i) fail w r = absurd (omega (arith, w))
answer_determined (execute i) (commit j) w r = absurd (omega (arith, w))
answer_determined (execute i) (execute j) w r = ap execute r
answer_determined (execute i) suspend w r = absurd (omega (arith, w))
answer_determined (execute i) fail w r = absurd (omega (arith, w))
answer_determined suspend (commit j) w r = absurd (omega (arith, w))
answer_determined suspend (execute j) w r = absurd (omega (arith, w))
answer_determined suspend suspend w r = refl
answer_determined suspend fail w r = absurd (omega (arith, w))
answer_determined fail (commit j) w r = absurd (omega (arith, w))
answer_determined fail (execute j) w r = absurd (omega (arith, w))
answer_determined fail suspend w r = absurd (omega (arith, w))
answer_determined fail fail w r = refl

-- No answer has the word 0, which a refusal has.
no_word : (a : Answer) → ◌≡◌ {A = ℕ} 0 (word_of a) → ⊥
no_word (commit i) e = omega (arith, e)
no_word (execute i) e = omega (arith, e)
no_word suspend e = omega (arith, e)
no_word fail e = omega (arith, e)

-- What has the values of an answer is that answer.
plain_handed
    : (r : Result answer.Answer Refusal) (a : Answer) → plain_values r ≡ answer_values a
    → (b : answer.Answer) × (r ≡ Ok b) × (answer_of b ≡ a)
plain_handed (Ok b) a e = (
  b,
  refl,
  answer_determined (answer_of b) a (ap (λ (x : PlainValues). x.word) e) (ap (λ (x : PlainValues). x.rule) e),
)
plain_handed (Err q) a e = absurd (no_word a (ap (λ (x : PlainValues). x.word) e))

walk_handed
    : (r : Result given.Walk Refusal) (w : Walk) → walked_values r ≡ walk_values w
    → (v : given.Walk) × (r ≡ Ok v) × (answer_of v.answer ≡ w.answer)
walk_handed (Ok v) w e = (
  v,
  refl,
  answer_determined (answer_of v.answer) w.answer (ap (λ (x : WalkValues). x.word) e) (ap (λ (x : WalkValues). x.rule) e),
)
walk_handed (Err q) w e = absurd (no_word w.answer (ap (λ (x : WalkValues). x.word) e))

-- The edges of what `walk` answers, over any bytes, are those of the piece's path.
pub walk_call_edges
    : (s g p : List ℕ) (w : given.Walk) → walked_values (Ok w) ≡ reply_values (walk_reply s g p)
    → EdgesOfPath s g p w.edges
walk_call_edges s g p w e = go (walk_reply s g p) refl e
  where
    go
        : (r : Reading Walk) → walk_reply s g p ≡ r → walked_values (Ok w) ≡ reply_values r
        → EdgesOfPath s g p w.edges
    go (took k v) d h = subst (EdgesOfPath s g p) (sym (ap (λ (x : WalkValues). x.edges) h)) (edges_are_the_path d)
    go (refused q) d h = absurd (no_word (answer_of w.answer) (sym (ap (λ (x : WalkValues). x.word) h)))

-- What `plain` hands back for accepted bytes is an answer and no refusal, and the answer is right.
pub plain_call_right
    : {s p : List ℕ} {sheet : Sheet} {piece : Piece} → AcceptedBytes s p sheet piece
    → (r : Result answer.Answer Refusal) → plain_values r ≡ reading_values (plain_reading s p)
    → (a : answer.Answer) × (r ≡ Ok a) × Right sheet.rules piece.terms (answer_of a)
plain_call_right {sheet = sheet} {piece = piece} ok r e =
    let (due, values, right) = plain_bytes_right ok in
    let (a, is, same) = plain_handed r due (e ∙ values) in
    (a, is, subst (Right sheet.rules piece.terms) (sym same) right)

-- For a piece filled in further it keeps what it promised.
pub plain_call_keeps
    : {s p q : List ℕ} {sheet : Sheet} {piece further : Piece} → AcceptedBytes s p sheet piece → AcceptedBytes s q sheet further
    → FilledFurther piece.terms further.terms
    → (r t : Result answer.Answer Refusal) → plain_values r ≡ reading_values (plain_reading s p)
    → plain_values t ≡ reading_values (plain_reading s q)
    → (a b : answer.Answer) × (r ≡ Ok a) × (t ≡ Ok b)
    × Keeps (answer_of a) (answer_of b)
plain_call_keeps ok okFurther more r t e d =
    let (due, later, values, valuesLater, keeps) = plain_bytes_keep ok okFurther more in
    let (a, is, same) = plain_handed r due (e ∙ values) in
    let (b, is_later, sameLater) = plain_handed t later (d ∙ valuesLater) in (
      a,
      b,
      is,
      is_later,
      subst (λ (x : Answer). Keeps x (answer_of b)) (sym same) (subst (λ (x : Answer). Keeps due x) (sym sameLater) keeps),
    )

module _ {asking : Asking} {s buffer g p : List ℕ} {sheet : Sheet} {piece : Piece} (built : BuiltGraph asking s buffer g)
    (ok : AcceptedBytes s p sheet piece) where
  -- What `walk` hands back over a built graph is an answer and no refusal, and the answer is right.
  pub walk_call_right
      : (r : Result given.Walk Refusal) → walked_values r ≡ reply_values (walk_reply s g p)
      → (w : given.Walk) × (r ≡ Ok w)
      × Right sheet.rules piece.terms (answer_of w.answer)
  walk_call_right r e =
      let (due, reply, right) = demand_3 built ok in
      let (w, is, same) = walk_handed r due (e ∙ ap reply_values reply) in
      (w, is, subst (Right sheet.rules piece.terms) (sym same) right)

  -- It is the answer that `plain` hands back.
  pub walk_call_plain
      : (r : Result given.Walk Refusal) → walked_values r ≡ reply_values (walk_reply s g p)
      → (t : Result answer.Answer Refusal) → plain_values t ≡ reading_values (plain_reading s p)
      → (w : given.Walk) × (a : answer.Answer) × (r ≡ Ok w) × (t ≡ Ok a)
      × (answer_of w.answer ≡ answer_of a)
  walk_call_plain r e t d =
      let (due, reply, right) = demand_3 built ok in
      let (w, is, same) = walk_handed r due (e ∙ ap reply_values reply) in
      let (a, is_plain, samePlain) = plain_handed t due.answer (d ∙ walk_is_plain built ok reply) in
      (w, a, is, is_plain, same ∙ sym samePlain)

  module _ {q : List ℕ} {further : Piece} (okFurther : AcceptedBytes s q sheet further)
      (more : FilledFurther piece.terms further.terms) (r t : Result given.Walk Refusal)
      (e : walked_values r ≡ reply_values (walk_reply s g p)) (d : walked_values t ≡ reply_values (walk_reply s g q)) where
    -- For a piece filled in further it keeps what it promised.
    pub walk_call_keeps
        : (w v : given.Walk) × (r ≡ Ok w) × (t ≡ Ok v)
        × Keeps (answer_of w.answer) (answer_of v.answer)
    walk_call_keeps =
        let (due, reply, right) = demand_3 built ok in
        let (later, replyLater, rightLater) = demand_3 built okFurther in
        let keeps = monotone_promise built ok okFurther more reply replyLater in
        let (w, is, same) = walk_handed r due (e ∙ ap reply_values reply) in
        let (v, is_later, sameLater) = walk_handed t later (d ∙ ap reply_values replyLater) in (
          w,
          v,
          is,
          is_later,
          subst (λ (x : Answer). Keeps x (answer_of v.answer)) (sym same)
              (subst (λ (x : Answer). Keeps due.answer x) (sym sameLater) keeps),
        )

    -- "While each listed place keeps what it held and each listed pair is still not known, a piece filled in further suspends":
    -- where `walk` hands back suspend, it hands back suspend for the piece filled in further.
    pub walk_call_kept
        : (waits : ℕ) → waits ≡ (reply_values (walk_reply s g p)).waits
        → (walked_values r).word ≡ word_of suspend → ListedKept sheet.rules waits piece.terms further.terms
        → (walked_values t).word ≡ word_of suspend
    walk_call_kept waits is word listed =
        ap (λ (x : WalkValues). x.word) d
        ∙ wait_word_kept ok okFurther more built (ap (λ (x : WalkValues). x.word) (sym e) ∙ word)
        (subst (λ (n : ℕ). ListedKept sheet.rules n piece.terms further.terms) is listed)
