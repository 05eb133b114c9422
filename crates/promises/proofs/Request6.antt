-- Request 6 of document 02, over bytes: record 35 in a piece's bytes, what it does at a test and at a node, what a piece that holds it
-- waits for, and pieces in which unknowns have become record 35. Demand 3, the monotone promise and the wait sentence hold of pieces
-- with record 35 under their own names.
use Prim.Native.Nat.{ℕ, ◌<◌}
use mathlib.Core.Path.{◌≡◌, refl, sym, ap, subst, ◌∙◌}
use mathlib.Core.Bool.{Bool, true, false, ◌&&◌, not}
use mathlib.Core.Logic.{◌⊎◌, inl, inr}
use mathlib.Core.List.{List, [], ◌∷◌}
use native.Mathlib.Omega.{arith}
use lib.Dec.{T}
use lib.ListN.{length}
use Rattle.places.specs.Numbering.{at_or_below}
use Rattle.masks.specs.Mask.{has, members}
use Rattle.masks.proofs.Extensionality.{has_mask_of}
use Rattle.records.specs.Reading.{took}
use Rattle.terms.specs.Term.{Term, Terms, never}
use Rattle.terms.specs.Pattern.{Patterns}
use Rattle.terms.specs.RuleTests.{PlaceTest, PairTest, both}
use Rattle.terms.specs.Lookup.{found, term_at}
use Rattle.terms.specs.Outcome.{Outcome, holds, not_known, contradicted, Contradicted, holds_never, compare, place_outcome, pair_outcome}
use Rattle.terms.specs.Filling.{Knowns}
use Rattle.terms.specs.Answer.{execute}
use Rattle.terms.specs.Right.{Keeps}
use Rattle.terms.proofs.Below.{below_hidden}
use Rattle.terms.proofs.Never as never
use Rattle.sheet.specs.Sheet.{Sheet}
use Rattle.sheet_tests.specs.SheetTests.{place, pair, sheet_tests}
use Rattle.piece.specs.Piece.{Piece}
use Rattle.piece.specs.ReadPiece.{read_term}
use Rattle.piece.specs.WritePiece.{piece_bytes}
use Rattle.piece.proofs.Spelled.{piece_spelled, written_piece}
use Rattle.piece.proofs.TermSpelled.{term_reads}
use Rattle.decision.specs.Rules.{test_at}
use Rattle.decision.specs.Key.{Key, asking, key_of, is_held}
use Rattle.decision.specs.Edges.{settled_by_unknown, by_unknown}
use Rattle.decision.specs.Node.{Node, CaseEdge, switch, pair_node}
use Rattle.decision.specs.Path.{go_to, by_comparison, step_at}
use Rattle.decision.specs.Walk.{Walk, is_unknown, walk}
use Rattle.decision.proofs.cases.Narrowest.{never_neither}
use Rattle.decision.proofs.waiting.NothingOpen.{Decided, never_decided, pair_decided, in_no_list, waits_for_nothing}
use Rattle.graph.specs.ReadGraph.{read_graph}
use Rattle.order.specs.Asking.{Asking}
use Rattle.walk.specs.Walking.{walk_reply}
use Rattle.promises.specs.AcceptedBytes.{AcceptedBytes}
use Rattle.promises.specs.BuiltGraph.{BuiltGraph}
use Rattle.promises.specs.TurnedNever.{TurnNever, with_terms}
use Rattle.promises.proofs.TurnedNever.{turned_sound, all_turned_further, all_may_turn}
use Rattle.promises.proofs.Request4.{asks_own}
use Rattle.promises.proofs.Demand3.{walk_over_nodes, demand_3, monotone_promise}
use Rattle.promises.proofs.PlainBytes.{terms_accepted}

-- "Record 35 stands for a reading that will never come. Question 14 admits it": it is read so, at every depth.
pub never_read : (below : ℕ) (rest : List ℕ) → read_term below (0x35 ∷ rest) ≡ took 1 never
never_read below rest = term_reads never below (0x35 ∷ []) rest tt (omega arith) refl

-- "A place below it is treated as it is":
pub never_below
    : (piece : Terms) (n m : ℕ) → T (at_or_below n m) → term_at piece n ≡ found never → term_at piece m ≡ found never
never_below = below_hidden never tt

module _ (piece : Terms) where
  -- "It contradicts every place test",
  pub never_contradicts : (x : PlaceTest) → term_at piece x.place ≡ found never → Contradicted (place_outcome piece x)
  never_contradicts x e = rw e tt

  -- "and a term that is or holds it differs from every term, itself and unknowns included": so the equality test of two places is
  -- contradicted where such a term stands at one of them.
  pub never_differs
      : (x : PairTest) {t u : Term} → term_at piece x.first ≡ found t → term_at piece x.second ≡ found u
      → T (holds_never t) ⊎ T (holds_never u) → Contradicted (pair_outcome piece x)
  never_differs x {t} {u} e d (inl h) = rw (e, d) (never.never_differs t h u).0
  never_differs x {t} {u} e d (inr h) = rw (e, d) (never.never_differs u h t).1

  -- "At a switch 35 takes the neither edge", and a place below it too, "by question 27 too"; at a pair it takes no's.
  pub never_at_switch
      : (n : ℕ) (cs : List (CaseEdge ℕ)) (x y : ℕ) → term_at piece n ≡ found never → step_at piece (switch n cs x y) ≡ go_to x
  never_at_switch n cs x y e = (rw e) ∙ ap go_to (never_neither cs x)

  pub never_at_pair
      : (p q x y : ℕ) {t u : Term} → term_at piece p ≡ found t → term_at piece q ≡ found u → T (holds_never t) ⊎ T (holds_never u)
      → step_at piece (pair_node p q x y) ≡ go_to x
  never_at_pair p q x y {t} {u} e d h =
      let differ : Contradicted (compare t u) = rw (e, d) at (never_differs (both p q) e d h) in
      (rw (e, d)) ∙ by_no (compare t u) differ
    where
      by_no : (o : Outcome) → Contradicted o → by_comparison x y o ≡ go_to x
      by_no holds c = absurd c
      by_no not_known c = absurd c
      by_no contradicted c = refl

-- "The unknown edge no longer settles any pair: pairs are asked": where it leads to a node that asks, a pair is pending exactly if it
-- was and a live rule has it.
pub unknown_leaves_pairs
    : (rules : List Patterns) (key behind : Key) (n t p q : ℕ) → by_unknown rules key n ≡ asking behind
    → t < length (sheet_tests rules) → test_at rules t ≡ pair p q
    → has behind.pending t ≡ (has key.pending t && is_held rules key.live t)
unknown_leaves_pairs rules key behind n t p q leads inside e =
    let left : ℕ → Bool = λ u. has key.pending u && not (settled_by_unknown n (test_at rules u)) in
    let own = asks_own rules (members (length rules) key.live) (key_of rules key.live left) behind leads in
    ap (λ (k : Key). has k.pending t) own
    ∙ has_mask_of (length (sheet_tests rules)) (λ u. left u && is_held rules key.live u) t inside
    ∙ (rw e) ∙ kept (has key.pending t)
  where
    kept : (b : Bool) → (b && not (settled_by_unknown n (pair p q)) && is_held rules key.live t) ≡ (b && is_held rules key.live t)
    kept true = refl
    kept false = refl

-- What the walk of accepted bytes over an accepted graph waits for.
module _ {s p : List ℕ} {sheet : Sheet} {piece : Piece} (ok : AcceptedBytes s p sheet piece)
    (g : List ℕ) {k : ℕ} {nodes : List (Node ℕ)} (read : read_graph sheet g ≡ took k nodes) where
  walks : {w : Walk} → walk_reply s g p ≡ took 0 w → walk sheet.rules nodes piece.terms ≡ took 0 w
  walks e = sym (walk_over_nodes g ok read) ∙ e

  -- A piece in which nothing is left to fill in, every reading being taken or one that will never come, waits for nothing: its list is
  -- empty, and it is never answered execute.
  pub known_waits_for_nothing
      : Knowns piece.terms → {w : Walk} → walk_reply s g p ≡ took 0 w
      → (w.waits ≡ 0) × ((i : ℕ) → w.answer ≡ execute i → ⊥)
  known_waits_for_nothing known e = waits_for_nothing sheet.rules nodes piece.terms known (walks e)

  -- No list has a place where record 35 stands,
  pub never_in_no_list
      : (t n : ℕ) → t < length (sheet_tests sheet.rules) → test_at sheet.rules t ≡ place n
      → term_at piece.terms n ≡ found never → {w : Walk} → walk_reply s g p ≡ took 0 w → has w.waits t ≡ false
  never_in_no_list t n inside is e taken =
      in_no_list sheet.rules nodes piece.terms t inside
      (subst (Decided sheet.rules nodes piece.terms) (sym is) (never_decided sheet.rules nodes piece.terms e)) (walks taken)

  -- nor a pair of which one term is or holds it.
  pub never_pair_in_no_list
      : (t : ℕ) (x : PairTest) {a b : Term} → t < length (sheet_tests sheet.rules)
      → test_at sheet.rules t ≡ pair x.first x.second → term_at piece.terms x.first ≡ found a
      → term_at piece.terms x.second ≡ found b → T (holds_never a) ⊎ T (holds_never b)
      → {w : Walk} → walk_reply s g p ≡ took 0 w → has w.waits t ≡ false
  never_pair_in_no_list t x inside is e d h taken =
      in_no_list sheet.rules nodes piece.terms t inside
      (subst (Decided sheet.rules nodes piece.terms) (sym is)
      (pair_decided sheet.rules nodes piece.terms (never_differs piece.terms x e d h))) (walks taken)

-- "A lacking sensor is no longer written as unknown": a piece in which some unknowns, any of them, have become record 35.
pub any_may_become : (ts : Terms) → (us : Terms) × TurnNever ts us × ((n : ℕ) → is_unknown (term_at us n) ≡ false)
any_may_become = all_may_turn

module _ {s p : List ℕ} {sheet : Sheet} {piece : Piece} (ok : AcceptedBytes s p sheet piece)
    {us : Terms} (turned : TurnNever piece.terms us) where
  -- It is accepted,
  pub turned_accepted : AcceptedBytes s (piece_bytes (with_terms piece us)) sheet (with_terms piece us)
  turned_accepted =
      let sound = ((piece_spelled p ok.are_bytes.1 ok.piece_took piece).0 ok.piece_accepted).0 in
      let written = written_piece (with_terms piece us) (turned_sound piece turned sound) in
      record {
        are_bytes = (ok.are_bytes.0, written.0);
        sheet_took = ok.sheet_took;
        piece_took = length (piece_bytes (with_terms piece us));
        sheet_accepted = ok.sheet_accepted;
        piece_accepted = written.1;
        same_arity = ok.same_arity;
      }

  -- and over every built graph keeps what was promised of the piece, since "an unknown may later become 35, and that is filling in
  -- more".
  pub turned_keeps
      : {asking : Asking} {buffer g : List ℕ} → BuiltGraph asking s buffer g → {w : Walk} → walk_reply s g p ≡ took 0 w
      → (v : Walk) × (walk_reply s g (piece_bytes (with_terms piece us)) ≡ took 0 v) × Keeps w.answer v.answer
  turned_keeps built e =
      let (v, taken, right) = demand_3 built turned_accepted in
      let more = all_turned_further turned (terms_accepted ok).well_formed in
      (v, taken, monotone_promise built ok turned_accepted more e taken)
