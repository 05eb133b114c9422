-- Request 4 of document 02, over bytes: spans in a piece's bytes, the cases of a built graph's switches, and the list of a piece
-- that suspends. Demand 3, the monotone promise and the wait sentence hold of pieces with spans under their own names.
use Prim.Native.Nat.{ℕ, ◌≤◌, ◌<◌}
use mathlib.Core.Path.{◌≡◌, refl, sym, ap, subst, ◌∙◌}
use mathlib.Core.Bool.{Bool, true, false, cond}
use mathlib.Core.Logic.{inl, inr}
use mathlib.Core.List.{List, [], ◌∷◌, map}
use mathlib.Core.Option.{Option, some, none}
use native.Mathlib.Omega.{arith}
use lib.Dec.{eqb}
use lib.ListN.{length, get_or}
use Rattle.basics.proofs.Clash.{clash}
use Rattle.masks.specs.Mask.{members}
use Rattle.records.specs.Fields.{wide_then, AreBytes}
use Rattle.records.specs.Reading.{Reading, took, refused, ask, and_then}
use Rattle.terms.specs.Term.{Wide, number, numbers}
use Rattle.terms.specs.Pattern.{Patterns}
use Rattle.terms.specs.Answer.{suspend, plain_answer}
use Rattle.sheet.specs.Sheet.{Sheet}
use Rattle.sheet_tests.specs.SheetTests.{Test, place, pair}
use Rattle.sheet_tests.specs.CheckSheet.{accept_sheet}
use Rattle.piece.specs.Piece.{Piece}
use Rattle.piece.specs.ReadPiece.{read_term, read_piece}
use Rattle.piece.proofs.TermSpelled.{term_reads}
use Rattle.piece.proofs.TermSpelled as spelled
use Rattle.plain.specs.Plain.{plain_reading}
use Rattle.decision.specs.Key.{Key, fail_node, suspend_node, Vertex, leaf, asking, vertex_with, vertex_of, settled, two_or_more}
use Rattle.decision.specs.Rules.{test_at}
use Rattle.decision.specs.Cases.{Case, cases_of}
use Rattle.decision.specs.Node.{Node, CaseEdge, end, switch, map_case, map_node}
use Rattle.decision.specs.Edges.{live_wants, first_in, ask_first, ask_node, node_of, by_case}
use Rattle.decision.specs.Path.{path, ends}
use Rattle.decision.specs.Walk.{Walk, suspend_waits}
use Rattle.decision.specs.Sharing.{KeyBehind}
use Rattle.decision.proofs.waiting.Suspended.{suspended}
use Rattle.graph.specs.ReadGraph.{read_graph}
use Rattle.graph_check.specs.CheckGraph.{graph_reading}
use Rattle.order.specs.Asking.{Asking, read_asking}
use Rattle.walk.specs.Walking.{graph_reply, walk_reply}
use Rattle.promises.specs.AcceptedBytes.{AcceptedBytes}
use Rattle.promises.specs.BuiltGraph.{BuiltGraph}
use Rattle.promises.proofs.Sharing.{shared}
use Rattle.promises.proofs.Demand3.{walk_over_nodes}

-- "A piece may hold record 34 (wide low, wide high)": "question 14 admits it", and it is read as that span, at every depth.
pub span_read
    : (below low high : ℕ) (rest : List ℕ) → low ≤ high → Wide high
    → read_term below (0x34 ∷ wide_then low (wide_then high rest)) ≡ took 5 (numbers low high)
span_read below low high rest ordered wide =
    term_reads (numbers low high) below (0x34 ∷ wide_then low (wide_then high [])) rest (ordered, omega arith, inr wide) (omega arith)
    (inl (wide, refl))

-- "So a span with equal ends is that number": record 34 with equal ends and record 32 are read as the same term.
pub equal_ends_read
    : (below a : ℕ) (rest : List ℕ) → Wide a
    → (read_term below (0x34 ∷ wide_then a (wide_then a rest)) ≡ took 5 (number a))
    × (read_term below (0x32 ∷ wide_then a rest) ≡ took 3 (number a))
equal_ends_read below a rest wide = (
  span_read below a a rest (omega arith) wide,
  term_reads (number a) below (0x32 ∷ wide_then a []) rest (omega arith, omega arith, inl refl) (omega arith)
      (inr (refl, inl (wide, refl))),
)

-- "A span with low above high is refused (32), after question 16 at that term", at every depth: whatever follows it, so before any
-- question at the next term.
pub low_above_high_refused
    : (below low high : ℕ) (rest : List ℕ) → Wide low → Wide high → high < low
    → read_term below (0x34 ∷ wide_then low (wide_then high rest)) ≡ refused 32
low_above_high_refused = spelled.low_above_high_refused

-- Bytes that are read as the same piece, however they spell its numbers, get the same plain answer, and the same walk over every
-- graph.
module _ (p q : List ℕ) {k l : ℕ} {piece : Piece} (read : read_piece p ≡ took k piece) (other : read_piece q ≡ took l piece) where
  same_read : {A : Type 0} (f : Piece → Reading A) → and_then (read_piece p) (λ _ x. f x) ≡ and_then (read_piece q) (λ _ x. f x)
  same_read f =
      ap (λ (r : Reading Piece). and_then r (λ _ x. f x)) read ∙ sym (ap (λ (r : Reading Piece). and_then r (λ _ x. f x)) other)

  pub same_piece_answers : (s : List ℕ) → plain_reading s p ≡ plain_reading s q
  unfolding plain_reading
  same_piece_answers s = λ i. and_then (accept_sheet s)
      (λ _ sheet. same_read (λ x. ask 20 (eqb sheet.arity x.arity) (took 0 (plain_answer sheet.rules x.terms))) i)

  pub same_piece_walks : (s g : List ℕ) → walk_reply s g p ≡ walk_reply s g q
  unfolding walk_reply
  same_piece_walks s g = λ i. and_then (accept_sheet s)
      (λ _ sheet. same_read (λ x. ask 20 (eqb sheet.arity x.arity) (graph_reply sheet g x.terms)) i)

-- A vertex that asks is that of its own key.
pub asks_own : (rules : List Patterns) (live : List ℕ) (key k : Key) → vertex_with rules live key ≡ asking k → k ≡ key
asks_own rules [] key k e = clash (cc)
asks_own rules (i ∷ []) key k e = clash (cc)
asks_own rules (i ∷ (j ∷ l)) key k e = go (two_or_more (members (length rules) (settled rules key))) e
  where
    go : (b : Bool) → cond b (leaf suspend_node) (asking key) ≡ asking k → k ≡ key
    go true d = clash (cc)
    go false d = cc

-- The cases of edges whose vertices were numbered are the cases.
cases_kept
    : (numbering : Vertex → ℕ) (f : Case → Vertex) (cs : List Case)
    → map (λ (c : CaseEdge ℕ). c.case) (map (map_case numbering) (map (λ (c : Case). record { case = c; target = f c }) cs)) ≡ cs
cases_kept numbering f [] = refl
cases_kept numbering f (c ∷ cs) = ap (λ (ds : List Case). c ∷ ds) (cases_kept numbering f cs)

-- A switch at the number of a key has the cases for what the key's live rules want at its place.
module _ (rules : List Patterns) (numbering : Vertex → ℕ) (n : ℕ) (cs : List (CaseEdge ℕ)) (x y : ℕ) where
  abbrev HasCases : Key → Type 0
  HasCases key = map (λ (c : CaseEdge ℕ). c.case) cs ≡ cases_of (live_wants rules key.live n)

  asked_cases
      : (key : Key) (t : ℕ) (test : Test) → map_node numbering (ask_node rules key t test) ≡ switch n cs x y → HasCases key
  asked_cases key t (place m) e =
      let same : m ≡ n = cc in
      let are
      : map (map_case numbering) (map (λ (c : Case). record { case = c; target = by_case rules key t m c })
      (cases_of (live_wants rules key.live m)))
      ≡ cs
      = cc in
      ap (map (λ (c : CaseEdge ℕ). c.case)) (sym are)
      ∙ cases_kept numbering (by_case rules key t m) (cases_of (live_wants rules key.live m))
      ∙ ap (λ (k : ℕ). cases_of (live_wants rules key.live k)) same
  asked_cases key t (pair p q) e = clash (cc)

  switch_of_key
      : (order : List ℕ) (key : Key) → map_node numbering (node_of rules order (vertex_of rules key)) ≡ switch n cs x y → HasCases key
  switch_of_key order key e = go (vertex_of rules key) refl e
    where
      first : (k : Key) (o : Option ℕ) → map_node numbering (ask_first rules k o) ≡ switch n cs x y → HasCases k
      first k none d = clash (cc)
      first k (some t) d = asked_cases k t (test_at rules t) d

      go : (v : Vertex) → vertex_of rules key ≡ v → map_node numbering (node_of rules order v) ≡ switch n cs x y → HasCases key
      go (leaf l) is d = clash (cc)
      go (asking k) is d =
          subst HasCases (asks_own rules (members (length rules) key.live) key k is) (first k (first_in k.pending order) d)

-- Of the nodes that a built graph's bytes are read as.
module _ {asking : Asking} {s buffer g : List ℕ} {k : ℕ} {sheet : Sheet} (built : BuiltGraph asking s buffer g)
    (are_bytes : AreBytes s) (accepted : accept_sheet s ≡ took k sheet) {taken : ℕ} {nodes : List (Node ℕ)}
    (read : graph_reading s g ≡ took taken nodes) {size : ℕ} {order : List Patterns → List ℕ}
    (ordered : read_asking asking ≡ took size order) where
  -- The cases of a switch are those for what the live rules of the key behind it want at its place: "where a live rule has a range
  -- at a switch's place, .. one case for each pair of first and last run", "elsewhere a switch has no number case".
  pub built_switch_cases
      : {m n x y : ℕ} {cs : List (CaseEdge ℕ)} → m < length nodes → get_or nodes m (end fail_node) ≡ switch n cs x y
      → (key : Key) × KeyBehind sheet.rules (order sheet.rules) nodes m key
      × (map (λ (c : CaseEdge ℕ). c.case) cs ≡ cases_of (live_wants sheet.rules key.live n))
  built_switch_cases {m} {n} {x} {y} {cs} inside is =
      let rules = sheet.rules in
      let share = shared built are_bytes accepted read ordered in
      let (key, behind) = share.node_key m inside in
      (key, behind, switch_of_key rules share.number n cs x y (order rules) key (sym (share.key_node behind) ∙ is))

-- "For suspend, a place met is also listed if its span lies partly inside and partly outside the range of a rule live there": over
-- every accepted graph, the list of a piece that suspends is that of the nodes on its path.
pub suspend_list
    : {s p : List ℕ} {sheet : Sheet} {piece : Piece} → AcceptedBytes s p sheet piece
    → (g : List ℕ) {k : ℕ} {nodes : List (Node ℕ)} → read_graph sheet g ≡ took k nodes
    → (w : Walk) → walk_reply s g p ≡ took 0 w → w.answer ≡ suspend
    → (walked : List ℕ) × (path nodes piece.terms ≡ ends walked suspend_node)
    × (w.waits ≡ suspend_waits sheet.rules nodes piece.terms walked)
suspend_list {sheet = sheet} {piece = piece} ok g {nodes = nodes} read w e suspends =
    let h = suspended sheet.rules nodes piece.terms w (sym (walk_over_nodes g ok read) ∙ e) suspends in
    (h.walked, h.taken, sym (ap (λ (v : Walk). v.waits) h.told))
