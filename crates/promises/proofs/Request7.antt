-- Request 7 of document 02, over bytes and, where it speaks of tests, over terms: numbers on gauges in a piece's bytes and ranges
-- on gauges in a sheet's, what they are equal to and accept, the gauges of a graph's number cases, and the graphs of older sheets.
-- Both spellings of a range on gauge 0 have the same graph, the same answers and the same tidy form by request 5's
-- `both_same_graph` and its neighbours.
use Prim.Native.Nat.{ℕ, ◌≤◌, ◌<◌}
use mathlib.Core.Path.{◌≡◌, refl, sym, ap, subst, ◌∙◌}
use mathlib.Core.Logic.{◌↔◌, inl, inr}
use mathlib.Core.List.{List, [], ◌∷◌, map}
use mathlib.Core.Option.{Option, some, none}
use native.Mathlib.Omega.{arith}
use lib.Dec.{T}
use lib.ListN.{length, get_or}
use Rattle.basics.specs.Lists.{Mem, All}
use Rattle.basics.proofs.ListLaws.{all_at}
use Rattle.basics.proofs.Filters.{mem_map}
use Rattle.records.specs.Fields.{wide_then, AreBytes}
use Rattle.records.specs.Reading.{Reading, took, refused, and_then}
use Rattle.terms.specs.Term.{Terms, number, numbers, Wide, on_gauge, gauge_of}
use Rattle.terms.specs.Pattern.{Patterns, the_range, the_gauged}
use Rattle.terms.specs.RuleTests.{a_number, PlaceTest, PairTest, Range, at, range_test, patterns_range, pattern_tests}
use Rattle.terms.specs.Lookup.{found, term_at}
use Rattle.terms.specs.Accepted.{AcceptedRule}
use Rattle.terms.specs.Outcome.{Holds, Contradicted, place_outcome, pair_outcome}
use Rattle.terms.proofs.Ranges.{WideRange, ranges_wide}
use Rattle.terms.proofs.Gauges as terms
use Rattle.terms.proofs.Gauges.{on_gauge_0, gauged_number, gauge_of_number, value_of_number}
use Rattle.sheet.specs.Sheet.{Sheet}
use Rattle.sheet.specs.ReadSheet.{read_pattern}
use Rattle.sheet.proofs.SpelledReads.{pattern_read_lem}
use Rattle.sheet.proofs.SpelledReads as spelled
use Rattle.sheet_tests.specs.CheckSheet.{accept_sheet}
use Rattle.accepted.proofs.Acceptance.{sheet_accepted_lem}
use Rattle.piece.specs.ReadPiece.{read_term}
use Rattle.piece.proofs.TermSpelled.{term_reads}
use Rattle.decision.specs.Key.{Key, fail_node}
use Rattle.decision.specs.Cases.{Case, numbers_case, takes}
use Rattle.decision.specs.Node.{Node, CaseEdge, end, switch}
use Rattle.decision.specs.Edges.{live_wants}
use Rattle.decision.specs.Sharing.{KeyBehind}
use Rattle.decision.specs.AcceptedGraph.{CaseFields, AcceptedSwitch, AcceptedNode, AcceptedGraph}
use Rattle.decision.specs.OlderGraph.{Olders, older_cases, OlderNode, older_graph_in, older_graph_bytes, lifted}
use Rattle.decision.proofs.rules.SoundWants.{wants_sound}
use Rattle.decision.proofs.cases.GaugesSentence.{no_other_gauge, takes_own_gauge}
use Rattle.decision.proofs.built.OlderSheets.{older_switch, older_graph, same_graph}
use Rattle.decision.proofs.built.LiftedGraph.{graph_lifted}
use Rattle.graph.specs.ReadGraph.{read_graph}
use Rattle.graph.proofs.Spelled.{graph_brought}
use Rattle.graph_check.specs.CheckGraph.{graph_reading}
use Rattle.graph_check.proofs.GraphBytes.{graph_accepted_lem}
use Rattle.order.specs.Asking.{Asking, read_asking}
use Rattle.build.specs.Building.{Building}
use Rattle.promises.specs.BuiltGraph.{BuiltGraph}
use Rattle.promises.proofs.AskingOrders.{order_is}
use Rattle.promises.proofs.Demand2.{building, accepted_sheet_lem, graph_to_the_byte}
use Rattle.promises.proofs.Request4.{built_switch_cases}

-- "Record 36 (gauge, wide value) is a number on a named gauge", and question 14 takes it in: it is read so, at every depth;
pub gauge_read
    : (below g v : ℕ) (rest : List ℕ) → g < 256 → Wide v
    → read_term below (0x36 ∷ g ∷ wide_then v rest) ≡ took 4 (number (on_gauge g v))
gauge_read below g v rest byte wide =
    let n = on_gauge g v in
    term_reads (number n) below (0x36 ∷ g ∷ wide_then v []) rest (omega arith, gauged_number g v byte wide, inl refl) (omega arith)
    (inr (refl, inr (λ i. 0x36 ∷ sym (gauge_of_number g v wide) i ∷ wide_then (sym (value_of_number g v wide) i) [])))

-- "record 32 means gauge 0".
pub record_32_is_gauge_0
    : (below v : ℕ) (rest : List ℕ) → Wide v
    → (read_term below (0x36 ∷ 0 ∷ wide_then v rest) ≡ took 4 (number v))
    × (read_term below (0x32 ∷ wide_then v rest) ≡ took 3 (number v))
record_32_is_gauge_0 below v rest wide = (
  gauge_read below 0 v rest (omega arith) wide ∙ ap (λ (n : ℕ). took 4 (number n)) (on_gauge_0 v),
  term_reads (number v) below (0x32 ∷ wide_then v []) rest (omega arith, omega arith, inl refl) (omega arith)
      (inr (refl, inl (wide, refl))),
)

-- "Pattern 27 (gauge, wide low, wide high)": question 4 takes it in, and it is read so, at every depth;
pub range_on_gauge_read
    : (below g low high : ℕ) (rest : List ℕ) → g < 256 → low ≤ high → Wide high
    → read_pattern below (0x27 ∷ g ∷ wide_then low (wide_then high rest)) ≡ took 6 (the_gauged g low high)
range_on_gauge_read below g low high rest byte ordered wide =
    pattern_read_lem (the_gauged g low high) below rest (omega arith, ordered, wide, byte)

-- so does question 7.
pub gauge_low_above_high
    : (below g low high : ℕ) (rest : List ℕ) → g < 256 → Wide low → Wide high → high < low
    → read_pattern below (0x27 ∷ g ∷ wide_then low (wide_then high rest)) ≡ refused 7
gauge_low_above_high = spelled.gauged_low_above_high

-- "Pattern 22 accepts gauge 0": wherever they stand, 22 and 27 with gauge 0 have the same test.
pub range_is_gauge_0
    : (range_of : ℕ → Option Range) (l h r b : ℕ)
    → pattern_tests range_of (the_range l h) r b ≡ pattern_tests range_of (the_gauged 0 l h) r b
range_is_gauge_0 range_of l h r b = λ i. at b (a_number (sym (on_gauge_0 l) i) (sym (on_gauge_0 h) i)) ∷ []

module _ (piece : Terms) where
  -- "Two numbers are now equal only if gauge and value are both equal": the equality test of two places where they stand holds
  -- then, and else is contradicted.
  pub equal_on_same_gauge
      : (x : PairTest) (g h v w : ℕ) → Wide v → Wide w → term_at piece x.first ≡ found (number (on_gauge g v))
      → term_at piece x.second ≡ found (number (on_gauge h w))
      → (Holds (pair_outcome piece x) ↔ ((g ≡ h) × (v ≡ w)))
      × (((g ≡ h) × (v ≡ w) → ⊥) → Contradicted (pair_outcome piece x))
  equal_on_same_gauge x g h v w p q e d = rw (e, d) (terms.equal_numbers g h v w p q, terms.unequal_numbers g h v w p q)

  -- "A span and a number on another gauge differ."
  pub span_differs
      : (x : PairTest) (a b g v : ℕ) → Wide b → 1 ≤ g → term_at piece x.first ≡ found (numbers a b)
      → term_at piece x.second ≡ found (number (on_gauge g v)) → Contradicted (pair_outcome piece x)
  span_differs x a b g v p q e d = rw (e, d) (terms.other_gauge_differs a b g v p q)

  -- "Pattern 27 (gauge, wide low, wide high) the one it names": where a number stands its test holds on that gauge from low to
  -- high, and else is contradicted.
  pub gauge_accepts
      : (range_of : ℕ → Option Range) (r n g k l h v : ℕ) → Wide h → Wide v → term_at piece n ≡ found (number (on_gauge k v))
      → (All (λ (x : PlaceTest). Holds (place_outcome piece x)) (pattern_tests range_of (the_gauged g l h) r n)
      ↔ ((g ≡ k) × (l ≤ v) × (v ≤ h)))
      × (((g ≡ k) × (l ≤ v) × (v ≤ h) → ⊥)
      → All (λ (x : PlaceTest). Contradicted (place_outcome piece x)) (pattern_tests range_of (the_gauged g l h) r n))
  gauge_accepts range_of r n g k l h v p q e =
      let fits-it = terms.gauge_fits g k l h v p q in
      rw e ((λ t. fits-it.0 t.0, λ t. (fits-it.1 t, tt)), λ f. (terms.gauge_misfits g k l h v p q f, tt))

  -- "Ranges on variables .. keep to gauge 0": where a variable has one, a number on another gauge contradicts its test.
  pub range_keeps_gauge_0
      : {arity : ℕ} (rule : Patterns) → AcceptedRule arity rule → (n g v w : ℕ) → 1 ≤ g
      → term_at piece n ≡ found (number (on_gauge g w))
      → All (λ (x : PlaceTest). Contradicted (place_outcome piece x)) (range_test n (patterns_range rule v))
  range_keeps_gauge_0 rule accepted n g v w some-gauge e = go (patterns_range rule v) (ranges_wide rule 4 accepted.sound v)
    where
      go : (x : Option Range) → WideRange x → All (λ (t : PlaceTest). Contradicted (place_outcome piece t)) (range_test n x)
      go none wide = tt
      go (some x) wide = (rw e (terms.other_gauge_contradicts x.low x.high g w wide some-gauge), tt)

-- "Record 46 .. takes only numbers of that gauge", in every graph that is read.
pub case_takes_its_gauge
    : (s g : List ℕ) → AreBytes s → AreBytes g → {nodes : List (Node ℕ)} → graph_reading s g ≡ took (length g) nodes
    → {n x y : ℕ} {cs : List (CaseEdge ℕ)} → Mem (switch n cs x y) nodes → {c : CaseEdge ℕ} → Mem c cs
    → (l h a b : ℕ) → c.case ≡ numbers_case l h → a ≤ b → T (takes (numbers_case l h) (numbers a b))
    → (gauge_of a ≡ gauge_of l) × (gauge_of b ≡ gauge_of l)
case_takes_its_gauge s g sBytes gBytes {nodes} read {n} {x} {y} {cs} among {c} m l h a b is ordered taken =
    let written = (graph_accepted_lem s g sBytes gBytes nodes).0 read in
    let accepted : AcceptedSwitch written.sheet.rules (length nodes) n cs x y =
    all_at (AcceptedNode written.sheet.rules (length nodes)) among written.accepted_graph.accepted_nodes in
    let fields = all_at (λ (d : CaseEdge ℕ). CaseFields d.case) m accepted.fields in
    takes_own_gauge l h a b (subst CaseFields is fields) ordered taken

-- Of the nodes that a built graph's bytes are read as.
module _ {asking : Asking} {s buffer g : List ℕ} {k : ℕ} {sheet : Sheet} (built : BuiltGraph asking s buffer g)
    (are_bytes : AreBytes s) (accepted : accept_sheet s ≡ took k sheet) {taken : ℕ} {nodes : List (Node ℕ)}
    (read : graph_reading s g ≡ took taken nodes) where
  abbrev made : Building asking s buffer
  made = building built accepted

  sound_rules : All (AcceptedRule sheet.arity) sheet.rules
  sound_rules = (accepted_sheet_lem built are_bytes made).sound.accepted_rules

  module _ {size : ℕ} {order : List Patterns → List ℕ} (ordered : read_asking asking ≡ took size order) {m n x y : ℕ}
      {cs : List (CaseEdge ℕ)} (inside : m < length nodes) (is : get_or nodes m (end fail_node) ≡ switch n cs x y) where
    -- "No other gauge has a case": each number case of a switch is on a gauge of which a live rule of the key behind it has a range
    -- there.
    pub case_on_wanted_gauge
        : {c : CaseEdge ℕ} → Mem c cs → (l h : ℕ) → c.case ≡ numbers_case l h
        → (key : Key) × KeyBehind sheet.rules (order sheet.rules) nodes m key
        × ((low high : ℕ) × Mem (a_number low high) (live_wants sheet.rules key.live n)
        × (gauge_of l ≡ gauge_of low) × (gauge_of h ≡ gauge_of low))
    case_on_wanted_gauge {c} among l h e =
        let (key, behind, same) = built_switch_cases built are_bytes accepted read ordered inside is in
        let ws = live_wants sheet.rules key.live n in
        let listed = subst (Mem (numbers_case l h)) same
        (subst (λ (d : Case). Mem d (map (λ (f : CaseEdge ℕ). f.case) cs)) e (mem_map (λ (f : CaseEdge ℕ). f.case) among)) in
        let w = no_other_gauge ws (wants_sound sheet.arity sheet.rules sound_rules key.live n) l h listed in
        (key, behind, (w.low, w.high, w.wanted, w.low_on, w.high_on))

    -- "Graphs of older sheets": where no rule has pattern 27, a switch has the cases that it had before,
    pub older_switch_cases
        : All Olders sheet.rules
        → (key : Key) × KeyBehind sheet.rules (order sheet.rules) nodes m key
        × (map (λ (c : CaseEdge ℕ). c.case) cs ≡ older_cases (live_wants sheet.rules key.live n))
    older_switch_cases older =
        let (key, behind, same) = built_switch_cases built are_bytes accepted read ordered inside is in
        (key, behind, same ∙ older_switch sheet.arity sheet.rules sound_rules older key.live n)

  -- and the graph's bytes are those of the graph of before, which "gain a gauge of 0 in each number case".
  pub older_graph_lifted
      : {size : ℕ} {order : List Patterns → List ℕ} → read_asking asking ≡ took size order → All Olders sheet.rules
      → (older : List (Node ℕ)) × (older_graph_in sheet.rules (order sheet.rules) ≡ some older)
      × (g ≡ lifted (older_graph_bytes sheet.arity (length sheet.rules) older))
  older_graph_lifted ordered older =
      let rules = sheet.rules in
      let tests = made.order rules in
      let on = older_graph sheet.arity rules sound_rules older tests made.nodes made.graph in (
        made.nodes,
        subst (λ (f : List Patterns → List ℕ). older_graph_in rules (f rules) ≡ some made.nodes) (order_is made ordered)
            (sym (same_graph sheet.arity rules sound_rules older tests) ∙ made.graph),
        graph_to_the_byte built made ∙ sym (graph_lifted sheet.arity (length rules) made.nodes on),
      )

-- "The second supplier's too": bytes of before of any nodes that are accepted for a sheet are read, lifted, as these nodes.
pub any_graph_lifted
    : (s : List ℕ) → AreBytes s → {k : ℕ} {sheet : Sheet} → accept_sheet s ≡ took k sheet → (nodes : List (Node ℕ))
    → AcceptedGraph sheet.rules nodes → All OlderNode nodes
    → (let bytes = lifted (older_graph_bytes sheet.arity (length sheet.rules) nodes) in
    graph_reading s bytes ≡ took (length bytes) nodes)
unfolding graph_reading
any_graph_lifted s are_bytes {k} {sheet} e nodes accepted on =
    let sound = ((sheet_accepted_lem s are_bytes k sheet).0 e).0.sound in
    let whole = graph_brought sheet sound nodes accepted in
    ap (λ (r : Reading Sheet). and_then r (λ _ x. read_graph x (lifted (older_graph_bytes sheet.arity (length sheet.rules) nodes)))) e
    ∙ subst (λ (l : List ℕ). read_graph sheet l ≡ took (length l) nodes)
    (sym (graph_lifted sheet.arity (length sheet.rules) nodes on)) whole
