-- The cases that document 01 marks (M), through bytes: one list, and one theorem for the list.
use Prim.Native.Nat.{ℕ}
use mathlib.Core.Path.{◌≡◌, refl, sym, ap, subst, ◌∙◌}
use mathlib.Core.Bool.{Bool, true, ◌&&◌}
use mathlib.Core.List.{List, [], ◌∷◌}
use mathlib.Core.Option.{Option, some, none}
use native.Mathlib.Omega.{arith}
use lib.Dec.{T, ltb, ltb→lt}
use lib.ListN.{take}
use Rattle.records.specs.Fields.{AreBytes}
use Rattle.records.specs.Reading.{took, read_row}
use Rattle.basics.specs.Lists.{All, all_below}
use Rattle.basics.proofs.Booleans.{both_true}
use Rattle.terms.specs.Pattern.{Patterns}
use Rattle.terms.specs.Answer.{Answer}
use Rattle.terms.specs.Marked.{MarkedWalk, MarkedCase, marked_cases}
use Rattle.sheet.specs.ReadSheet.{read_pattern, read_header, read_sheet}
use Rattle.sheet_tests.specs.CheckSheet.{accept_sheet}
use Rattle.piece.specs.ReadPiece.{read_term, read_prefix, read_piece}
use Rattle.promises.specs.AcceptedBytes.{AcceptedBytes}
use Rattle.decision.specs.Node.{Node}
use Rattle.decision.specs.Graph.{graph_in, lowest_first, graph_of}
use Rattle.decision.specs.Walk.{Walk}
use Rattle.decision.proofs.marked.MarkedWalks.{Told, walked_if, told_by, walk_in, AsMarked, marked_walks}
use Rattle.order.specs.Asking.{lowest}
use Rattle.build.specs.BuildOutcome.{BuildOutcome, build_outcome}
use Rattle.build.proofs.BuiltBytes.{built_outcome}
use Rattle.walk.specs.Walking.{walk_reply}
use Rattle.promises.specs.BuiltGraph.{BuiltGraph}
use Rattle.promises.specs.Marked.{case_sheet, case_piece, case_sheet_bytes, case_piece_bytes, AsMarkedWith, WalksAsMarked}
use Rattle.promises.proofs.AskingOrders.{order_is}
use Rattle.promises.proofs.Demand2.{building}
use Rattle.promises.proofs.Demand3.{demand_3, walks}
use Rattle.build.specs.Building.{bytes_of, Building}

-- The bytes are accepted as the sheet and the piece that they spell.
record Spelled (x : MarkedCase) : Type 0 where
  pub are_bytes : AreBytes (case_sheet_bytes x) × AreBytes (case_piece_bytes x)
  pub sheet_taken : ℕ
  pub sheet_read : accept_sheet (case_sheet_bytes x) ≡ took sheet_taken (case_sheet x)
  pub piece_taken : ℕ
  pub piece_read : read_piece (case_piece_bytes x) ≡ took piece_taken (case_piece x)

-- The sheet of a case whose walk is as marked has a graph,
has_graph : (x : MarkedCase) → AsMarked x → (nodes : List (Node ℕ)) × (graph_of x.rules ≡ some nodes)
has_graph x marked = go (graph_of x.rules) refl marked
  where
    go
        : (r : Option (List (Node ℕ))) → graph_of x.rules ≡ r
        → walk_in x r ≡ record { answer = some x.answer; walked = x.walked }
        → (nodes : List (Node ℕ)) × (graph_of x.rules ≡ some nodes)
    go none e m =
        let no : ◌≡◌ {A = Option Answer} none (some x.answer) = ap (λ (t : Told). t.answer) m in
        let z : ◌≡◌ {A = ℕ} 0 1 = cc in absurd (omega arith)
    go (some nodes) e m = (nodes, e)

-- and is built in a buffer of its length.
case_built : (x : MarkedCase) → Spelled x → AsMarked x → (buffer g : List ℕ) × BuiltGraph lowest (case_sheet_bytes x) buffer g
case_built x spelled marked =
    let (nodes, graph) = has_graph x marked in
    let buffer = bytes_of (case_sheet x) nodes in
    let b : Building lowest (case_sheet_bytes x) buffer =
    record {
      sheet = case_sheet x;
      taken = spelled.sheet_taken;
      accepted = spelled.sheet_read;
      order = lowest_first;
      table_taken = 0;
      ordered = refl;
      nodes = nodes;
      graph = graph;
      fits = omega arith;
    } in (
      buffer,
      take (build_outcome (case_sheet_bytes x) buffer).values.bytes (build_outcome (case_sheet_bytes x) buffer).buffer,
      record {
        not_refused = ap (λ (y : BuildOutcome). y.values.refusal) (built_outcome lowest (case_sheet_bytes x) buffer b);
        wrote = refl;
      },
    )

told_with : (marked : Option MarkedWalk) (w : Walk) → walked_if marked w ≡ marked → AsMarkedWith marked w
told_with none w e = tt
told_with (some given) w e =
    let same : record { edges = w.edges; waits = w.waits } ≡ given = cc in
    (ap (λ (y : MarkedWalk). y.edges) same, ap (λ (y : MarkedWalk). y.waits) same)

-- The walk over a graph built for it is the one that is marked.
case_walks : (x : MarkedCase) → Spelled x → AsMarked x → WalksAsMarked x
case_walks x spelled marked = record { is_built = case_built x spelled marked; walks = over }
  where
    ok : AcceptedBytes (case_sheet_bytes x) (case_piece_bytes x) (case_sheet x) (case_piece x)
    ok = record {
      are_bytes = spelled.are_bytes;
      sheet_took = spelled.sheet_taken;
      piece_took = spelled.piece_taken;
      sheet_accepted = spelled.sheet_read;
      piece_accepted = spelled.piece_read;
      same_arity = refl;
    }

    over
        : (buffer g : List ℕ) → BuiltGraph lowest (case_sheet_bytes x) buffer g
        → (w : Walk) × (walk_reply (case_sheet_bytes x) g (case_piece_bytes x) ≡ took 0 w)
        × (w.answer ≡ x.answer) × AsMarkedWith x.walked w
    over buffer g built =
        let (w, reply, right) = demand_3 built ok in
        let b = building built spelled.sheet_read in
        let graph : graph_of x.rules ≡ some b.nodes =
        subst (λ (f : List Patterns → List ℕ). graph_in x.rules (f x.rules) ≡ some b.nodes) (order_is b refl) b.graph in
        let told = ap (walk_in x) (sym graph) ∙ marked in
        let as-told = sym (ap (told_by x.walked) (walks built ok reply)) ∙ told in
        let answers : some w.answer ≡ some x.answer = ap (λ (y : Told). y.answer) as-told in
        (w, reply, (cc), told_with x.walked w (ap (λ (y : Told). y.walked) as-told))

-- A list is one of bytes where a test of each says so.
abbrev are_small : List ℕ → Bool
are_small [] = true
are_small (b ∷ bs) = ltb b 256 && are_small bs

small_bytes : (s : List ℕ) → T (are_small s) → AreBytes s
small_bytes [] h = tt
small_bytes (b ∷ bs) h = let (first, rest) = both_true (ltb b 256) (are_small bs) h in (ltb→lt b 256 first, small_bytes bs rest)

-- The sheet and the piece of a marked case, of so many bytes.
spelled
    : (x : MarkedCase) (k l : ℕ) → T (are_small (case_sheet_bytes x)) → T (are_small (case_piece_bytes x))
    → accept_sheet (case_sheet_bytes x) ≡ took k (case_sheet x) → read_piece (case_piece_bytes x) ≡ took l (case_piece x)
    → Spelled x
spelled x k l first second sheet piece =
    record {
      are_bytes = (small_bytes (case_sheet_bytes x) first, small_bytes (case_piece_bytes x) second);
      sheet_taken = k;
      sheet_read = sheet;
      piece_taken = l;
      piece_read = piece;
    }

all_spelled : All Spelled marked_cases
unfolding accept_sheet read_sheet read_header read_pattern read_row all_below read_term read_prefix read_piece
all_spelled = (
  spelled _ 13 8 tt tt refl refl,
  (
    spelled _ 13 6 tt tt refl refl,
    (
      spelled _ 13 4 tt tt refl refl,
      (
        spelled _ 13 8 tt tt refl refl,
        (
          spelled _ 63 7 tt tt refl refl,
          (
            spelled _ 63 9 tt tt refl refl,
            (
              spelled _ 63 7 tt tt refl refl,
              (
                spelled _ 63 7 tt tt refl refl,
                (
                  spelled _ 63 11 tt tt refl refl,
                  tt,
                ),
              ),
            ),
          ),
        ),
      ),
    ),
  ),
)

both_lists : (xs : List MarkedCase) → All Spelled xs → All AsMarked xs → All WalksAsMarked xs
both_lists [] h k = tt
both_lists (x ∷ xs) h k = (case_walks x h.0 k.0, both_lists xs h.1 k.1)

-- The marked cases: each sheet is built, and each walk over a graph built for it answers as marked.
pub marked_bytes : All WalksAsMarked marked_cases
marked_bytes = both_lists marked_cases all_spelled marked_walks
