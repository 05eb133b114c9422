-- The edges of a walk are the length of its path, whatever bytes it is handed, and no path that ends is longer than 64 edges.
use Prim.Native.Nat.{ℕ, zero, suc, pred, ◌≤◌}
use mathlib.Core.Path.{◌≡◌, refl, sym, ap, ◌∙◌}
use mathlib.Core.List.{List}
use native.Mathlib.Omega.{arith}
use lib.Dec.{eqb}
use lib.ListN.{length}
use Rattle.records.specs.Reading.{Reading, took, refused, ask, and_then}
use Rattle.records.proofs.Questions.{ask_took}
use Rattle.terms.specs.Term.{Terms}
use Rattle.terms.specs.Pattern.{Patterns}
use Rattle.sheet.specs.Sheet.{Sheet}
use Rattle.sheet_tests.specs.CheckSheet.{accept_sheet}
use Rattle.piece.specs.Piece.{Piece}
use Rattle.piece.specs.ReadPiece.{read_piece}
use Rattle.decision.specs.Key.{Leaf, fail_node, suspend_node, execute_node}
use Rattle.decision.specs.Node.{Node}
use Rattle.decision.specs.Path.{Way, Path, ends, Step, stop, go_to, no_way, through, node_at, step_at, last_step, next_step}
use Rattle.decision.specs.Path.{path_from, most_edges, path}
use Rattle.decision.specs.Walk.{Walk, at_leaf, at_end, walk}
use Rattle.graph.specs.ReadGraph.{read_graph}
use Rattle.walk.specs.Walking.{graph_reply, piece_reply, walk_reply}
use Rattle.promises.specs.Path.{EdgesOfPath}

-- A path that ends takes no bytes and has walked at most so many edges.
abbrev Within : ℕ → Path → Type 0
Within more (took a w) = (a ≡ 0) × (length w.walked ≤ suc more)
Within more (refused q) = Unit

through_within : (more n : ℕ) (p : Path) → Within more p → Within (suc more) (through n p)
through_within more n (took a w) h = (h.0, omega (arith, h.1))
through_within more n (refused q) h = tt

one_less : (n : ℕ) → n ≤ 65 → pred n ≤ 64
one_less zero h = omega arith
one_less (suc n) h = omega arith

module _ (nodes : List (Node ℕ)) (piece : Terms) where
  path_within : (more n : ℕ) → Within more (path_from nodes piece more n)
  path_within zero n = go (step_at piece (node_at nodes n))
    where
      go : (x : Step ℕ) → Within 0 (last_step n x)
      go (stop l) = (refl, omega arith)
      go (go_to m) = tt
      go no_way = tt
  path_within (suc more) n = go (path_within more) (step_at piece (node_at nodes n))
    where
      go
          : ((m : ℕ) → Within more (path_from nodes piece more m)) → (x : Step ℕ)
          → Within (suc more) (next_step (λ m. path_from nodes piece more m) n x)
      go later (stop l) = (refl, omega arith)
      go later (go_to m) = through_within more n (path_from nodes piece more m) (later m)
      go later no_way = tt

  ends_within : {a : ℕ} {way : Way} → path nodes piece ≡ took a way → (a ≡ 0) × (length way.walked ≤ 65)
  ends_within {a} {way} e = go (path nodes piece) (path_within most_edges 0) e
    where
      go : (p : Path) → Within 64 p → p ≡ took a way → (a ≡ 0) × (length way.walked ≤ 65)
      go (took b w) h d =
          let none : b ≡ a = cc in
          let same : w ≡ way = cc in
          (sym none ∙ h.0, omega (arith, h.1, ap (λ (x : Way). length x.walked) same))
      go (refused q) h d = let z : ◌≡◌ {A = ℕ} 0 1 = cc in absurd (omega arith)

module _ (rules : List Patterns) (nodes : List (Node ℕ)) (piece : Terms) where
  leaf_edges : (walked : List ℕ) (l : Leaf) → (at_leaf rules nodes piece walked l).edges ≡ pred (length walked)
  leaf_edges walked fail_node = refl
  leaf_edges walked suspend_node = refl
  leaf_edges walked (execute_node i) = refl

  -- The path of a walk that answers, of so many edges.
  record Ended (taken edges : ℕ) : Type 0 where
    pub walked : List ℕ
    pub leaf : Leaf
    pub is_path : path nodes piece ≡ ends walked leaf
    pub edges_are : edges ≡ pred (length walked)
    pub takes_none : taken ≡ 0

  walk_ended : {k : ℕ} {w : Walk} → walk rules nodes piece ≡ took k w → Ended k w.edges
  walk_ended {k} {w} e = go (path nodes piece) refl e
    where
      go : (p : Path) → path nodes piece ≡ p → at_end rules nodes piece p ≡ took k w → Ended k w.edges
      go (took a way) d h =
          let none = (ends_within nodes piece d).0 in
          let given : a ≡ k = cc in
          let same : at_leaf rules nodes piece way.walked way.last ≡ w = cc in
          record {
            walked = way.walked;
            leaf = way.last;
            is_path = d ∙ ap (λ (n : ℕ). took n way) none;
            edges_are = sym (ap (λ (v : Walk). v.edges) same) ∙ leaf_edges way.walked way.last;
            takes_none = sym given ∙ none;
          }
      go (refused q) d h = let z : ◌≡◌ {A = ℕ} 0 1 = cc in absurd (omega arith)

  -- A walk takes no bytes.
  pub walk_takes_none : {k : ℕ} {w : Walk} → walk rules nodes piece ≡ took k w → k ≡ 0
  walk_takes_none e = (walk_ended e).takes_none

-- "A walk that invents its edge count: the count equals the length of the path defined here."
pub edges_are_the_path : {s g p : List ℕ} {k : ℕ} {w : Walk} → walk_reply s g p ≡ took k w → EdgesOfPath s g p w.edges
unfolding walk_reply
edges_are_the_path {s} {g} {p} {k} {w} e = sheets (accept_sheet s) refl e
  where
    graphs
        : (sheet : Sheet) (a : ℕ) → accept_sheet s ≡ took a sheet → (piece : Piece) (b : ℕ) → read_piece p ≡ took b piece
        → (r : Reading (List (Node ℕ))) → read_graph sheet g ≡ r
        → and_then r (λ _ nodes. walk sheet.rules nodes piece.terms) ≡ took k w
        → EdgesOfPath s g p w.edges
    graphs sheet a sheet_accepted piece b piece_accepted (refused q) c d =
        let z : ◌≡◌ {A = ℕ} 0 1 = cc in absurd (omega arith)
    graphs sheet a sheet_accepted piece b piece_accepted (took l nodes) c d =
        let ended = walk_ended sheet.rules nodes piece.terms d in
        record {
          sheet = sheet;
          sheet_taken = a;
          sheet_accepted = sheet_accepted;
          piece = piece;
          piece_taken = b;
          piece_accepted = piece_accepted;
          nodes = nodes;
          graph_taken = l;
          graph_accepted = c;
          walked = ended.walked;
          leaf = ended.leaf;
          is_path = ended.is_path;
          edges_are = ended.edges_are;
        }

    pieces
        : (sheet : Sheet) (a : ℕ) → accept_sheet s ≡ took a sheet → (r : Reading Piece) → read_piece p ≡ r
        → and_then r (λ _ piece. ask 20 (eqb sheet.arity piece.arity) (graph_reply sheet g piece.terms)) ≡ took k w
        → EdgesOfPath s g p w.edges
    pieces sheet a accepted (took b piece) c d =
        graphs sheet a accepted piece b c (read_graph sheet g) refl
        (ask_took 20 (eqb sheet.arity piece.arity) (graph_reply sheet g piece.terms) d).1
    pieces sheet a accepted (refused q) c d = let z : ◌≡◌ {A = ℕ} 0 1 = cc in absurd (omega arith)

    sheets
        : (r : Reading Sheet) → accept_sheet s ≡ r → and_then r (λ _ sheet. piece_reply sheet g p) ≡ took k w
        → EdgesOfPath s g p w.edges
    sheets (took a sheet) c d = pieces sheet a c (read_piece p) refl d
    sheets (refused q) c d = let z : ◌≡◌ {A = ℕ} 0 1 = cc in absurd (omega arith)

-- So a walk has at most 64 edges.
pub path_few : {s g p : List ℕ} {edges : ℕ} → EdgesOfPath s g p edges → edges ≤ 64
path_few x =
    omega (arith, x.edges_are, one_less (length x.walked) (ends_within x.nodes x.piece.terms x.is_path).1)
