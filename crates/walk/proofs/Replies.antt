-- What a walk replies, question by question: from what was read of the sheet, the piece and the graph.
use Prim.Native.Nat.{ℕ}
use mathlib.Core.Path.{◌≡◌, refl, sym, ap, subst, ◌∙◌}
use mathlib.Core.Bool.{Bool}
use mathlib.Core.List.{List, []}
use lib.Dec.{eqb}
use lib.ListN.{length, get_or, drop, take}
use borrow.Author.Tests.{eq-eqb, ne_eqb}
use Rattle.records.specs.Fields.{IsByte}
use Rattle.records.specs.Reading.{Reading, took, refused, ask, and_then}
use Rattle.basics.specs.Lists.{All}
use Rattle.terms.specs.Accepted.{AcceptedPiece}
use Rattle.sheet.specs.Sheet.{Sheet, SoundSheet}
use Rattle.sheet.specs.ReadSheet.{read_rules}
use Rattle.sheet.proofs.ReadsSound.{sheet_sound}
use Rattle.sheet_tests.specs.views.TestedPlaces.{places_in}
use Rattle.sheet_tests.specs.CheckSheet.{accept_sheet}
use Rattle.accepted.proofs.CheckedSheets.{accepted_read}
use Rattle.accepted.specs.views.AcceptedAs.{AcceptedAs, AcceptedTests}
use Rattle.piece.specs.Piece.{Piece}
use Rattle.piece.specs.ReadPiece.{read_piece}
use Rattle.decision.specs.Walk.{Walk, walk}
use Rattle.graph.specs.ReadGraph.{read_graph}
use Rattle.graph.specs.views.Rewriting.{IsTook, read_or}
use Rattle.node_check.specs.views.CheckNode.{starts_from}
use Rattle.graph_check.specs.views.GraphIndex.{AcceptedGraphAs}
use Rattle.test_list.specs.views.Tests.{tests_put, Counted}
use Rattle.rule_masks.specs.views.TestNumbers.{Once}
use Rattle.rule_masks.specs.views.Kept.{Arrays, listed_tests, TestsStay}
use Rattle.path.specs.views.Following.{Index, cells_end, nodes_at}
use Rattle.walk.specs.views.LeafWalks.{end_walk}
use Rattle.walk.specs.views.Ready.{LeafNode, AsksKept, Ready, AcceptedKept, Checked}
use Rattle.walk.specs.Walking.{graph_reply, piece_reply, walk_reply}
use Rattle.rule_masks.proofs.Numbers.{sheet_once}
use Rattle.rule_masks.proofs.CodeNumbers.{listed_few}
use Rattle.rule_masks.proofs.ListedTests.{kept_counted, kept_are, stay_counted, stay_listed}
use Rattle.walk.proofs.Indexing.{nodes_are, nodes_leaves, nodes_asked, index_made}
use Rattle.walk.proofs.WalksAgree.{walk_agrees}
use Rattle.plain.specs.views.ReadAs.{ReadAs}

-- The sheet is refused, or the piece is asked about.
module _ (s g p : List ℕ) where
  abbrev for_sheet : ℕ → Sheet → Reading Walk
  for_sheet k sheet = piece_reply sheet g p

  pub sheet_refuses : {q : ℕ} → accept_sheet s ≡ refused q → refused q ≡ walk_reply s g p
  unfolding walk_reply
  sheet_refuses e = sym (ap (λ x. and_then x for_sheet) e)

  pub sheet_accepts : {k : ℕ} {sheet : Sheet} → accept_sheet s ≡ took k sheet → piece_reply sheet g p ≡ walk_reply s g p
  unfolding walk_reply
  sheet_accepts e = sym (ap (λ x. and_then x for_sheet) e)

-- The piece is refused, by 20 too, or the graph is asked about.
module _ (sheet : Sheet) (g p : List ℕ) where
  abbrev for_piece : ℕ → Piece → Reading Walk
  for_piece k piece = ask 20 (eqb sheet.arity piece.arity) (graph_reply sheet g piece.terms)

  pub piece_refuses : {q : ℕ} → read_piece p ≡ refused q → refused q ≡ piece_reply sheet g p
  piece_refuses e = sym (ap (λ x. and_then x for_piece) e)

  module _ {k : ℕ} {piece : Piece} (read : read_piece p ≡ took k piece) where
    pub arities_differ : (piece.arity ≡ sheet.arity → ⊥) → refused 20 ≡ piece_reply sheet g p
    arities_differ differ =
        sym
        (ap (λ x. and_then x for_piece) read
        ∙ ap (λ (b : Bool). ask 20 b (graph_reply sheet g piece.terms)) (ne_eqb sheet.arity piece.arity (λ e. differ (sym e))))

    pub piece_accepts : piece.arity ≡ sheet.arity → graph_reply sheet g piece.terms ≡ piece_reply sheet g p
    piece_accepts same =
        sym
        (ap (λ x. and_then x for_piece) read
        ∙ ap (λ (b : Bool). ask 20 b (graph_reply sheet g piece.terms)) (eq-eqb sheet.arity piece.arity (sym same)))

-- The bytes are one sheet.
pub same_sheet : {s : List ℕ} {arity count : ℕ} (t u : AcceptedAs s arity count) → t.sheet ≡ u.sheet
same_sheet t u =
    let read : took t.bytes t.sheet ≡ took u.bytes u.sheet = sym t.accepted ∙ u.accepted in
    (cc)

-- The graph is refused,
pub graph_refuses
    : (sheet : Sheet) (g : List ℕ) (piece : Piece) {q : ℕ} → read_graph sheet g ≡ refused q
    → refused q ≡ graph_reply sheet g piece.terms
graph_refuses sheet g piece e = sym (ap (λ r. and_then r (λ _ ns. walk sheet.rules ns piece.terms)) e)

-- or accepted for a sheet whose tests are listed,
module _ (s g kept : List ℕ) {arity count : ℕ} (t : AcceptedKept s kept arity count) (s-bytes : All IsByte s)
    (g-bytes : All IsByte g) (starts : List ℕ) {nodes : ℕ} (f : AcceptedGraphAs t.read.sheet g starts nodes) where
  abbrev sheet : Sheet
  sheet = t.read.sheet

  sound : SoundSheet sheet
  sound = sheet_sound s s-bytes (accepted_read s t.read.accepted)

  begin : take (length f.nodes) starts ≡ starts_from 5 f.nodes
  begin = ap (λ (n : ℕ). take n starts) f.count_is ∙ sym f.begin

  -- and walked over,
  pub ready_made : Ready (drop 3 s) g starts kept arity count nodes
  ready_made = record {
    few_arguments = t.read.few;
    rules_read = subst IsTook (sym t.read.rules_read) tt;
    listed = record { counted = t.counted; once = subst Once (sym t.tests) (sheet_once sheet.rules) };
    index = subst (Index g starts) f.count_is (index_made sheet sound g g-bytes f.read starts begin);
    leaves =
        subst (λ (n : ℕ). All (LeafNode count) (nodes_at g starts n)) f.count_is
        (subst (All (LeafNode count)) (sym (nodes_are sheet sound g g-bytes f.read starts begin))
        (subst (λ (n : ℕ). All (LeafNode n) f.nodes) t.count_is (nodes_leaves sheet sound g g-bytes f.read)));
    asked =
        subst (λ (n : ℕ). All (AsksKept (listed_tests kept)) (nodes_at g starts n)) f.count_is
        (subst (All (AsksKept (listed_tests kept))) (sym (nodes_are sheet sound g g-bytes f.read starts begin))
        (nodes_asked sheet sound g g-bytes f.read (listed_tests kept) t.tests));
  }

  -- which gives the reply.
  pub graph_walked
      : (p cells : List ℕ) (k : ReadAs p cells arity)
      → end_walk (read_or [] (read_rules arity count (drop 3 s))) (listed_tests kept) cells (cells_end (nodes_at g starts nodes) cells)
      ≡ graph_reply sheet g k.piece.terms
  graph_walked p cells k =
      (λ i.
      end_walk (read_or [] (t.read.rules_read i)) (listed_tests kept) (k.laid i)
      (cells_end (nodes_at g starts (sym f.count_is i)) (k.laid i)))
      ∙ walk_agrees sheet sound (listed_tests kept) t.tests (listed_few kept t.counted) k.piece.terms
      (subst (λ (n : ℕ). AcceptedPiece n k.piece.terms) (sym t.read.arity_is) k.accepted) f.nodes g g-bytes f.read
      starts begin

-- The tests of an accepted sheet that the arrays hold are listed.
module _ (s words codes : List ℕ) {arity count pairs : ℕ} (t : AcceptedTests s words codes arity count pairs)
    (s-bytes : All IsByte s) (arrays : Arrays words codes pairs) (blank : List ℕ) (entries : length blank ≡ 324) where
  abbrev listed : List ℕ
  listed = tests_put (places_in words) (take pairs codes) blank

  read_sound : SoundSheet t.read.sheet
  read_sound = sheet_sound s s-bytes (accepted_read s t.read.accepted)

  listed_counted : Counted listed
  listed_counted =
      kept_counted t.read.sheet.arity t.read.sheet.rules read_sound.few_arguments read_sound.accepted_rules words codes
      pairs t.tests arrays blank entries

  pub kept_stays : {kept : List ℕ} → kept ≡ listed → TestsStay listed kept
  kept_stays e =
      record { entries = ap length e ∙ listed_counted.entries; same = λ k h. ap (λ (l : List ℕ). get_or l k 0) e }

  -- So a graph that is accepted for it can be walked over.
  pub checked_kept
      : (g starts : List ℕ) {nodes : ℕ} {kept : List ℕ} → TestsStay listed kept
      → AcceptedGraphAs t.read.sheet g starts nodes → Checked s g starts kept arity count nodes
  checked_kept g starts {nodes} {kept} stay f = record {
    sheet = record {
      read = t.read;
      count_is = t.count_is;
      counted = stay_counted listed kept listed_counted stay;
      tests =
          stay_listed listed kept listed_counted stay
          ∙ kept_are t.read.sheet.arity t.read.sheet.rules read_sound.few_arguments read_sound.accepted_rules words codes
          pairs t.tests arrays blank entries;
    };
    graph = f;
  }
