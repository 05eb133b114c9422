-- What is known of the sheet and its graph, and of the piece that the input begins with, tells what the walk replies.
use Prim.Native.Nat.{ℕ}
use mathlib.Core.Path.{◌≡◌, sym, ap, subst, ◌∙◌}
use mathlib.Core.List.{List}
use native.Mathlib.Omega.{arith}
use lib.ListN.{length, get_or, take, drop}
use lib.Seq.{take_at}
use Rattle.records.specs.Fields.{IsByte}
use Rattle.records.specs.Reading.{Reading, took, refused, and_then, map_reading}
use Rattle.records.proofs.Rows.{took_view, refused_view}
use Rattle.records.proofs.ByteLists.{bytes_all}
use Rattle.terms.specs.Accepted.{AcceptedPiece}
use Rattle.sheet.specs.Sheet.{Sheet}
use Rattle.piece.specs.Piece.{Piece}
use Rattle.piece.specs.declared.Prefix.{Prefix}
use Rattle.std.specs.Prelude.{Result, Ok, Err}
use Rattle.records.specs.Refusals.{number}
use Rattle.records.specs.declared.refusal.Refusal.{Refusal}
use Rattle.piece.specs.ReadPiece.{read_prefix, read_piece}
use Rattle.piece.specs.views.LaidOut.{LaidOut, lay_out, prefix_read}
use Rattle.piece.proofs.Spelled.{prefix_spelled, own_piece}
use Rattle.plain.specs.views.ReadAs.{ReadAs}
use Rattle.decision.specs.Walk.{Walk}
use Rattle.walk.specs.views.Ready.{Checked}
use Rattle.walk.specs.Walking.{graph_reply, walk_reply}
use Rattle.walk.proofs.Replies.{sheet_accepts, arities_differ, piece_accepts}
use Rattle.walk_all.specs.views.FirstPiece.{first_reply}

-- What the reader of the piece that the bytes begin with tells of how it is read.
module _
    (s cells : List ℕ) (r : Result Prefix Refusal) (told : prefix_read cells r ≡ map_reading lay_out (read_prefix s)) where
  -- The reader refused, so no piece is read.
  pub prefix_refused : {q : Refusal} → r ≡ Err q → read_prefix s ≡ refused (number q)
  prefix_refused e = refused_view lay_out (read_prefix s) (sym (ap (prefix_read cells) e) ∙ told)

  -- The reader took k bytes: they are those of an accepted piece, and the cells are its cells.
  pub prefix_accepted
      : {x : Prefix} → r ≡ Ok x → ((i : ℕ) → IsByte (get_or s i 0))
      → (a : ReadAs (take x.bytes s) cells x.arity) × (read_prefix s ≡ took x.bytes a.piece)
  prefix_accepted {x} e bytes =
      let k = x.bytes in
      let (piece, read, same) = took_view lay_out (read_prefix s) (sym (ap (prefix_read cells) e) ∙ told) in
      let spells = (prefix_spelled s (bytes_all s bytes) k piece).0 read in
      let own : take k s ≡ spells.own =
      ap (take k) spells.bytes ∙ take_at spells.own (drop k s) k (sym spells.size) in
      let arity : piece.arity ≡ x.arity = sym (ap (λ (l : LaidOut). l.arity) same) in (
        record {
          piece = piece;
          read =
              subst (λ (l : List ℕ). read_piece l ≡ took (length l) piece) (sym own)
              (own_piece piece spells.own spells.sound spells.spells);
          arity_is = arity;
          laid = ap (λ (l : LaidOut). l.cells) same;
          accepted = subst (λ (m : ℕ). AcceptedPiece m piece.terms) arity spells.sound.accepted;
          few = omega (arith, spells.sound.few_arguments, arity);
        },
        read,
      )

-- The sheet and its graph are accepted.
module _ {s g starts kept : List ℕ} {arity rules nodes : ℕ}
    (known : Checked s g starts kept arity rules nodes) {p cells : List ℕ} {n : ℕ} (a : ReadAs p cells n) where
  abbrev sheet : Sheet
  sheet = known.sheet.read.sheet

  -- A piece of another arity is refused by 20,
  pub other_arity : (n ≡ arity → ⊥) → refused 20 ≡ walk_reply s g p
  other_arity differ =
      arities_differ sheet g p a.read (λ e. differ (sym a.arity_is ∙ e ∙ known.sheet.read.arity_is))
      ∙ sheet_accepts s g p known.sheet.read.accepted

  -- and one of the sheet's is walked over the graph.
  pub same_arity_lem : n ≡ arity → graph_reply sheet g a.piece.terms ≡ walk_reply s g p
  same_arity_lem same =
      piece_accepts sheet g p a.read (a.arity_is ∙ same ∙ sym known.sheet.read.arity_is)
      ∙ sheet_accepts s g p known.sheet.read.accepted

-- The first piece cannot be read, or was read and its walk replies.
module _ (reply : List ℕ → Reading Walk) (s : List ℕ) where
  abbrev replied : Reading Piece → Reading (Reading Walk)
  replied r = and_then r (λ k _. took k (reply (take k s)))

  pub first_unread : {q : ℕ} → read_prefix s ≡ refused q → refused q ≡ first_reply reply s
  first_unread e = sym (ap replied e)

  pub first_read
      : {k : ℕ} {piece : Piece} {r : Reading Walk} → read_prefix s ≡ took k piece → r ≡ reply (take k s)
      → took k r ≡ first_reply reply s
  first_read {k} e h = ap (took k) h ∙ sym (ap replied e)
