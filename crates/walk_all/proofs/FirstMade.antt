-- What is made of the piece that the input begins with, over an accepted graph, is what its walk replies.
use Prim.Native.Nat.{ℕ, ◌*◌, ◌≤◌}
use mathlib.Core.Path.{◌≡◌, refl, sym, ap, subst, ◌∙◌}
use mathlib.Core.Bool.{true, false, false≢true}
use mathlib.Core.List.{List}
use native.Mathlib.Omega.{arith}
use lib.ListN.{length, get_or, take}
use borrow.Author.Tests.{eqb-true, eqb-false}
use Rattle.records.specs.Fields.{IsByte}
use Rattle.records.specs.Reading.{took, map_reading}
use Rattle.accepted.specs.views.AcceptedAs.{AcceptedAs}
use Rattle.piece.specs.declared.Prefix.{Prefix}
use Rattle.std.specs.Prelude.{Result, Ok, Err}
use Rattle.records.specs.declared.refusal.Refusal.{Refusal}
use Rattle.records.specs.declared.refusal.Refusal.TheVariants.{AritiesDiffer}
use Rattle.piece.specs.ReadPiece.{read_prefix}
use Rattle.piece.specs.views.LaidOut.{lay_out, prefix_read, prefix_bytes, UsedTo, used_by}
use Rattle.piece.proofs.Emptying.{piece_used}
use Rattle.plain.specs.views.ReadAs.{ReadAs}
use Rattle.walk.specs.declared.Sizes.{Sizes}
use Rattle.walk.specs.declared.Walk.{Walk}
use Rattle.walk.specs.views.Ready.{SomePiece}
use Rattle.walk.specs.Walking.{graph_reply, walk_reply, walked_reading}
use Rattle.walk_all.specs.views.Known.{Known}
use Rattle.walk_all.specs.views.FirstPiece.{first_reply, first_of, has_arity, first_made, PieceWithin}
use Rattle.walk_all.specs.views.FirstPiece as first
use Rattle.walk_all.proofs.LeastPiece.{least_piece}
use Rattle.walk_all.proofs.FirstWalks.{prefix_refused, prefix_accepted, other_arity, same_arity_lem, first_unread, first_read}

-- The cells are used as the reader's view says.
pub used_same : (r : Result Prefix Refusal) → first.used_by r ≡ used_by r
used_same (Ok x) = refl
used_same (Err q) = refl

module _ (input cells : List ℕ) (bytes : (i : ℕ) → IsByte (get_or input i 0)) where
  -- The reader says so of the input.
  abbrev Told : Result Prefix Refusal → Type 0
  Told r = prefix_read cells r ≡ map_reading lay_out (read_prefix input)

  -- A piece that was read has the cells of its arguments alone.
  pub used_read
      : {x : Prefix} (r : Result Prefix Refusal) → Told r → r ≡ Ok x → (used_by r ≤ 680) × UsedTo (used_by r) cells
  used_read {x} r told e =
      let a = (prefix_accepted input cells r told e bytes).0 in
      let used = ap used_by e in (
        omega (arith, used, a.few),
        subst (λ (u : ℕ). UsedTo u cells) (sym used)
            (subst (UsedTo (85 * x.arity)) (sym a.laid) (piece_used x.arity a.piece.terms a.few a.accepted)),
      )

  -- One of so many arguments that was read is an accepted piece.
  read_as_lem : (x : Prefix) (arity : ℕ) → Told (Ok x) → has_arity {E = Refusal} (Ok x) arity ≡ true → ReadAs (take x.bytes input) cells arity
  read_as_lem x arity told same =
      subst (ReadAs (take x.bytes input) cells) (eqb-true x.arity arity same)
      (prefix_accepted input cells (Ok x) told refl bytes).0

  pub some_piece : (r : Result Prefix Refusal) (arity : ℕ) → Told r → has_arity r arity ≡ true → SomePiece cells arity
  some_piece (Ok x) arity told same = record { bytes = take x.bytes input; read_as = read_as_lem x arity told same }
  some_piece (Err q) arity told same = absurd (false≢true same)

  module _ {s g starts kept : List ℕ} {sizes : Sizes} (known : Known s g starts kept sizes) where
    -- What came of the piece is what its walk replies, and its bytes are there.
    abbrev pub Right : Result Prefix Refusal → Result Walk Refusal → Type 0
    Right r w = (first_of (first_made r w) ≡ first_reply (walk_reply s g) input) × PieceWithin (length input) (first_made r w)

    read_right
        : (x : Prefix) (w : Result Walk Refusal) → Told (Ok x) → x.bytes ≤ length input
        → walked_reading w ≡ walk_reply s g (take x.bytes input) → Right (Ok x) w
    read_right x w told there replied =
        let read = (prefix_accepted input cells (Ok x) told refl bytes).1 in
        (first_read (walk_reply s g) input read replied, (least_piece input read, there))

    -- A piece of the sheet's arity is walked,
    pub walked_right
        : (r : Result Prefix Refusal) (w : Result Walk Refusal) → Told r → prefix_bytes r ≤ length input
        → has_arity r sizes.arity ≡ true
        → ((t : AcceptedAs s sizes.arity sizes.rules) (p : List ℕ) (k : ReadAs p cells sizes.arity)
        → walked_reading w ≡ graph_reply t.sheet g k.piece.terms)
        → Right r w
    walked_right (Ok x) w told there same replied =
        let a = read_as_lem x sizes.arity told same in
        read_right x w told there
        (replied known.checked.sheet.read (take x.bytes input) a ∙ same_arity_lem known.checked a refl)
    walked_right (Err q) w told there same replied = absurd (false≢true same)

    -- and another is refused by 20, or could not be read.
    pub other_right
        : (r : Result Prefix Refusal) (w : Result Walk Refusal) → Told r → prefix_bytes r ≤ length input
        → has_arity r sizes.arity ≡ false → w ≡ Err AritiesDiffer → Right r w
    other_right (Ok x) w told there differ e =
        let a = (prefix_accepted input cells (Ok x) told refl bytes).0 in
        read_right x w told there
        (ap walked_reading e ∙ other_arity known.checked a (eqb-false x.arity sizes.arity differ))
    other_right (Err q) w told there differ e =
        (first_unread (walk_reply s g) input (prefix_refused input cells (Err q) told refl), tt)
