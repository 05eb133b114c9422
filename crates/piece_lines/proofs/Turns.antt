-- Laws of one turn of the listing: what the reading of a piece and the reply of the walk say of it.
use Prim.Native.Nat.{ℕ, ◌+◌}
use mathlib.Core.Path.{◌≡◌, refl, sym, ap, ◌∙◌}
use mathlib.Core.List.{List}
use native.Mathlib.Omega.{arith}
use lib.ListN.{length, take}
use Rattle.records.specs.Reading.{Reading, took, refused, and_then}
use Rattle.records.specs.Writing.{splice}
use Rattle.piece.specs.Piece.{Piece}
use Rattle.piece.specs.declared.Prefix.{Prefix}
use Rattle.std.specs.Prelude.{Result, Ok, Err}
use Rattle.records.specs.Refusals as refusals
use Rattle.records.specs.declared.refusal.Refusal.{Refusal}
use Rattle.piece.specs.ReadPiece.{read_prefix}
use Rattle.decision.specs.Walk.{Walk}
use Rattle.lines.specs.Lines.{refused_line}
use Rattle.lines.proofs.Wrote.{Wrote}
use Rattle.piece_lines.specs.BuiltLines.{first_walk}
use Rattle.piece_lines.specs.declared.Turn.{Turn}
use Rattle.piece_lines.specs.declared.Turn.TheVariants.{More, Last}
use Rattle.walk.specs.declared.Walk as given
use Rattle.walk_all.specs.views.FirstPiece.{first_reply, first_of, first_made}
use Rattle.piece_lines.specs.views.Turned.{Turned, answered, turned, walk_line}

-- The first walk, from the reply of the first piece.
pub first_answered : (reply : List ℕ → Reading Walk) (s : List ℕ) → answered (first_reply reply s) ≡ first_walk reply s
first_answered reply s = go (read_prefix s)
  where
    go
        : (r : Reading Piece)
        → answered (and_then r (λ k _. took k (reply (take k s))))
        ≡ and_then r (λ k _. and_then (reply (take k s)) (λ _ w. took k w))
    go (took k piece) = refl
    go (refused q) = refl

module _ (xs : List ℕ) (at number : ℕ) {t : Reading Walk} {end : ℕ} {ys : List ℕ} where
  pub turned_last
      : {q : ℕ} → Wrote xs at (refused_line q) end ys → t ≡ refused q
      → ◌≡◌ {A = Turned} (record { turn = Last end; buffer = ys }) (turned xs at number t)
  turned_last v e = (λ i. record { turn = Last (v.0 i); buffer = v.1 i }) ∙ sym (ap (turned xs at number) e)

  pub Turned-more
      : {k : ℕ} {w : Walk} → Wrote xs at (walk_line number w) end ys → t ≡ took k w
      → ◌≡◌ {A = Turned} (record { turn = More k end; buffer = ys }) (turned xs at number t)
  Turned-more {k} v e = (λ i. record { turn = More k (v.0 i); buffer = v.1 i }) ∙ sym (ap (turned xs at number) e)

-- The turn and the reply by other names.
pub told_as
    : (number : ℕ) (xs : List ℕ) (at : ℕ) {r r' : Turn} {t t' : Reading Walk} {ys : List ℕ} → r ≡ r' → t ≡ t'
    → ◌≡◌ {A = Turned} (record { turn = r; buffer = ys }) (turned xs at number t)
    → ◌≡◌ {A = Turned} (record { turn = r'; buffer = ys }) (turned xs at number t')
told_as number xs at {ys = ys} e f g =
    sym (ap (λ (t : Turn). record { turn = t; buffer = ys }) e) ∙ g ∙ ap (turned xs at number) f

-- What is handed back says which turn it was, and what was written.
pub told_last
    : (xs : List ℕ) (at number : ℕ) (t : Reading Walk) {end : ℕ} {ys : List ℕ}
    → ◌≡◌ {A = Turned} (record { turn = Last end; buffer = ys }) (turned xs at number t)
    → (q : ℕ) × (t ≡ refused q) × Wrote xs at (refused_line q) end ys
told_last xs at number (refused q) {end} {ys} e =
    let turn : Last end ≡ Last (at + length (refused_line q)) = ap (λ x. x.turn) e in
    let where-ended : end ≡ at + length (refused_line q) = cc in
    (q, refl, (where-ended, ap (λ x. x.buffer) e))
told_last xs at number (took k w) {end} {ys} e =
    let turn : Last end ≡ More k (at + length (walk_line number w)) = ap (λ x. x.turn) e in
    let z : ◌≡◌ {A = ℕ} 0 1 = cc in absurd (omega arith)

pub Told-more
    : (xs : List ℕ) (at number : ℕ) (t : Reading Walk) {k end : ℕ} {ys : List ℕ}
    → ◌≡◌ {A = Turned} (record { turn = More k end; buffer = ys }) (turned xs at number t)
    → (w : Walk) × (t ≡ took k w) × Wrote xs at (walk_line number w) end ys
Told-more xs at number (took j w) {k} {end} {ys} e =
    let turn : More k end ≡ More j (at + length (walk_line number w)) = ap (λ x. x.turn) e in
    let bytes : j ≡ k = cc in
    let where-ended : end ≡ at + length (walk_line number w) = cc in
    (w, ap (λ (i : ℕ). took i w) bytes, (where-ended, ap (λ x. x.buffer) e))
Told-more xs at number (refused q) {k} {end} e =
    let turn : More k end ≡ Last (at + length (refused_line q)) = ap (λ x. x.turn) e in
    let z : ◌≡◌ {A = ℕ} 0 1 = cc in absurd (omega arith)

-- A turn that takes bytes takes those of a piece that was read.
pub more_read
    : (xs : List ℕ) (at number : ℕ) {k end : ℕ} {ys : List ℕ} (r : Result Prefix Refusal) (w : Result given.Walk Refusal)
    → ◌≡◌ {A = Turned} (record { turn = More k end; buffer = ys }) (turned xs at number (answered (first_of (first_made r w))))
    → (x : Prefix) × (r ≡ Ok x)
more_read xs at number (Ok x) w e = (x, refl)
more_read xs at number {k = k} {end = end} (Err q) w e =
    let turn : More k end ≡ Last (at + length (refused_line (refusals.number q))) = ap (λ x. x.turn) e in
    let z : ◌≡◌ {A = ℕ} 0 1 = cc in absurd (omega arith)

-- What is written at a buffer's start.
pub from_start
    : (xs line : List ℕ) {end : ℕ} {ys : List ℕ} → Wrote xs 0 line end ys → (end ≡ length line) × (ys ≡ splice xs 0 line)
from_start xs line w = (omega (arith, w.0), w.1)
