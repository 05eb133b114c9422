-- Laws of one turn: what is written and handed back for a piece, and what that says of the pieces to come.
use Prim.Native.Nat.{ℕ, ◌≤◌, ◌<◌}
use mathlib.Core.Path.{◌≡◌, refl, sym, ap, ◌∙◌}
use mathlib.Core.Bool.{Bool, true, false, cond}
use mathlib.Core.List.{List, [], ◌∷◌}
use native.Mathlib.Omega.{arith}
use lib.Dec.{leb}
use lib.ListN.{take}
use borrow.Author.Tests.{leb-true, le-leb, lt-leb}
use Rattle.records.specs.Reading.{Reading, took, refused, and_then}
use Rattle.records.specs.Writing.{splice}
use Rattle.piece.specs.declared.Prefix.{Prefix}
use Rattle.std.specs.Prelude.{Result, Ok, Err}
use Rattle.records.specs.declared.refusal.Refusal.{Refusal}
use Rattle.piece.specs.Piece.{Piece}
use Rattle.piece.specs.ReadPiece.{read_prefix}
use Rattle.decision.specs.Walk.{Walk}
use Rattle.walk.specs.declared.Walk as given
use Rattle.walk.specs.Walking.{reply_values, walk_refusal_values, walked_reading}
use Rattle.walk_all.specs.WalkAll.{result_bytes, piece_then}
use Rattle.walk_all.specs.declared.Turn.{Turn}
use Rattle.walk_all.specs.declared.Turn.TheVariants.{More, Last, Full}
use Rattle.walk_all.specs.declared.First.{First}
use Rattle.walk_all.specs.views.FirstPiece.{first_reply, first_of, first_made, PieceWithin}
use Rattle.walk_all.specs.views.Turns.{Turned, turned}

abbrev pub told : Turn → List ℕ → Turned
told t ys = record { turn = t; buffer = ys }

-- A turn made: of a piece whose bytes are too many, of one with a result, and of one that cannot be read.
module _ (xs : List ℕ) (at left : ℕ) where
  abbrev fits : ℕ → Reading Walk → Bool → Turned
  fits k r b = cond b (told (More k) (splice xs at (result_bytes (reply_values r)))) (told Full xs)

  pub turned_full
      : {t : Reading (Reading Walk)} {k : ℕ} {r : Reading Walk} → left < k → t ≡ took k r → told Full xs ≡ turned xs at left t
  turned_full {k = k} {r = r} h e = sym (ap (fits k r) (lt-leb k left h)) ∙ sym (ap (turned xs at left) e)

  pub Turned-more
      : {t : Reading (Reading Walk)} {k : ℕ} {r : Reading Walk} {ys : List ℕ} → k ≤ left → t ≡ took k r
      → ys ≡ splice xs at (result_bytes (reply_values r)) → told (More k) ys ≡ turned xs at left t
  Turned-more {k = k} {r = r} h e w = ap (told (More k)) w ∙ sym (ap (fits k r) (le-leb k left h)) ∙ sym (ap (turned xs at left) e)

  pub turned_last
      : {t : Reading (Reading Walk)} {q : ℕ} {ys : List ℕ} → t ≡ refused q → ys ≡ splice xs at (result_bytes (walk_refusal_values q))
      → told Last ys ≡ turned xs at left t
  turned_last e w = ap (told Last) w ∙ sym (ap (turned xs at left) e)

-- A turn that was told: which piece comes first, and what was written.
module _ (reply : List ℕ → Reading Walk) (s ys : List ℕ) (at left : ℕ) (more : ℕ → List (Reading (List ℕ))) where
  abbrev turn_of : Reading Piece → Turned
  turn_of r = turned ys at left (and_then r (λ k _. took k (reply (take k s))))

  abbrev result_of : ℕ → List ℕ
  result_of k = splice ys at (result_bytes (reply_values (reply (take k s))))

  abbrev next : Bool → ℕ → List (Reading (List ℕ))
  next b k = cond b (took k (take k s) ∷ more k) []

  -- No result: the run stops before the piece.
  full_fits
      : (j : ℕ) (b : Bool) {zs : List ℕ} → told Full zs ≡ cond b (told (More j) (result_of j)) (told Full ys)
      → (next b j ≡ []) × (zs ≡ ys)
  full_fits j true e =
      let turn : Full ≡ More j = ap (λ (x : Turned). x.turn) e in
      let z : ◌≡◌ {A = ℕ} 0 1 = cc in absurd (omega arith)
  full_fits j false e = (refl, ap (λ (x : Turned). x.buffer) e)

  full_by : (r : Reading Piece) {zs : List ℕ} → told Full zs ≡ turn_of r → (piece_then s left more r ≡ []) × (zs ≡ ys)
  full_by (took j piece) e = full_fits j (leb j left) e
  full_by (refused q) e =
      let turn : Full ≡ Last = ap (λ (x : Turned). x.turn) e in
      let z : ◌≡◌ {A = ℕ} 0 1 = cc in absurd (omega arith)

  pub told_full
      : {zs : List ℕ} → told Full zs ≡ turned ys at left (first_reply reply s)
      → (piece_then s left more (read_prefix s) ≡ []) × (zs ≡ ys)
  told_full e = full_by (read_prefix s) e

  -- The last result, of a piece that cannot be read.
  last_fits : (j : ℕ) (b : Bool) {zs : List ℕ} → told Last zs ≡ cond b (told (More j) (result_of j)) (told Full ys) → ⊥
  last_fits j true e =
      let turn : Last ≡ More j = ap (λ (x : Turned). x.turn) e in
      let z : ◌≡◌ {A = ℕ} 0 1 = cc in omega arith
  last_fits j false e =
      let turn : Last ≡ Full = ap (λ (x : Turned). x.turn) e in
      let z : ◌≡◌ {A = ℕ} 0 1 = cc in omega arith

  last_by
      : (r : Reading Piece) {zs : List ℕ} → told Last zs ≡ turn_of r
      → (q : ℕ) × (piece_then s left more r ≡ refused q ∷ []) × (zs ≡ splice ys at (result_bytes (walk_refusal_values q)))
  last_by (took j piece) e = absurd (last_fits j (leb j left) e)
  last_by (refused q) e = (q, refl, ap (λ (x : Turned). x.buffer) e)

  pub told_last
      : {zs : List ℕ} → told Last zs ≡ turned ys at left (first_reply reply s)
      → (q : ℕ) × (piece_then s left more (read_prefix s) ≡ refused q ∷ [])
      × (zs ≡ splice ys at (result_bytes (walk_refusal_values q)))
  told_last e = last_by (read_prefix s) e

  -- The result of a piece that was read.
  more_fits
      : (j : ℕ) (b : Bool) {k : ℕ} {zs : List ℕ} → leb j left ≡ b
      → told (More k) zs ≡ cond b (told (More j) (result_of j)) (told Full ys)
      → (next b j ≡ took k (take k s) ∷ more k) × (k ≤ left) × (zs ≡ result_of k)
  more_fits j true {k} h e =
      let turn : More k ≡ More j = ap (λ (x : Turned). x.turn) e in
      let same : j ≡ k = cc in (
        ap (next true) same,
        omega (arith, leb-true j left h, same),
        ap (λ (x : Turned). x.buffer) e ∙ ap result_of same,
      )
  more_fits j false {k} h e =
      let turn : More k ≡ Full = ap (λ (x : Turned). x.turn) e in
      let z : ◌≡◌ {A = ℕ} 0 1 = cc in absurd (omega arith)

  more_by
      : (r : Reading Piece) {k : ℕ} {zs : List ℕ} → told (More k) zs ≡ turn_of r
      → (piece_then s left more r ≡ took k (take k s) ∷ more k) × (k ≤ left) × (zs ≡ result_of k)
  more_by (took j piece) e = more_fits j (leb j left) refl e
  more_by (refused q) {k} e =
      let turn : More k ≡ Last = ap (λ (x : Turned). x.turn) e in
      let z : ◌≡◌ {A = ℕ} 0 1 = cc in absurd (omega arith)

  pub Told-more
      : {k : ℕ} {zs : List ℕ} → told (More k) zs ≡ turned ys at left (first_reply reply s)
      → (piece_then s left more (read_prefix s) ≡ took k (take k s) ∷ more k) × (k ≤ left) × (zs ≡ result_of k)
  Told-more e = more_by (read_prefix s) e

-- A turn that takes bytes takes those of the first piece.
module _ (ys : List ℕ) (at left : ℕ) {zs : List ℕ} {k bytes : ℕ} where
  within_fits
      : (j : ℕ) (l : List ℕ) (b : Bool) → (3 ≤ j) × (j ≤ bytes)
      → told (More k) zs ≡ cond b (told (More j) l) (told Full ys) → k ≤ bytes
  within_fits j l true h e =
      let turn : More k ≡ More j = ap (λ (x : Turned). x.turn) e in
      let same : j ≡ k = cc in omega (arith, h.1, same)
  within_fits j l false h e =
      let turn : More k ≡ Full = ap (λ (x : Turned). x.turn) e in
      let z : ◌≡◌ {A = ℕ} 0 1 = cc in absurd (omega arith)

  pub within_more
      : (f : Result (First Refusal) Refusal) → PieceWithin bytes f → told (More k) zs ≡ turned ys at left (first_of f) → k ≤ bytes
  within_more (Ok x) h e =
      within_fits x.bytes (splice ys at (result_bytes (reply_values (walked_reading x.walk)))) (leb x.bytes left) h e
  within_more (Err q) h e =
      let turn : More k ≡ Last = ap (λ (x : Turned). x.turn) e in
      let z : ◌≡◌ {A = ℕ} 0 1 = cc in absurd (omega arith)

-- So it was read.
pub more_read
    : (ys : List ℕ) (at left : ℕ) {zs : List ℕ} {k : ℕ} (r : Result Prefix Refusal) (w : Result given.Walk Refusal)
    → told (More k) zs ≡ turned ys at left (first_of (first_made r w)) → (x : Prefix) × (r ≡ Ok x)
more_read ys at left (Ok x) w e = (x, refl)
more_read ys at left {k = k} (Err q) w e =
    let turn : More k ≡ Last = ap (λ (x : Turned). x.turn) e in
    let z : ◌≡◌ {A = ℕ} 0 1 = cc in absurd (omega arith)
