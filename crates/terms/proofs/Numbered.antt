-- A piece's terms stand at the places that document 01's numbering gives them: "argument a is at 85 × (a − 1)", "child j
-- of a place at depth d is that place's number + 1 + (j − 1) × s", "a place below an unknown is unknown" and one
-- below record 35 "is treated as it is". What `term_at` finds at a place is what stands there by that numbering, for any number of
-- levels.
use Prim.Native.Nat.{ℕ, zero, suc, pred, ◌+◌, ◌*◌, ◌-◌, ◌/◌, ◌%◌, ◌≤◌, ◌<◌}
use mathlib.Core.Path.{◌≡◌, refl, ap, sym, subst, ◌∙◌}
use mathlib.Core.Logic.{◌↔◌}
use native.Mathlib.Decide.{dec_lt}
use native.Mathlib.Nat.{suc-mul, mul_comm, mod-lt, div-add-mod', lt_of_mul-lt-mul_right}
use native.Mathlib.Omega.{arith}
use Rattle.places.specs.Numbering.{stride, argument_place, child_place, levels_at}
use Rattle.places.proofs.Rows.{child_fit}
use Rattle.places.proofs.Levels.{stride_of, levels_first_of}
use Rattle.places.proofs.Parents.{levels_of_child_place}
use Rattle.basics.proofs.Clash.{clash}
use Rattle.terms.specs.Term.{Term, Terms, unknown, never, symbol, numbers, compound, nil, cons}
use Rattle.terms.specs.Lookup.{Found, found, find, finds, term_at}
use Rattle.terms.specs.Filling.{WellFormed, WellFormeds}
use Rattle.terms.specs.Accepted.{Shallow, Shallows, AcceptedPiece}
use Rattle.terms.proofs.Unknown.{Hides}
use Rattle.terms.proofs.Arguments.{argument_of, argument_number, argument_accepted}
use Rattle.terms.proofs.TermPlaces.{find_zero, finds_here, finds_there, Shows, Showss, shows_row, shows_root, shows_arguments, shows_head, shows_tail}

-- A term stands at a place of the piece, which has so many levels: as argument a of the piece, as argument j of a
-- compound that stands at a place, or below an unknown or record 35.
pub data TermStands (piece : Terms) : ℕ → ℕ → Term → Type 0 where
  argument : (a : ℕ) {t : Term} → argument_of piece a ≡ found t → TermStands piece 4 (argument_place a) t
  child
      : {r p c : ℕ} {ts : Terms} {t : Term} → TermStands piece r p (compound c ts) → (j : ℕ) → argument_of ts j ≡ found t
      → TermStands piece (pred r) (child_place r p j) t
  below
      : {r p : ℕ} {t : Term} → Hides t → TermStands piece r p t → 2 ≤ r → (j : ℕ) → 1 ≤ j → j ≤ 4
      → TermStands piece (pred r) (child_place r p j) t

-- Every term of an accepted piece has a level.
shallow_level : (t : Term) (r : ℕ) → Shallow t r → 1 ≤ r
shallow_level unknown r h = h
shallow_level never r h = h
shallow_level (symbol a) r h = h
shallow_level (numbers a b) r h = h
shallow_level (compound a ts) r h = h.0

-- What hides the places below it needs no level more.
hidden_shallow : (t : Term) → Hides t → (r : ℕ) → 1 ≤ r → Shallow t r
hidden_shallow unknown hides r h = h
hidden_shallow never hides r h = h
hidden_shallow (symbol a) hides r h = absurd hides
hidden_shallow (numbers a b) hides r h = absurd hides
hidden_shallow (compound a ts) hides r h = absurd hides

-- It stands at each place of its own.
find_hidden : (t : Term) → Hides t → (r l n m : ℕ) → find t r n ≡ find t l m
find_hidden unknown hides r l n m = refl
find_hidden never hides r l n m = refl
find_hidden (symbol a) hides r l n m = absurd hides
find_hidden (numbers a b) hides r l n m = absurd hides
find_hidden (compound a ts) hides r l n m = absurd hides

-- The arguments of a well-formed compound have a level of their own.
compound_level : (a : ℕ) (ts : Terms) (r : ℕ) → WellFormed (compound a ts) → Shallow (compound a ts) r → 2 ≤ r
compound_level a nil r ok h = absurd (omega (arith, ok.1))
compound_level a (cons t ts) r ok h = omega (arith, shallow_level t (pred r) h.1.0)

-- Argument a of a row begins a stride after argument a − 1.
pub row_next : (b a s : ℕ) → b + s + (suc a - 1) * s ≡ b + (suc (suc a) - 1) * s
row_next b a s =
    let here : suc a - 1 ≡ a = omega arith in
    let next : suc (suc a) - 1 ≡ suc a = omega arith in
    rw (here, next) (omega (arith, suc-mul a s))

pub row_first : (b s : ℕ) → b + (1 - 1) * s ≡ b
row_first b s = omega arith

-- In a row, argument a stands a − 1 strides after the first.
pub row_place
    : (ts : Terms) (r a : ℕ) → 1 ≤ r → 1 ≤ a → finds ts r ((a - 1) * stride r) ≡ argument_of ts a
row_place nil r a deep from = refl
row_place (cons t ts) r zero deep from = absurd (omega arith)
row_place (cons t ts) r (suc zero) deep from =
    ap (finds (cons t ts) r) (omega arith)
    ∙ finds_here t ts r 0 (omega (arith, stride_of r deep)) ∙ find_zero t r
row_place (cons t ts) r (suc (suc a)) deep from =
    let place : (suc (suc a) - 1) * stride r ≡ stride r + (suc a - 1) * stride r = omega (arith, row_next 0 a (stride r)) in
    ap (finds (cons t ts) r) place ∙ finds_there t ts r ((suc a - 1) * stride r) ∙ row_place ts r (suc a) deep (omega arith)

-- "Argument a is at 85 × (a − 1)": what a piece has there is its argument a, or nothing.
pub argument_place_lem : (piece : Terms) (a : ℕ) → 1 ≤ a → term_at piece (argument_place a) ≡ argument_of piece a
argument_place_lem piece a from =
    ap (term_at piece) (mul_comm (stride 4) (a - 1)) ∙ row_place piece 4 a (omega arith) from

module _ (look : ℕ → Found) where
  -- Where a row is shown, argument a is shown a − 1 strides later.
  row_shown
      : (ts : Terms) (r b a : ℕ) {t : Term} → Showss look ts r b → argument_of ts a ≡ found t
      → Shows look t r (b + (a - 1) * stride r)
  row_shown nil r b a shown e = clash (cc)
  row_shown (cons u ts) r b zero shown e = clash (cc)
  row_shown (cons u ts) r b (suc zero) {t} shown e =
      let same : u ≡ t = cc in
      rw (row_first b (stride r), ← same) (shows_head look u ts r b shown)
  row_shown (cons u ts) r b (suc (suc a)) {t} shown e =
      subst (Shows look t r) (row_next b a (stride r))
      (row_shown ts r (b + stride r) (suc a) (shows_tail look u ts r b shown) e)

  -- What hides the places below it is shown at each of its children where it is shown.
  hidden_shown
      : (t : Term) → Hides t → (r p j : ℕ) → 1 ≤ r → 1 ≤ j → j ≤ 4 → Shows look t r p → Shows look t (pred r) (child_place r p j)
  hidden_shown t hides r p j deep from to shown m l =
      let s = stride (pred r) in
      let place : child_place r p j + m ≡ p + suc ((j - 1) * s + m) = omega arith in
      let inside : suc ((j - 1) * s + m) < stride r = omega (arith, stride_of r deep, child_fit j s from to) in
      ap look place ∙ shown (suc ((j - 1) * s + m)) inside ∙ find_hidden t hides r (pred r) (suc ((j - 1) * s + m)) m

  -- Where a compound is shown, its child j, of four that it may have, is its argument j, or it has none there.
  child_shown
      : (c : ℕ) (ts : Terms) (r p j : ℕ) → 2 ≤ r → 1 ≤ j → j ≤ 4 → Shows look (compound c ts) r p
      → look (child_place r p j) ≡ argument_of ts j
  child_shown c ts r p j deep from to shown =
      let s = stride (pred r) in
      let place : child_place r p j ≡ p + suc ((j - 1) * s) = omega arith in
      let own : 1 ≤ s = omega (arith, stride_of (pred r) (omega arith)) in
      let inside : suc ((j - 1) * s) < stride r = omega (arith, stride_of r (omega arith), child_fit j s from to) in
      ap look place ∙ shown (suc ((j - 1) * s)) inside ∙ row_place ts (pred r) j (omega arith) from

module _ (piece : Terms) (ok : WellFormeds piece) (shallow : Shallows piece 4) where
  -- A term that stands at a place is shown there, and is as accepted as the piece.
  stands_shown
      : {r p : ℕ} {t : Term} → TermStands piece r p t
      → Shows (term_at piece) t r p × WellFormed t × Shallow t r
  stands_shown (argument a {t} e) =
      let place : 0 + (a - 1) * stride 4 ≡ argument_place a = omega (arith, mul_comm (stride 4) (a - 1)) in
      let accepted = argument_accepted piece 4 a ok shallow e in (
        subst (Shows (term_at piece) t 4) place (row_shown (term_at piece) piece 4 0 a (shows_row piece 4) e),
        accepted.0,
        accepted.1,
      )
  stands_shown (child {r} {p} {c} {ts} {t} s j e) =
      let above = stands_shown s in
      let below = shows_arguments (term_at piece) c ts r p above.2.0 above.1.2 above.0 in
      let place : suc p + (j - 1) * stride (pred r) ≡ child_place r p j = omega arith in
      let accepted = argument_accepted ts (pred r) j above.1.3 above.2.1 e in (
        subst (Shows (term_at piece) t (pred r)) place (row_shown (term_at piece) ts (pred r) (suc p) j below e),
        accepted.0,
        accepted.1,
      )
  stands_shown (below {r} {p} {t} hides s deep j from to) =
      let above = stands_shown s in (
        hidden_shown (term_at piece) t hides r p j (omega arith) from to above.0,
        above.1,
        hidden_shallow t hides (pred r) (omega arith),
      )

  -- What stands at a place is found there.
  stands_found : {r p : ℕ} {t : Term} → TermStands piece r p t → term_at piece p ≡ found t
  stands_found {r} {p} {t} s =
      let x = stands_shown s in shows_root (term_at piece) t r p (shallow_level t r x.2) x.0

  -- Some term stands at a place, with some number of levels.
  abbrev StandsAt : ℕ → Term → Type 0
  StandsAt p t = (r : ℕ) × TermStands piece r p t

  -- What hides the places below it stands at every one of them.
  hidden_stands
      : (t : Term) → Hides t → (r b n : ℕ) → TermStands piece r b t → n < stride r → StandsAt (b + n) t
  hidden_stands t hides zero b n s inside = absurd (omega arith)
  hidden_stands t hides (suc r) b zero s inside =
      let first : b ≡ b + 0 = omega arith in (suc r, subst (λ (p : ℕ). TermStands piece (suc r) p t) first s)
  hidden_stands t hides (suc zero) b (suc n) s inside = absurd (omega arith)
  hidden_stands t hides (suc (suc r)) b (suc n) s inside =
      let size = stride (suc r) in
      let split : n / size * size + n % size ≡ n = div-add-mod' n size in
      let few : n / size < 4 = lt_of_mul-lt-mul_right size (omega arith) in
      let j = suc (n / size) in
      let back : j - 1 ≡ n / size = omega arith in
      let place : child_place (suc (suc r)) b j + n % size ≡ b + suc n = rw back (omega arith) in
      let under = below hides s (omega arith) j (omega arith) (omega arith) in
      subst (λ (p : ℕ). StandsAt p t) place
      (hidden_stands t hides (suc r) (child_place (suc (suc r)) b j) (n % size) under (mod-lt n (omega arith)))

  -- What stands at a place is found there, no place later.
  first_stands : (t : Term) (r b : ℕ) {u : Term} → TermStands piece r b t → found t ≡ found u → StandsAt (b + 0) u
  first_stands t r b {u} s e =
      let same : t ≡ u = cc in
      let first : b ≡ b + 0 = omega arith in
      (r, rw (← same, ← first) s)

  -- The arguments of a row stand one after another, and so do those after the first.
  abbrev RowStands : Terms → ℕ → ℕ → Type 0
  RowStands ts r b = (j : ℕ) (t : Term) → argument_of ts j ≡ found t → TermStands piece r (b + (j - 1) * stride r) t

  row_rest : (t : Term) (ts : Terms) (r b : ℕ) → RowStands (cons t ts) r b → RowStands ts r (b + stride r)
  row_rest t ts r b row zero u e = absurd (omega (arith, (argument_number ts 0 e).0))
  row_rest t ts r b row (suc a) u e =
      subst (λ (p : ℕ). TermStands piece r p u) (sym (row_next b a (stride r))) (row (suc (suc a)) u e)

  mutual
    -- What is found so many places into a term that stands at a place stands so many places later,
    find_stands
        : (t : Term) (r b n : ℕ) {u : Term} → TermStands piece r b t → n < stride r → find t r n ≡ found u → StandsAt (b + n) u
    find_stands unknown r b n {u} s inside e =
        let same : unknown ≡ u = cc in rw (← same) (hidden_stands unknown tt r b n s inside)
    find_stands never r b n {u} s inside e =
        let same : never ≡ u = cc in rw (← same) (hidden_stands never tt r b n s inside)
    find_stands (symbol a) r b zero {u} s inside e = first_stands (symbol a) r b s e
    find_stands (symbol a) r b (suc n) s inside e = clash (cc)
    find_stands (numbers a c) r b zero {u} s inside e = first_stands (numbers a c) r b s e
    find_stands (numbers a c) r b (suc n) s inside e = clash (cc)
    find_stands (compound a ts) r b zero {u} s inside e = first_stands (compound a ts) r b s e
    find_stands (compound a ts) r b (suc n) {u} s inside e =
        let place : suc b + n ≡ b + suc n = omega arith in
        subst (λ (p : ℕ). StandsAt p u) place
        (finds_stands ts (pred r) (suc b) n (λ j t d. child_stands r b j t (child s j d)) e)
      where
        child_stands
            : (r b j : ℕ) (t : Term) → TermStands piece (pred r) (child_place r b j) t
            → TermStands piece (pred r) (suc b + (j - 1) * stride (pred r)) t
        child_stands r b j t c =
            let place : child_place r b j ≡ suc b + (j - 1) * stride (pred r) = omega arith in
            subst (λ (p : ℕ). TermStands piece (pred r) p t) place c

    -- and so for a row whose arguments stand.
    finds_stands
        : (ts : Terms) (r b n : ℕ) {u : Term} → RowStands ts r b → finds ts r n ≡ found u → StandsAt (b + n) u
    finds_stands nil r b n row e = clash (cc)
    finds_stands (cons t ts) r b n {u} row e =
        elim (dec_lt n (stride r)) [
          | yes first ↦
              let head = subst (λ (p : ℕ). TermStands piece r p t) (row_first b (stride r)) (row 1 t refl) in
              find_stands t r b n head first (sym (finds_here t ts r n first) ∙ e)
          | no later ↦
              let m = n - stride r in
              let beyond : n ≡ stride r + m = omega arith in
              let place : b + stride r + m ≡ b + n = omega arith in
              let found_later = sym (ap (finds (cons t ts) r) beyond ∙ finds_there t ts r m) ∙ e in
              subst (λ (p : ℕ). StandsAt p u) place (finds_stands ts r (b + stride r) m (row_rest t ts r b row) found_later)
        ]

-- A child has a level less than its place.
child_levels : (r p j : ℕ) → levels_at p ≡ r → 2 ≤ r → 1 ≤ j → j ≤ 4 → levels_at (child_place r p j) ≡ pred r
child_levels zero p j levels deep from to = absurd (omega arith)
child_levels (suc r) p j levels deep from to = levels_of_child_place r p j levels (omega arith) from to

-- Child j of a compound at place p, which has r levels, is its argument j: "child j of a place at depth d is that place's
-- number + 1 + (j − 1) × s".
pub child_place_lem
    : {arity : ℕ} {piece : Terms} → AcceptedPiece arity piece → {r p c : ℕ} {ts : Terms} → TermStands piece r p (compound c ts)
    → (j : ℕ) → 1 ≤ j → j ≤ 4 → term_at piece (child_place r p j) ≡ argument_of ts j
child_place_lem {piece = piece} ok {r} {p} {c} {ts} s j from to =
    let x = stands_shown piece ok.well_formed ok.shallow s in
    child_shown (term_at piece) c ts r p j (compound_level c ts r x.1 x.2) from to x.0

-- What `term_at` finds at place p of an accepted piece is exactly what stands there by document 01's numbering.
pub terms_numbered
    : {arity : ℕ} {piece : Terms} → AcceptedPiece arity piece → (p : ℕ) (t : Term)
    → (term_at piece p ≡ found t) ↔ ((r : ℕ) × TermStands piece r p t)
terms_numbered {piece = piece} ok p t =
    let row : RowStands piece ok.well_formed ok.shallow piece 4 0 = λ j u e.
    subst (λ (q : ℕ). TermStands piece 4 q u) (omega (arith, mul_comm (stride 4) (j - 1))) (argument j e) in
    let first : 0 + p ≡ p = omega arith in (
      λ e. subst (λ (q : ℕ). (r : ℕ) × TermStands piece r q t) first
          (finds_stands piece ok.well_formed ok.shallow piece 4 0 p row e),
      λ s. stands_found piece ok.well_formed ok.shallow s.1,
    )

-- The levels that a place has are those of the numbering.
pub stands_levels
    : {arity : ℕ} {piece : Terms} → AcceptedPiece arity piece → {r p : ℕ} {t : Term} → TermStands piece r p t → levels_at p ≡ r
stands_levels ok (argument a e) = ap levels_at (mul_comm (stride 4) (a - 1)) ∙ levels_first_of 4 (a - 1)
stands_levels {piece = piece} ok (child {r} {p} {c} {ts} s j e) =
    let x = stands_shown piece ok.well_formed ok.shallow s in
    let deep = compound_level c ts r x.1 x.2 in
    let number = argument_number ts j e in
    child_levels r p j (stands_levels ok s) deep number.0 (omega (arith, x.1.2))
stands_levels ok (below {r} {p} hides s deep j from to) = child_levels r p j (stands_levels ok s) deep from to
