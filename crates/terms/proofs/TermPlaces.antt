-- How terms are laid out over the places: a term with r levels that stands at place b takes up the stride r places
-- from b on, and its arguments stand in a row that begins at the next place, each with a level less. For any number
-- of levels and of terms.
use Prim.Native.Nat.{ℕ, zero, suc, pred, ◌+◌, ◌-◌, ◌≤◌, ◌<◌}
use mathlib.Core.Path.{◌≡◌, refl, ap, sym, ◌∙◌}
use native.Mathlib.Decide.{dec_lt}
use native.Mathlib.Omega.{arith}
use lib.Dec.{ltb, lt→ltb, ltb→lt}
use Rattle.places.specs.Numbering.{stride}
use Rattle.places.proofs.Levels.{stride_of}
use Rattle.terms.specs.Term.{Term, Terms, count, unknown, never, symbol, numbers, compound, nil, cons}
use Rattle.terms.specs.Lookup.{Found, lacking, found, find, finds}
use Rattle.basics.proofs.Booleans.{cond_true, cond_false, cond_holds}

-- Q holds of what stands there, if anything does.
abbrev pub IfFound : (Term → Type 0) → Found → Type 0
IfFound Q lacking = Unit
IfFound Q (found t) = Q t

-- What holds of every term holds of what stands there.
pub found_always : (Q : Term → Type 0) → ((t : Term) → Q t) → (x : Found) → IfFound Q x
found_always Q h lacking = tt
found_always Q h (found t) = h t

-- What is asked of a term, of its arguments and of theirs holds of all that stands in the term.
module _
    (Q : Term → Type 0) (Row : Terms → Type 0) (arguments : (a : ℕ) (ts : Terms) → Q (compound a ts) → Row ts)
    (each : (t : Term) (ts : Terms) → Row (cons t ts) → Q t × Row ts)
  where
    mutual
      -- In a term,
      find_each : (t : Term) → Q t → (r n : ℕ) → IfFound Q (find t r n)
      find_each unknown ok r n = ok
      find_each never ok r n = ok
      find_each (symbol a) ok r zero = ok
      find_each (symbol a) ok r (suc n) = tt
      find_each (numbers a b) ok r zero = ok
      find_each (numbers a b) ok r (suc n) = tt
      find_each (compound a ts) ok r zero = ok
      find_each (compound a ts) ok r (suc n) = finds_each ts (arguments a ts ok) (pred r) n

      -- and in a row of terms.
      pub finds_each : (ts : Terms) → Row ts → (r n : ℕ) → IfFound Q (finds ts r n)
      finds_each nil ok r n = tt
      finds_each (cons t ts) ok r n =
          let x = each t ts ok in
          cond_holds (IfFound Q) (ltb n (stride r)) (find t r n) (finds ts r (n - stride r)) (find_each t x.0 r n)
          (finds_each ts x.1 r (n - stride r))

-- A term itself stands at its place.
pub find_zero : (t : Term) (r : ℕ) → find t r 0 ≡ found t
find_zero unknown r = refl
find_zero never r = refl
find_zero (symbol a) r = refl
find_zero (numbers a b) r = refl
find_zero (compound a ts) r = refl

-- The first places of a row are those of its first term,
pub finds_here : (t : Term) (ts : Terms) (r n : ℕ) → n < stride r → finds (cons t ts) r n ≡ find t r n
finds_here t ts r n h = cond_true (ltb n (stride r)) _ _ (lt→ltb n (stride r) h)

-- and the next ones those of the row of the others.
pub finds_there : (t : Term) (ts : Terms) (r n : ℕ) → finds (cons t ts) r (stride r + n) ≡ finds ts r n
finds_there t ts r n =
    let back : (stride r + n) - stride r ≡ n = omega arith in
    cond_false (ltb (stride r + n) (stride r)) _ _ (λ h. omega (arith, ltb→lt (stride r + n) (stride r) h))
    ∙ ap (finds ts r) back

-- How many places k terms with r levels each take up.
abbrev pub extent : ℕ → ℕ → ℕ
extent zero r = 0
extent (suc k) r = stride r + extent k r

-- Fewer terms take up fewer places.
pub extent_le : (k n r : ℕ) → k ≤ n → extent k r ≤ extent n r
extent_le zero n r h = omega arith
extent_le (suc k) zero r h = absurd (omega arith)
extent_le (suc k) (suc n) r h = omega (arith, extent_le k n r (omega arith))

-- The arguments of a term, at most four, stand within its places.
pub extent_fits : (k r : ℕ) → 1 ≤ r → k ≤ 4 → suc (extent k (pred r)) ≤ stride r
extent_fits k r h few = omega (arith, stride_of r h, extent_le k 4 (pred r) few)

-- k unknowns.
abbrev pub unknowns : ℕ → Terms
unknowns zero = nil
unknowns (suc k) = cons unknown (unknowns k)

-- They are k terms.
pub count_unknowns : (k : ℕ) → count (unknowns k) ≡ k
count_unknowns zero = refl
count_unknowns (suc k) = ap suc (count_unknowns k)

-- Every place of a row of unknowns is unknown.
pub finds_unknowns : (k r n : ℕ) → n < extent k r → finds (unknowns k) r n ≡ found unknown
finds_unknowns zero r n h = absurd (omega arith)
finds_unknowns (suc k) r n h =
    elim (dec_lt n (stride r)) [
      | yes first ↦ finds_here unknown (unknowns k) r n first
      | no later ↦
          let beyond : n ≡ stride r + (n - stride r) = omega arith in
          ap (finds (unknowns (suc k)) r) beyond ∙ finds_there unknown (unknowns k) r (n - stride r)
          ∙ finds_unknowns k r (n - stride r) (omega arith)
    ]

-- Looking up place after place from b on shows the term t, which has r levels; and so for a row of terms.
abbrev pub Shows : (ℕ → Found) → Term → ℕ → ℕ → Type 0
Shows look t r b = (m : ℕ) → m < stride r → look (b + m) ≡ find t r m

abbrev pub Showss : (ℕ → Found) → Terms → ℕ → ℕ → Type 0
Showss look ts r b = (m : ℕ) → m < extent (count ts) r → look (b + m) ≡ finds ts r m

-- Looking up in a row shows the row from place 0 on.
pub shows_row : (ts : Terms) (r : ℕ) → Showss (finds ts r) ts r 0
shows_row ts r m h = ap (finds ts r) (omega arith)

module _ (look : ℕ → Found) where
  -- Where a term is shown, it stands at its place.
  pub shows_root : (t : Term) (r b : ℕ) → 1 ≤ r → Shows look t r b → look b ≡ found t
  shows_root t r b h shown =
      let first : b ≡ b + 0 = omega arith in
      ap look first ∙ shown 0 (omega (arith, stride_of r h)) ∙ find_zero t r

  -- Where a compound is shown, its arguments are shown from the next place on.
  pub shows_arguments
      : (a : ℕ) (ts : Terms) (r b : ℕ) → 1 ≤ r → count ts ≤ 4 → Shows look (compound a ts) r b
      → Showss look ts (pred r) (suc b)
  shows_arguments a ts r b h few shown m l =
      let next : suc b + m ≡ b + suc m = omega arith in
      ap look next ∙ shown (suc m) (omega (arith, extent_fits (count ts) r h few))

  -- Where an unknown is shown, unknowns are shown from the next place on.
  pub shows_unknown
      : (k r b : ℕ) → 1 ≤ r → k ≤ 4 → Shows look unknown r b → Showss look (unknowns k) (pred r) (suc b)
  shows_unknown k r b h few shown m l =
      let next : suc b + m ≡ b + suc m = omega arith in
      let inside : m < extent k (pred r) = rw count_unknowns at l in
      ap look next ∙ shown (suc m) (omega (arith, extent_fits k r h few)) ∙ sym (finds_unknowns k (pred r) m inside)

  -- Where a row is shown, its first term is shown there,
  pub shows_head : (t : Term) (ts : Terms) (r b : ℕ) → Showss look (cons t ts) r b → Shows look t r b
  shows_head t ts r b shown m l = shown m (omega arith) ∙ finds_here t ts r m l

  -- and the others from stride r places later on.
  pub shows_tail : (t : Term) (ts : Terms) (r b : ℕ) → Showss look (cons t ts) r b → Showss look ts r (b + stride r)
  shows_tail t ts r b shown m l =
      let later : b + stride r + m ≡ b + (stride r + m) = omega arith in
      ap look later ∙ shown (stride r + m) (omega arith) ∙ finds_there t ts r m
