-- Things that are read one after another: the first of those that are left, and the others behind it.
use Prim.Native.Nat.{ℕ, suc, ◌+◌, ◌-◌}
use mathlib.Core.Path.{◌≡◌, refl, ap, subst, ◌∙◌}
use mathlib.Core.List.{List, [], ◌∷◌}
use native.Mathlib.Omega.{arith}
use lib.ListN.{drop}
use lib.Seq.{drop-drop}
use Rattle.records.specs.Reading.{Reading, took, refused, after, read_row}
use Rattle.records.proofs.Rows.{row_next, row_refused}
use Rattle.graph.specs.views.Rewriting.{IsTook, read_or}

-- What was read behind something else.
then_took : {A B : Type 0} (a : ℕ) (f : A → B) (r : Reading A) → IsTook (after a f r) → IsTook r
then_took a f (took b x) h = tt
then_took a f (refused q) h = h

then_or : {A : Type 0} (a : ℕ) (x : A) (r : Reading (List A)) → IsTook r → read_or [] (after a (◌∷◌ x) r) ≡ x ∷ read_or [] r
then_or a x (took b xs) h = refl
then_or a x (refused q) h = absurd h

-- n things, one more than m, are read from a position.
module _ {A : Type 0} (one : List ℕ → Reading A) (s : List ℕ) (n m at : ℕ) (more : n ≡ suc m)
    (left : IsTook (read_row [] ◌∷◌ one n (drop at s))) where
  some : n ≡ 0 → ⊥
  some e = omega arith

  -- The first is there to be read,
  pub row_there : {q : ℕ} → one (drop at s) ≡ refused q → ⊥
  row_there e = subst IsTook (row_refused [] ◌∷◌ one n (drop at s) some e) left

  module _ {a : ℕ} {x : A} (e : one (drop at s) ≡ took a x) where
    abbrev rest : Reading (List A)
    rest = read_row [] ◌∷◌ one m (drop (at + a) s)

    goes_on : read_row [] ◌∷◌ one n (drop at s) ≡ after a (◌∷◌ x) rest
    goes_on =
        let fewer : n - 1 ≡ m = omega arith in
        row_next [] ◌∷◌ one n (drop at s) some e
        ∙ (λ j. after a (◌∷◌ x) (read_row [] ◌∷◌ one (fewer j) (drop-drop a at s j)))

    -- and the others behind it.
    pub others_left : IsTook rest
    others_left = then_took a (◌∷◌ x) rest (subst IsTook goes_on left)

    pub first_others : read_or [] (read_row [] ◌∷◌ one n (drop at s)) ≡ x ∷ read_or [] rest
    first_others = ap (read_or []) goes_on ∙ then_or a x rest others_left
