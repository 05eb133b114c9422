-- Things that are read one after another up to one that is sought: it stands among those that are left.
use Prim.Native.Nat.{ℕ, suc, ◌+◌, ◌-◌, ◌<◌, ◌≤◌}
use mathlib.Core.Path.{◌≡◌, sym, subst, ◌∙◌}
use mathlib.Core.List.{List, [], ◌∷◌}
use native.Mathlib.Omega.{arith}
use lib.ListN.{length, get_or, drop}
use Rattle.records.specs.Reading.{Reading, took, refused, read_row}
use Rattle.graph.specs.views.Rewriting.{IsTook, read_or}
use Rattle.leaves.specs.views.Seeking.{row_from, Seeking}
use Rattle.graph.proofs.RowsLeft.{row_there, others_left, first_others}

module _ {A : Type 0} (one : List ℕ → Reading A) (other : A) (s : List ℕ) where
  abbrev Left : ℕ → ℕ → ℕ → ℕ → Type 0
  Left = Seeking one other s

  abbrev rows : ℕ → ℕ → List A
  rows = row_from one other s

  -- Before the first.
  pub seeking_starts : (count k : ℕ) → k < count → IsTook (read_row [] ◌∷◌ one count s) → Left count k 0 0
  seeking_starts count k among left =
      let all : count ≡ count - 0 = omega arith in
      let here : k ≡ k - 0 = omega arith in
      record {
        sought = omega arith;
        among = among;
        there = omega arith;
        left = subst (λ (n : ℕ). IsTook (read_row [] ◌∷◌ one n s)) all left;
        same = λ j. get_or (read_or [] (read_row [] ◌∷◌ one (all j) s)) (here j) other;
      }

  module _ {count k at i : ℕ} (g : Left count k at i) where
    more : count - i ≡ suc (count - (i + 1))
    more = omega (arith, g.sought, g.among)

    -- The next is there to be read.
    pub seeking_there : {q : ℕ} → one (drop at s) ≡ refused q → ⊥
    seeking_there e = row_there one s (count - i) (count - (i + 1)) at more g.left e

    module _ {a : ℕ} {x : A} (e : one (drop at s) ≡ took a x) where
      these : rows (count - i) at ≡ x ∷ rows (count - (i + 1)) (at + a)
      these = first_others one s (count - i) (count - (i + 1)) at more g.left e

      -- It is the one that is sought,
      pub seeking_found : i ≡ k → x ≡ get_or (rows count 0) k other
      seeking_found h =
          let none : k - i ≡ 0 = omega arith in
          sym (g.same ∙ (λ j. get_or (these j) (none j) other))

      -- or that one is behind it.
      pub seeking_next : (i ≡ k → ⊥) → at + a ≤ length s → Left count k (at + a) (i + 1)
      seeking_next h inside =
          let later : k - i ≡ suc (k - (i + 1)) = omega (arith, g.sought) in
          record {
            sought = omega (arith, g.sought);
            among = g.among;
            there = inside;
            left = others_left one s (count - i) (count - (i + 1)) at more g.left e;
            same = g.same ∙ (λ j. get_or (these j) (later j) other);
          }
