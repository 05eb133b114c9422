-- A rule put into the columns of its tests, one test after another.
use Prim.Native.Nat.{ℕ, ◌+◌, ◌-◌, ◌^◌, ◌≤◌, ◌<◌}
use mathlib.Core.Path.{◌≡◌, refl, sym, ap, ◌∙◌}
use mathlib.Core.Bool.{Bool, true, false, ◌&&◌, not, and-true, false≢true}
use mathlib.Core.List.{List}
use mathlib.Core.Logic.{◌⊎◌, ⊎_elim, by_cases}
use native.Mathlib.Decide.{ℕ_discrete}
use native.Mathlib.Omega.{arith}
use lib.Bits.{bit_and}
use lib.Count.{count_trailing_zeros}
use lib.Dec.{eqb}
use lib.ListN.{length, get_or, set, length-set}
use lib.Seq.{get_or-set_same, get_or-set_other}
use borrow.Author.Tests.{eq-eqb, ne_eqb}
use Rattle.basics.proofs.Booleans.{and_both}
use Rattle.masks.specs.Mask.{has}
use Rattle.masks.proofs.Membership.{has_empty}
use Rattle.masks.proofs.Operations.{and_fits}
use Rattle.masks.proofs.LowestMember.{trailing_lt, trailing_in, has_rest}
use Rattle.tables.specs.views.Planes.{column_in}
use Rattle.rows.specs.views.Row.{with_test}
use Rattle.compiled.specs.views.Columns.{Columned}

-- Where a loop stands that puts rule i into the columns of a set's members: those of `left` are to come.
pub record Columning (i row : ℕ) (s₀ s : List ℕ) (left : ℕ) : Type 0 where
  pub fits : left < 2 ^ 64
  pub entries : length s ≡ length s₀
  pub others : (k : ℕ) → (k < 132) ⊎ (196 ≤ k) → get_or s k 0 ≡ get_or s₀ k 0
  pub part : (t : ℕ) → has left t ≡ true → has row t ≡ true
  pub todo : (t : ℕ) → t < 64 → has left t ≡ true → column_in s t ≡ column_in s₀ t
  pub with : (t : ℕ) → t < 64 → has row t ≡ true → has left t ≡ false → column_in s t ≡ with_test (column_in s₀ t) i
  pub without : (t : ℕ) → t < 64 → has row t ≡ false → column_in s t ≡ column_in s₀ t

pub columning_start : (i row : ℕ) (s : List ℕ) → row < 2 ^ 64 → Columning i row s s row
columning_start i row s h = record {
  fits = h;
  entries = refl;
  others = λ k apart. refl;
  part = λ t there. there;
  todo = λ t l there. refl;
  with = λ t l there gone. absurd (false≢true (sym gone ∙ there));
  without = λ t l gone. refl;
}

module _ (i row : ℕ) (s₀ s : List ℕ) (left : ℕ) (c : Columning i row s₀ s left) where
  -- A turn puts it into the column of the lowest member left.
  module _ (some : 0 < left) (long : length s₀ ≡ 324) where
    abbrev t : ℕ
    t = count_trailing_zeros 64 left

    low : t < 64
    low = trailing_lt 64 left c.fits some

    here : has left t ≡ true
    here = trailing_in 64 left c.fits some

    less : (j : ℕ) → has (bit_and left (left - 1)) j ≡ has left j && not (eqb t j)
    less j = has_rest 64 left j c.fits some

    -- What is left but the lowest.
    still : (j : ℕ) → has (bit_and left (left - 1)) j ≡ true → (has left j ≡ true) × (t ≡ j → ⊥)
    still j h =
        let both = and_both (has left j) (not (eqb t j)) (sym (less j) ∙ h) in
        (both.0, λ e. false≢true (sym (ap not (eq-eqb t j e)) ∙ both.1))

    pub columning_turn
        : {u : List ℕ} (v : ℕ) → u ≡ set s (132 + t) v → v ≡ with_test (column_in s t) i
        → Columning i row s₀ u (bit_and left (left - 1))
    columning_turn {u} v e is = record {
      fits = and_fits 64 left (left - 1) c.fits;
      entries = ap length e ∙ length-set s (132 + t) v ∙ c.entries;
      others = λ k apart.
          other k (⊎_elim (λ (h : k < 132) d. omega (arith, low)) (λ (h : 196 ≤ k) d. omega (arith, low)) apart)
          ∙ c.others k apart;
      part = λ j h. c.part j (still j h).0;
      todo = λ j l h. column j (still j h).1 ∙ c.todo j l (still j h).0;
      with = λ j l there gone.
          by_cases (ℕ_discrete t j)
          (λ (d : t ≡ j). ap (column_in u) (sym d) ∙ own ∙ ap (λ (x : ℕ). with_test (column_in s₀ x) i) d)
          (λ (d : ¬ (t ≡ j)).
          column j d
          ∙ c.with j l there
          (sym (and-true (has left j)) ∙ sym (less j ∙ ap (λ (b : Bool). has left j && not b) (ne_eqb t j d)) ∙ gone));
      without = λ j l gone.
          column j (λ d. false≢true (sym gone ∙ ap (has row) (sym d) ∙ c.part t here)) ∙ c.without j l gone;
    }
      where
        other : (k : ℕ) → (k ≡ 132 + t → ⊥) → get_or u k 0 ≡ get_or s k 0
        other k d = ap (λ (l : List ℕ). get_or l k 0) e ∙ get_or-set_other s (132 + t) k v 0 d

        column : (j : ℕ) → (t ≡ j → ⊥) → column_in u j ≡ column_in s j
        column j d = other (132 + j) (λ same. d (omega arith))

        own : column_in u t ≡ with_test (column_in s₀ t) i
        own =
            ap (λ (l : List ℕ). get_or l (132 + t) 0) e
            ∙ get_or-set_same s (132 + t) v 0 (omega (arith, low, c.entries))
            ∙ is
            ∙ ap (λ (x : ℕ). with_test x i) (c.todo t low here)

  -- At the end it is in all of them.
  pub columning_done : left ≡ 0 → Columned i row s₀ s
  columning_done e = record {
    entries = c.entries;
    others = c.others;
    with = λ t l there. c.with t l there (ap (λ (m : ℕ). has m t) e ∙ has_empty t);
    without = c.without;
  }
