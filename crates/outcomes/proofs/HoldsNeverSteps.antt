-- Laws of asking whether the term at a place is or holds record 35, for any number of levels below it and of arguments.
use Prim.Native.Nat.{ℕ, zero, suc, ◌+◌, ◌-◌, ◌≤◌, ◌<◌}
use mathlib.Core.Path.{◌≡◌, refl, ap, sym, ◌∙◌}
use mathlib.Core.Bool.{Bool, true, false}
use mathlib.Core.List.{List}
use mathlib.Core.Logic.{◌⊎◌}
use native.Mathlib.Omega.{arith}
use lib.Dec.{leb, eqb}
use borrow.Author.Tests.{ne_eqb, leb-false}
use Rattle.places.specs.Numbering.{stride}
use Rattle.codes.specs.views.Codes.{compound_code, number_code, never_code}
use Rattle.basics.proofs.Booleans.{cond_true}
use Rattle.outcomes.specs.views.CompareCells.{is_compound, arity_of, row_holds_never, holds_never_at, cell_holds_never}
use Rattle.outcomes.proofs.FoundRuns.{a_leaf, a_compound_lem}

module _ (cells : List ℕ) where
  -- What is no compound tells it by its code,
  pub leaf_never
      : (below p code : ℕ) → is_compound code ≡ false → holds_never_at cells below p code ≡ eqb code never_code
  leaf_never zero p code leaf = refl
  leaf_never (suc below) p code leaf = rw leaf

  module _ (below p code : ℕ) where
    -- as a code outside those of compounds does,
    pub outside_never
        : (code < compound_code 0 0) ⊎ (leb (number_code 0) code ≡ true) → eqb code never_code ≡ holds_never_at cells below p code
    outside_never h = sym (leaf_never below p code (a_leaf code h))

    module _ (low : compound_code 0 0 ≤ code) (high : leb (number_code 0) code ≡ false) where
      -- and a compound by its arguments: it has none where there is no level below,
      pub no_arguments_never : below ≡ 0 → false ≡ holds_never_at cells below p code
      no_arguments_never none =
          let number = leb-false (number_code 0) code high in
          rw none (sym (ne_eqb code never_code (λ e. omega arith)))

      -- and else those below it.
      pub arguments_never
          : (below ≡ 0 → ⊥)
          → row_holds_never (cell_holds_never cells (below - 1)) (stride (suc (below - 1))) (arity_of code) (p + 1)
          ≡ holds_never_at cells below p code
      arguments_never some =
          let counted : below ≡ suc (below - 1) = omega arith in
          sym
          (ap (λ (k : ℕ). holds_never_at cells k p code) counted ∙ cond_true (is_compound code) _ _ (a_compound_lem code low high))

module _ (one : ℕ → Bool) (i n p : ℕ) where
  -- In a row of none there is none,
  pub no_terms : n ≡ 0 → false ≡ row_holds_never one i n p
  no_terms none = rw none

  module _ (some : n ≡ 0 → ⊥) where
    -- and else the first term is asked, and then the others.
    asked : row_holds_never one i n p ≡ row_holds_never one i (suc (n - 1)) p
    asked = let counted : n ≡ suc (n - 1) = omega arith in ap (λ (k : ℕ). row_holds_never one i k p) counted

    pub first_holds : {b : Bool} → b ≡ one p → b ≡ true → true ≡ row_holds_never one i n p
    first_holds is one_is = sym (asked ∙ (rw (sym is ∙ one_is)))

    pub others_hold
        : {b c : Bool} {j : ℕ} → b ≡ one p → b ≡ false → j ≡ i → c ≡ row_holds_never one i (n - 1) (p + j)
        → c ≡ row_holds_never one i n p
    others_hold is none step others =
        others ∙ ap (λ k. row_holds_never one i (n - 1) (p + k)) step ∙ sym (asked ∙ (rw (sym is ∙ none)))
