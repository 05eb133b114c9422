-- A series and its tidy form (document 02, request 5): "Pattern 21 is then the series of one symbol; both give the same graph, and
-- tidying writes 21."
use Prim.Native.Nat.{ℕ}
use mathlib.Core.Path.{◌≡◌, refl}
use lib.Dec.{eqb, eqb→eq, eqb_refl}
use Rattle.basics.proofs.Booleans.{cond_true, cond_by}
use Rattle.terms.specs.Pattern.{Pattern, the_symbol, the_series}
use Rattle.tidy.specs.TidyRule.{tidy_series}

-- The series of one symbol becomes that symbol.
pub tidy_one : (a : ℕ) → tidy_series a a ≡ the_symbol a
tidy_one a = cond_true (eqb a a) (the_symbol a) (the_series a a) (eqb_refl a)

-- What is the same of a symbol and of the series of it alone is the same of a series and its tidy form.
pub series_kept
    : {A : Type 0} (f : Pattern → A) (l h : ℕ) → (l ≡ h → f (the_symbol l) ≡ f (the_series l h))
    → f (tidy_series l h) ≡ f (the_series l h)
series_kept f l h same =
    cond_by (λ (p : Pattern). f p ≡ f (the_series l h)) (eqb l h) (λ t. same (eqb→eq l h t)) (λ t. refl)
