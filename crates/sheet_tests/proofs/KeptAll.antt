-- All the pairs of a list kept one after another: the pairs of the list, ascending.
use Prim.Native.Nat.{ℕ}
use mathlib.Core.Path.{◌≡◌, refl, sym, ap, ◌∙◌}
use mathlib.Core.Bool.{Bool, true, false}
use mathlib.Core.List.{List, [], ◌∷◌}
use native.Mathlib.Omega.{arith}
use lib.Dec.{ltb, leb}
use lib.ListN.{length}
use borrow.Author.Tests.{lt-leb, leb-false}
use Rattle.basics.specs.Order.{insert_by}
use Rattle.sheet_tests.specs.CheckSheet.{most_tests}
use Rattle.sheet_tests.specs.views.TestedPlaces.{insert_all}
use Rattle.pairs.specs.views.KeptPairs.{kept_if, kept_of, keep, keep_all}
use Rattle.pairs.proofs.Slots.{insert_length}

-- One pair more of all that are kept of a list.
keep_kept : (c : ℕ) (l : List ℕ) → keep c (kept_of l) ≡ kept_of (insert_by ltb c l)
keep_kept c l = go (leb (length l) most_tests) refl
  where
    go : (b : Bool) → leb (length l) most_tests ≡ b → keep c (kept_if b l) ≡ kept_of (insert_by ltb c l)
    go true e = refl
    go false e =
        ap (λ (b : Bool). kept_if b (insert_by ltb c l))
        (sym (lt-leb (length (insert_by ltb c l)) 64 (omega (arith, leb-false (length l) 64 e, insert_length c l))))

-- What is kept of a list, with all of another: the pairs of both, ascending.
pub keep_all_lem : (cs l : List ℕ) → keep_all cs (kept_of l) ≡ kept_of (insert_all cs l)
keep_all_lem [] l = refl
keep_all_lem (c ∷ cs) l = ap (keep_all cs) (keep_kept c l) ∙ keep_all_lem cs (insert_by ltb c l)
