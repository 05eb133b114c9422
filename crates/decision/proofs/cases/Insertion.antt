-- Insertion into an ascending list: what stands in it afterwards, and that it still ascends. Hence the compounds that have a case
-- are the wanted ones, ascending.
use Prim.Native.Nat.{ℕ, suc, ◌≤◌, ◌<◌}
use mathlib.Core.Path.{◌≡◌, refl, sym, subst}
use mathlib.Core.Bool.{Bool}
use mathlib.Core.Logic.{◌↔◌, ◌⊎◌, inl, inr}
use mathlib.Core.List.{List, [], ◌∷◌}
use lib.Dec.{T, ltb, ltb→lt, lt→ltb}
use lib.ListN.{length}
use Rattle.basics.specs.Lists.{Mem, here, there}
use Rattle.basics.specs.Order.{insert_by}
use Rattle.terms.specs.RuleTests.{Want, a_symbol, a_number, a_compound}
use Rattle.basics.proofs.ListLaws.{all_map, mem_none}
use Rattle.basics.proofs.Sorted.{AscendingBy as Ascending, StrictOrder, number_order, insert_has, insert_keeps, insert_mem}
use Rattle.basics.proofs.Sorted.{insert_ascends, insert_length}
use Rattle.decision.specs.Cases.{Functor, functor_before, functors_of}
use Rattle.decision.proofs.cases.FunctorOrder.{FunctorBefore, functor_order}

-- The list zs is ys with x inserted: it has x and what ys has, it ascends if ys does, and it is at most one longer.
pub record Inserted {A : Type 0} (Before : A → A → Type 0) (x : A) (ys zs : List A) : Type 0 where
  pub members : (z : A) → Mem z zs ↔ ((z ≡ x) ⊎ Mem z ys)
  pub ascends : Ascending Before ys → Ascending Before zs
  pub longer : length zs ≤ suc (length ys)

-- By a strict order things are inserted so.
inserted
    : {A : Type 0} {before : A → A → Bool} → StrictOrder before → (x : A) (ys : List A)
    → Inserted (λ (y : A) (z : A). T (before y z)) x ys (insert_by before x ys)
inserted {A} {before} order x ys = record {
  members = λ z. (
    λ m. insert_mem order x ys m,
    λ d. elim d [
      | inl e ↦ subst (λ (y : A). Mem y (insert_by before x ys)) (sym e) (insert_has order x ys)
      | inr k ↦ insert_keeps order x ys k
    ],
  );
  ascends = insert_ascends order x ys;
  longer = insert_length order x ys;
}

-- Numbers in order by the test of less are in order.
to_less : (xs : List ℕ) → Ascending (λ (x : ℕ) (y : ℕ). T (ltb x y)) xs → Ascending ◌<◌ xs
to_less [] a = tt
to_less (x ∷ xs) a = (all_map (λ (y : ℕ). T (ltb x y)) (λ (y : ℕ). x < y) (λ y h. ltb→lt x y h) xs a.0, to_less xs a.1)

from_less : (xs : List ℕ) → Ascending ◌<◌ xs → Ascending (λ (x : ℕ) (y : ℕ). T (ltb x y)) xs
from_less [] a = tt
from_less (x ∷ xs) a = (all_map (λ (y : ℕ). x < y) (λ (y : ℕ). T (ltb x y)) (λ y h. lt→ltb x y h) xs a.0, from_less xs a.1)

-- Numbers are inserted by the test of less,
pub number_inserted : (x : ℕ) (ys : List ℕ) → Inserted ◌<◌ x ys (insert_by ltb x ys)
number_inserted x ys =
    let i = inserted number_order x ys in
    record { members = i.members; ascends = λ a. to_less (insert_by ltb x ys) (i.ascends (from_less ys a)); longer = i.longer }

-- and compounds by id and arity.
pub functor_inserted : (f : Functor) (gs : List Functor) → Inserted FunctorBefore f gs (insert_by functor_before f gs)
functor_inserted f gs = inserted functor_order f gs

-- A compound that has a case is wanted,
pub functor_wanted : (ws : List Want) (f : Functor) → Mem f (functors_of ws) → Mem (a_compound f.name f.arity) ws
functor_wanted [] f m = absurd (mem_none m)
functor_wanted (a_symbol l h ∷ ws) f m = there (functor_wanted ws f m)
functor_wanted (a_number l h ∷ ws) f m = there (functor_wanted ws f m)
functor_wanted (a_compound b n ∷ ws) f m =
    elim (((functor_inserted (record { name = b; arity = n }) (functors_of ws)).members f).0 m)
    [ inl e ↦ rw e here | inr k ↦ there (functor_wanted ws f k) ]

-- a wanted compound has a case,
pub wanted_functor
    : {a n : ℕ} {ws : List Want} → Mem (a_compound a n) ws → Mem (record { name = a; arity = n }) (functors_of ws)
wanted_functor {a} {n} (here {xs = ws}) =
    let f : Functor = record { name = a; arity = n } in ((functor_inserted f (functors_of ws)).members f).1 (inl refl)
wanted_functor (there {y = a_symbol l h} m) = wanted_functor m
wanted_functor (there {y = a_number l h} m) = wanted_functor m
wanted_functor {a} {n} (there {y = a_compound b k} {xs = ws} m) =
    ((functor_inserted (record { name = b; arity = k }) (functors_of ws)).members (record { name = a; arity = n })).1
    (inr (wanted_functor m))

-- and the compounds ascend.
pub functors_ascend : (ws : List Want) → Ascending FunctorBefore (functors_of ws)
functors_ascend [] = tt
functors_ascend (a_symbol l h ∷ ws) = functors_ascend ws
functors_ascend (a_number l h ∷ ws) = functors_ascend ws
functors_ascend (a_compound a n ∷ ws) =
    (functor_inserted (record { name = a; arity = n }) (functors_of ws)).ascends (functors_ascend ws)
