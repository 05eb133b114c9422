-- The equality tests of a rule ascend by the first place, then the second: so two rules with the same ones have the same list.
use Prim.Native.Nat.{ℕ, suc, ◌≤◌}
use mathlib.Core.Path.{◌≡◌, refl, sym}
use mathlib.Core.Bool.{Bool, true, false, cond}
use mathlib.Core.Logic.{inl, inr}
use mathlib.Core.List.{List, [], ◌∷◌}
use native.Mathlib.Omega.{arith}
use lib.Dec.{T, eqb}
use Rattle.basics.specs.Lists.{All}
use Rattle.basics.specs.Order.{pair_before}
use Rattle.basics.proofs.ListLaws.{all_map, all_at, all_from}
use Rattle.basics.proofs.Sorted.{StrictOrder, AscendingBy, Ascending, before_pair, pair_irreflexive, pair_transitive, pair_total}
use Rattle.basics.proofs.Ascent.{ascending_join}
use Rattle.terms.specs.RuleTests.{PairTest, both, Occurrence}
use Rattle.terms.specs.RuleTests.{pairs_with, pairs_of}
use Rattle.terms.proofs.Ascending.{Ascends, ascends_wider, ascends_from}
use Rattle.terms.proofs.PairTests.{variable_place, pairs_each}

-- By the first place, then the second.
abbrev pub comes_before : PairTest → PairTest → Bool
comes_before x y = pair_before x.first x.second y.first y.second

pub pair_order : StrictOrder comes_before
pair_order = record {
  irreflexive = λ x h. pair_irreflexive x.first x.second h;
  transitive = λ x y z h k. pair_transitive x.first x.second y.first y.second z.first z.second h k;
  total = λ x y h k. (let (d, e) = pair_total x.first x.second y.first y.second h k in λ i. both (d i) (e i));
}

-- The first of two pairs comes before the second.
abbrev Comes : PairTest → PairTest → Type 0
Comes x y = T (comes_before x y)

-- The pairs of place n with later ones have n first and a later place second, and ascend;
abbrev From : ℕ → ℕ → PairTest → Type 0
From n b x = (x.first ≡ n) × (b ≤ x.second)

with_from_lem : (n v b e : ℕ) (os : List Occurrence) → Ascends variable_place b e os → All (From n b) (pairs_with n v os)
with_from_lem n v b e [] up = tt
with_from_lem n v b e (o ∷ os) up =
    let wide = ascends_wider variable_place (suc o.place) e b e (omega (arith, up.0)) (omega arith) os up.1 in
    go (eqb v o.name) (with_from_lem n v b e os wide)
  where
    go
        : (c : Bool) → All (From n b) (pairs_with n v os)
        → All (From n b) (cond c (both n o.place ∷ pairs_with n v os) (pairs_with n v os))
    go true h = ((refl, up.0), h)
    go false h = h

with_ascends : (n v b e : ℕ) (os : List Occurrence) → Ascends variable_place b e os → AscendingBy Comes (pairs_with n v os)
with_ascends n v b e [] up = tt
with_ascends n v b e (o ∷ os) up =
    go (eqb v o.name) (with_from_lem n v (suc o.place) e os up.1) (with_ascends n v (suc o.place) e os up.1)
  where
    later : (x : PairTest) → From n (suc o.place) x → Comes (both n o.place) x
    later x h = before_pair n o.place x.first x.second (inr (sym h.0, h.1))

    go
        : (c : Bool) → All (From n (suc o.place)) (pairs_with n v os) → AscendingBy Comes (pairs_with n v os)
        → AscendingBy Comes (cond c (both n o.place ∷ pairs_with n v os) (pairs_with n v os))
    go true h a = (all_map (From n (suc o.place)) (Comes (both n o.place)) later (pairs_with n v os) h, a)
    go false h a = a

-- so all pairs do.
pub pairs_ascend_lem : (b e : ℕ) (os : List Occurrence) → Ascends variable_place b e os → Ascending comes_before (pairs_of os)
pairs_ascend_lem b e [] up = tt
pairs_ascend_lem b e (o ∷ os) up =
    ascending_join Comes mine others (with_ascends n v (suc n) e os up.1) (pairs_ascend_lem (suc n) e os up.1)
    (all_from (λ (x : PairTest). All (Comes x) others) mine
    (λ x m. all_map Higher (Comes x) (before x (all_at (From n (suc n)) m from)) others higher))
  where
    n : ℕ
    n = o.place

    v : ℕ
    v = o.name

    mine : List PairTest
    mine = pairs_with n v os

    others : List PairTest
    others = pairs_of os

    from : All (From n (suc n)) mine
    from = with_from_lem n v (suc n) e os up.1

    Higher : PairTest → Type 0
    Higher y = suc n ≤ y.first

    higher : All Higher others
    higher =
        pairs_each (λ (x : Occurrence). suc n ≤ x.place) Higher (λ x y l s h k. h) (suc n) e os up.1
        (ascends_from variable_place (suc n) e os up.1)

    before : (x : PairTest) → From n (suc n) x → (y : PairTest) → Higher y → Comes x y
    before x h y k = before_pair x.first x.second y.first y.second (inl (omega (arith, h.0)))
