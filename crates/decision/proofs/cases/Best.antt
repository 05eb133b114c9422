-- The best of a list: of the things that are taken, the one that comes before the others.
use mathlib.Core.Path.{◌≡◌, refl, ap, ap₂, sym, subst, ◌∙◌}
use mathlib.Core.Bool.{Bool, true, false, cond}
use mathlib.Core.Logic.{◌⊎◌, inl, inr}
use mathlib.Core.List.{List, [], ◌∷◌, ◌++◌, map}
use mathlib.Core.Option.{Option, some, none}
use lib.Dec.{T}
use Rattle.basics.specs.Lists.{Mem, here, there, All}
use Rattle.basics.proofs.ListLaws.{all_map, mem_cases, mem_none}
use Rattle.basics.proofs.Booleans.{cond_holds}
use Rattle.decision.specs.Narrowest.{better, best}

-- An order of the things that are taken.
pub record TakenOrder {A : Type 0} (taken : A → Bool) (before : A → A → Bool) : Type 0 where
  pub asymmetric : (x y : A) → T (before x y) → T (before y x) → ⊥
  pub across : (x y z : A) → T (taken x) → T (taken y) → T (taken z) → T (before x z) → T (before x y) ⊎ T (before y z)

-- x stands in the list and is taken, and nothing else that is taken comes before it.
pub record Best {A : Type 0} (taken : A → Bool) (before : A → A → Bool) (xs : List A) (x : A) : Type 0 where
  pub listed : Mem x xs
  pub is_taken : T (taken x)
  pub first : (y : A) → Mem y xs → T (taken y) → T (before y x) → ⊥

-- Q holds of what there is, if anything.
abbrev pub IfSome : {A : Type 0} → (A → Type 0) → Option A → Type 0
IfSome Q none = Unit
IfSome Q (some x) = Q x

module _ {A : Type 0} (taken : A → Bool) (before : A → A → Bool) where
  -- The best of a list, or nothing where nothing is taken.
  abbrev pub IsBest : List A → Option A → Type 0
  IsBest xs none = (y : A) → Mem y xs → T (taken y) → ⊥
  IsBest xs (some x) = Best taken before xs x

  pub best_law : TakenOrder taken before → (xs : List A) → IsBest xs (best taken before xs)
  best_law order [] = λ y m t. mem_none m
  best_law order (x ∷ xs) = go (taken x) refl (best taken before xs) (best_law order xs)
    where
      is_taken_lem : taken x ≡ true → T (taken x)
      is_taken_lem e = subst T (sym e) tt

      -- Where x is not taken, what is taken is in the rest.
      other : taken x ≡ false → (y : A) → Mem y (x ∷ xs) → T (taken y) → Mem y xs
      other e y m t =
          elim (mem_cases m) [ inl q ↦ absurd (subst T e (subst (λ (z : A). T (taken z)) q t)) | inr k ↦ k ]

      -- What comes before x is in the rest.
      alone : (y : A) → Mem y (x ∷ xs) → T (before y x) → Mem y xs
      alone y m b =
          elim (mem_cases m) [
            | inl q ↦ (let own : T (before x x) = subst (λ (z : A). T (before z x)) q b in absurd (order.asymmetric x x own own))
            | inr k ↦ k
          ]

      pick
          : (z : A) → Best taken before xs z → taken x ≡ true → (c : Bool) → before z x ≡ c
          → Best taken before (x ∷ xs) (cond c z x)
      pick z h e true d = record {
        listed = there h.listed;
        is_taken = h.is_taken;
        first = λ y m t b. elim (mem_cases m) [
          | inl q ↦ order.asymmetric z x (subst T (sym d) tt) (subst (λ (v : A). T (before v z)) q b)
          | inr k ↦ h.first y k t b
        ];
      }
      pick z h e false d = record {
        listed = here;
        is_taken = is_taken_lem e;
        first = λ y m t b. (let k = alone y m b in
            elim (order.across y z x t h.is_taken (is_taken_lem e) b)
            [ inl p ↦ h.first y k t p | inr p ↦ subst T d p ]);
      }

      go : (c : Bool) → taken x ≡ c → (o : Option A) → IsBest xs o → IsBest (x ∷ xs) (better before c x o)
      go false e none h = λ y m t. h y (other e y m t) t
      go false e (some z) h = record {
        listed = there h.listed;
        is_taken = h.is_taken;
        first = λ y m t b. h.first y (other e y m t) t b;
      }
      go true e none h = record {
        listed = here;
        is_taken = is_taken_lem e;
        first = λ y m t b. h y (alone y m b) t;
      }
      go true e (some z) h = pick z h e (before z x) refl

  -- Where nothing in the first of two lists is taken, the best of both is that of the second.
  pub best_join
      : (xs ys : List A) → All (λ (x : A). T (taken x) → ⊥) xs → best taken before (xs ++ ys) ≡ best taken before ys
  best_join [] ys h = refl
  best_join (x ∷ xs) ys h = go (taken x) h.0 (best_join xs ys h.1)
    where
      go : (c : Bool) → (T c → ⊥) → best taken before (xs ++ ys) ≡ best taken before ys
          → better before c x (best taken before (xs ++ ys)) ≡ best taken before ys
      go true none-taken e = absurd (none-taken tt)
      go false none-taken e = e

  -- What holds of each thing that is taken holds of the best, if there is one.
  pub best_holds : (Q : A → Type 0) (xs : List A) → All (λ (x : A). T (taken x) → Q x) xs → IfSome Q (best taken before xs)
  best_holds Q [] h = tt
  best_holds Q (x ∷ xs) h = go (taken x) (λ t. h.0 t) (best taken before xs) (best_holds Q xs h.1)
    where
      go : (c : Bool) → (T c → Q x) → (o : Option A) → IfSome Q o → IfSome Q (better before c x o)
      go false f o k = k
      go true f none k = f tt
      go true f (some y) k = cond_holds Q (before y x) y x k (f tt)

-- What is taken and comes first by other tests, which agree on the things of the list, is the same.
pub best_same
    : {A : Type 0} {taken taken' : A → Bool} {before before' : A → A → Bool} (P : A → Type 0)
    → ((x : A) → P x → taken x ≡ taken' x)
    → ((x y : A) → P x → P y → T (taken x) → T (taken y) → before x y ≡ before' x y)
    → (xs : List A) → All P xs → best taken before xs ≡ best taken' before' xs
best_same P takes comes [] h = refl
best_same {A} {taken} {taken'} {before} {before'} P takes comes (x ∷ xs) h =
    go (taken x) (λ t. t) (best taken before xs)
    (best_holds taken before (λ (y : A). P y × T (taken y)) xs
    (all_map P (λ (y : A). T (taken y) → P y × T (taken y)) (λ y p t. (p, t)) xs h.1))
    ∙ ap₂ (λ (c : Bool) (o : Option A). better before' c x o) (takes x h.0) (best_same P takes comes xs h.1)
  where
    go : (c : Bool) → (T c → T (taken x)) → (o : Option A) → IfSome (λ (y : A). P y × T (taken y)) o
        → better before c x o ≡ better before' c x o
    go false f o k = refl
    go true f none k = refl
    go true f (some y) k = ap (λ (c : Bool). some (cond c y x)) (comes y x k.0 h.0 k.1 (f tt))

-- The best of a mapped list is that of the list, mapped.
abbrev pub map_some : {A B : Type 0} → (A → B) → Option A → Option B
map_some f none = none
map_some f (some x) = some (f x)

pub best_map
    : {A B : Type 0} (f : A → B) (taken : B → Bool) (before : B → B → Bool) (xs : List A)
    → best taken before (map f xs) ≡ map_some f (best (λ (x : A). taken (f x)) (λ (x y : A). before (f x) (f y)) xs)
best_map f taken before [] = refl
best_map {A} f taken before (x ∷ xs) =
    ap (better before (taken (f x)) (f x)) (best_map f taken before xs)
    ∙ go (taken (f x)) (best (λ (y : A). taken (f y)) (λ (y z : A). before (f y) (f z)) xs)
  where
    pick : (c : Bool) (y : A) → some (cond c (f y) (f x)) ≡ some (f (cond c y x))
    pick true y = refl
    pick false y = refl

    go : (c : Bool) (o : Option A)
        → better before c (f x) (map_some f o) ≡ map_some f (better (λ (y z : A). before (f y) (f z)) c x o)
    go false o = refl
    go true none = refl
    go true (some y) = pick (before (f y) (f x)) y
