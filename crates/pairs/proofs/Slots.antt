-- Where a number belongs in a list, and the list with the number there.
use Prim.Native.Nat.{ℕ, suc, ◌+◌, ◌≤◌, ◌<◌}
use mathlib.Core.Path.{◌≡◌, refl, ap, ◌∙◌}
use mathlib.Core.Bool.{Bool, true, false, cond}
use mathlib.Core.List.{List, [], ◌∷◌, ◌++◌}
use native.Mathlib.Omega.{arith}
use lib.Dec.{ltb}
use native.Mathlib.Numerals.{add-one}
use lib.ListN.{length, get_or, take, drop, drop_of_length-le}
use lib.Seq.{length-take-le, drop-cons, get_or-take}
use borrow.Author.Tests.{lt-ltb, le-ltb, ltb-true, ltb-false}
use Rattle.basics.specs.Order.{insert_by}
use Rattle.pairs.specs.views.Slot.{slot, Passed}

abbrev inserted : ℕ → ℕ → List ℕ → Bool → Bool → List ℕ
inserted c y ys a b =
    cond a (c ∷ y ∷ ys) (cond b (y ∷ insert_by ltb c ys) (y ∷ ys))

insert_step : (c y : ℕ) {a b : Bool} (ys : List ℕ) → ltb c y ≡ a → ltb y c ≡ b → insert_by ltb c (y ∷ ys) ≡ inserted c y ys a b
insert_step c y ys d e = λ i. inserted c y ys (d i) (e i)

-- A slot is no further than the end.
pub slot_within : (c : ℕ) (l : List ℕ) → slot c l ≤ length l
slot_within c [] = omega arith
slot_within c (y ∷ ys) = go (ltb y c) (slot_within c ys)
  where
    go : (b : Bool) → slot c ys ≤ length ys
        → cond b (suc (slot c ys)) 0 ≤ suc (length ys)
    go true h = omega arith
    go false h = omega arith

-- A number that stands where it belongs is put in no second time.
pub insert_there : (c : ℕ) (l : List ℕ) → slot c l < length l → get_or l (slot c l) 0 ≡ c → insert_by ltb c l ≡ l
insert_there c [] h e = absurd (omega arith)
insert_there c (y ∷ ys) h e = go (ltb y c) refl (insert_there c ys) h e
  where
    go : (b : Bool) → ltb y c ≡ b → (slot c ys < length ys → get_or ys (slot c ys) 0 ≡ c → insert_by ltb c ys ≡ ys)
        → cond b (suc (slot c ys)) 0 < suc (length ys)
        → get_or (y ∷ ys) (cond b (suc (slot c ys)) 0) 0 ≡ c
        → insert_by ltb c (y ∷ ys) ≡ y ∷ ys
    go true d more h e =
        insert_step c y ys (le-ltb c y (omega (arith, ltb-true y c d))) d ∙ ap (λ (t : List ℕ). y ∷ t) (more (omega arith) e)
    go false d more h e = insert_step c y ys (le-ltb c y (omega arith)) d

-- A number that does not stand where it belongs is put there.
pub insert_here : (c : ℕ) (l : List ℕ) → (slot c l < length l → get_or l (slot c l) 0 ≡ c → ⊥)
    → insert_by ltb c l ≡ take (slot c l) l ++ (c ∷ drop (slot c l) l)
insert_here c [] h = refl
insert_here c (y ∷ ys) h = go (ltb y c) refl (insert_here c ys) h
  where
    go : (b : Bool) → ltb y c ≡ b
        → ((slot c ys < length ys → get_or ys (slot c ys) 0 ≡ c → ⊥) → insert_by ltb c ys ≡ take (slot c ys) ys ++ (c ∷ drop (slot c ys) ys))
        → (cond b (suc (slot c ys)) 0 < suc (length ys)
        → get_or (y ∷ ys) (cond b (suc (slot c ys)) 0) 0 ≡ c → ⊥)
        → insert_by ltb c (y ∷ ys)
        ≡ take (cond b (suc (slot c ys)) 0) (y ∷ ys)
        ++ (c ∷ drop (cond b (suc (slot c ys)) 0) (y ∷ ys))
    go true d more h =
        insert_step c y ys (le-ltb c y (omega (arith, ltb-true y c d))) d
        ∙ ap (λ (t : List ℕ). y ∷ t) (more (λ l e. h (omega arith) e))
    go false d more h =
        let apart : y ≡ c → ⊥ = λ e. h (omega arith) e in
        insert_step c y ys (lt-ltb c y (omega (arith, ltb-false y c d))) d

-- A list with a number put in is no shorter.
pub insert_length : (c : ℕ) (l : List ℕ) → length l ≤ length (insert_by ltb c l)
insert_length c [] = omega arith
insert_length c (y ∷ ys) = go (ltb c y) (ltb y c) (insert_length c ys)
  where
    go : (a b : Bool) → length ys ≤ length (insert_by ltb c ys) → suc (length ys) ≤ length (inserted c y ys a b)
    go true b h = omega arith
    go false true h = omega arith
    go false false h = omega arith

-- A number above one that stands where it belongs belongs behind it.
pub next_there : (c d : ℕ) (l : List ℕ) → c < d → slot c l < length l → get_or l (slot c l) 0 ≡ c → Passed (suc (slot c l)) d l
next_there c d [] h inside e = absurd (omega arith)
next_there c d (y ∷ ys) h inside e = go (ltb y c) refl (next_there c d ys h) inside e
  where
    go
        : (b : Bool) → ltb y c ≡ b → (slot c ys < length ys → get_or ys (slot c ys) 0 ≡ c → Passed (suc (slot c ys)) d ys)
        → cond b (suc (slot c ys)) 0 < suc (length ys) → get_or (y ∷ ys) (cond b (suc (slot c ys)) 0) 0 ≡ c
        → slot d (y ∷ ys) ≡ suc (cond b (suc (slot c ys)) 0) + slot d (drop (cond b (suc (slot c ys)) 0) ys)
    go true k more inside e =
        ap (λ (b : Bool). cond b (suc (slot d ys)) 0) (lt-ltb y d (omega (arith, ltb-true y c k)))
        ∙ omega (arith, more (omega arith) e)
    go false k more inside e =
        ap (λ (b : Bool). cond b (suc (slot d ys)) 0) (lt-ltb y d (omega arith)) ∙ omega arith

-- So it does where the number was put there.
pub next_here
    : (c d : ℕ) (l : List ℕ) → c < d → Passed (suc (slot c l)) d (take (slot c l) l ++ (c ∷ drop (slot c l) l))
next_here c d [] h = ap (λ (b : Bool). cond b 1 0) (lt-ltb c d h)
next_here c d (y ∷ ys) h = go (ltb y c) refl (next_here c d ys h)
  where
    go
        : (b : Bool) → ltb y c ≡ b → Passed (suc (slot c ys)) d (take (slot c ys) ys ++ (c ∷ drop (slot c ys) ys))
        → Passed (suc (cond b (suc (slot c ys)) 0)) d
        (take (cond b (suc (slot c ys)) 0) (y ∷ ys) ++ (c ∷ drop (cond b (suc (slot c ys)) 0) (y ∷ ys)))
    go true k more =
        let rest = take (slot c ys) ys ++ (c ∷ drop (slot c ys) ys) in
        ap (λ (b : Bool). cond b (suc (slot d rest)) 0) (lt-ltb y d (omega (arith, ltb-true y c k))) ∙ omega (arith, more)
    go false k more = ap (λ (b : Bool). cond b (suc (slot d (y ∷ ys))) 0) (lt-ltb c d h) ∙ omega arith

-- A search among the first n numbers of a list, which has passed i of them, all below c.
module _ (c : ℕ) (l : List ℕ) (n i : ℕ) (within : n ≤ length l) (passed : slot c (take n l) ≡ i + slot c (drop i (take n l))) where
  -- At the end of the n the slot is there.
  pub slot_end : n ≤ i → i ≡ slot c (take n l)
  slot_end h =
      let none : drop i (take n l) ≡ [] = drop_of_length-le (take n l) {i = i} (omega (arith, length-take-le n l within)) in
      omega (arith, ap (slot c) none)

  module _ (h : i < n) where
    next : drop i (take n l) ≡ get_or l i 0 ∷ drop (suc i) (take n l)
    next =
        drop-cons (take n l) i 0 (omega (arith, length-take-le n l within))
        ∙ ap (λ (x : ℕ). x ∷ drop (suc i) (take n l)) (get_or-take n l i 0 h)

    -- At a number that is not below c the slot is there.
    pub slot_found : c ≤ get_or l i 0 → i ≡ slot c (take n l)
    slot_found k =
        let rest = drop (suc i) (take n l) in
        let here : slot c (get_or l i 0 ∷ rest) ≡ 0 =
        ap (λ (b : Bool). cond b (suc (slot c rest)) 0) (le-ltb (get_or l i 0) c k) in
        omega (arith, ap (slot c) next)

    -- A number below c is passed.
    pub slot_further : get_or l i 0 < c → slot c (take n l) ≡ (i + 1) + slot c (drop (i + 1) (take n l))
    slot_further k =
        let rest = drop (suc i) (take n l) in
        let past : slot c (get_or l i 0 ∷ rest) ≡ suc (slot c rest) =
        ap (λ (b : Bool). cond b (suc (slot c rest)) 0) (lt-ltb (get_or l i 0) c k) in
        omega (arith, ap (slot c) next, ap (λ (j : ℕ). slot c (drop j (take n l))) (add-one i))
