-- What stands at a place in a list of things whose places ascend, and in parts of the list.
use Prim.Native.Nat.{ℕ, zero, suc, ◌+◌, ◌≤◌, ◌<◌}
use mathlib.Core.Path.{◌≡◌, refl, sym, ap, subst, ◌∙◌}
use mathlib.Core.Bool.{Bool, true, false, cond}
use mathlib.Core.Logic.{inl, inr}
use mathlib.Core.List.{List, [], ◌∷◌, ◌++◌, map}
use mathlib.Core.Option.{Option, none}
use native.Mathlib.Decide.{dec_lt}
use native.Mathlib.Omega.{arith}
use lib.Dec.{T, eqb, eqb→eq}
use Rattle.basics.specs.Lists.{Mem, here, there, filter, count_from}
use Rattle.basics.proofs.Booleans.{cond_true, cond_false}
use Rattle.basics.proofs.Numbers.{eq_true}
use Rattle.basics.proofs.ListLaws.{all_at, mem_cases, mem_none}
use Rattle.terms.specs.RuleTests.{at}
use Rattle.terms.proofs.Ascending.{Ascends, ascends_le, ascends_below}
use Rattle.tidy.specs.TidyRule.{position_of}
use Rattle.tidy.proofs.Occurrences.{stands_from, later}

module _ {A : Type 0} (place : A → ℕ) where
  module _ {B : Type 0} (value : A → Option B) where
    -- What the first thing at place m has.
    abbrev pub look_in : List A → ℕ → Option B
    look_in [] m = none
    look_in (x ∷ xs) m = cond (eqb (place x) m) (value x) (look_in xs m)

    pub look_here : (x : A) (xs : List A) (m : ℕ) → place x ≡ m → look_in (x ∷ xs) m ≡ value x
    look_here x xs m e = cond_true (eqb (place x) m) (value x) (look_in xs m) (eq_true (place x) m e)

    pub look_past : (x : A) (xs : List A) (m : ℕ) → (place x ≡ m → ⊥) → look_in (x ∷ xs) m ≡ look_in xs m
    look_past x xs m d = cond_false (eqb (place x) m) (value x) (look_in xs m) (λ t. d (eqb→eq (place x) m t))

    -- Nothing is found where nothing stands.
    pub look_none : (xs : List A) (m : ℕ) → ((x : A) → Mem x xs → place x ≡ m → ⊥) → look_in xs m ≡ none
    look_none [] m h = refl
    look_none (x ∷ xs) m h = look_past x xs m (h x here) ∙ look_none xs m (λ y k. h y (there k))

    -- In two lists joined, what stands in no place of the one is found in the other.
    look_left : (xs ys : List A) (m : ℕ) → ((y : A) → Mem y ys → place y ≡ m → ⊥) → look_in (xs ++ ys) m ≡ look_in xs m
    look_left [] ys m h = look_none ys m h
    look_left (x ∷ xs) ys m h = ap (cond (eqb (place x) m) (value x)) (look_left xs ys m h)

    look_right : (xs ys : List A) (m : ℕ) → ((x : A) → Mem x xs → place x ≡ m → ⊥) → look_in (xs ++ ys) m ≡ look_in ys m
    look_right [] ys m h = refl
    look_right (x ∷ xs) ys m h = look_past x (xs ++ ys) m (h x here) ∙ look_right xs ys m (λ y k. h y (there k))

    -- Where places ascend, each thing is found at its place.
    pub look_mem : (b e : ℕ) (xs : List A) → Ascends place b e xs → (x : A) → Mem x xs → look_in xs (place x) ≡ value x
    look_mem b e [] up x m = absurd (mem_none m)
    look_mem b e (y ∷ ys) up x m =
        elim (mem_cases m) [
          | inl d ↦ look_here y ys (place x) (sym (ap place d)) ∙ ap value (sym d)
          | inr k ↦
              let after = stands_from place (suc (place y)) e ys up.1 k in
              look_past y ys (place x) (λ s. omega (arith, after)) ∙ look_mem (suc (place y)) e ys up.1 x k
        ]

    -- A function has from b on and below e what is found in the list.
    abbrev pub Has : (ℕ → Option B) → List A → ℕ → ℕ → Type 0
    Has f xs b e = (m : ℕ) → b ≤ m → m < e → f m ≡ look_in xs m

    -- So it has what is found in the first of two lists that ascend one after another,
    pub Has-left
        : (f : ℕ → Option B) (xs ys : List A) (b c d e : ℕ) → Ascends place c d ys → c ≤ e → Has f (xs ++ ys) b e
        → Has f xs b c
    Has-left f xs ys b c d e up wide h m l k =
        h m l (omega arith)
        ∙ look_left xs ys m (λ y j s. omega (arith, stands_from place c d ys up j))

    -- and in the second.
    pub Has-right
        : (f : ℕ → Option B) (xs ys : List A) (b c e : ℕ) → Ascends place b c xs → Has f (xs ++ ys) b e → Has f ys c e
    Has-right f xs ys b c e up h m l k =
        let low = ascends_le place b c xs up in
        h m (omega arith) k
        ∙ look_right xs ys m (λ x j s. omega (arith, all_at (λ (z : A). place z < c) j (ascends_below place b c xs up)))

  -- Two lists whose places ascend and in which the same things stand are the same.
  pub same_places
      : (b e c d : ℕ) (xs ys : List A) → Ascends place b e xs → Ascends place c d ys
      → ((z : A) → Mem z xs → Mem z ys) → ((z : A) → Mem z ys → Mem z xs) → xs ≡ ys
  same_places b e c d [] [] up also f g = refl
  same_places b e c d [] (y ∷ ys) up also f g = absurd (mem_none (g y here))
  same_places b e c d (x ∷ xs) [] up also f g = absurd (mem_none (f x here))
  same_places b e c d (x ∷ xs) (y ∷ ys) up also f g =
      let first : x ≡ y = elim (mem_cases (f x here)) [
        | inl s ↦ s
        | inr k ↦ elim (mem_cases (g y here)) [
          | inl s ↦ sym s
          | inr j ↦ absurd (omega (arith, after_x y j, after_y x k))
        ]
      ] in
      let at : place x ≡ place y = ap place first in
      let rest : xs ≡ ys =
      same_places (suc (place x)) e (suc (place y)) d xs ys up.1 also.1
      (λ z k. elim (mem_cases (f z (there k))) [ inl s ↦ absurd (omega (arith, after_x z k, ap place s)) | inr j ↦ j ])
      (λ z k. elim (mem_cases (g z (there k))) [ inl s ↦ absurd (omega (arith, after_y z k, ap place s)) | inr j ↦ j ]) in
      λ i. first i ∷ rest i
    where
      after_x : (z : A) → Mem z xs → suc (place x) ≤ place z
      after_x z k = stands_from place (suc (place x)) e xs up.1 k

      after_y : (z : A) → Mem z ys → suc (place y) ≤ place z
      after_y z k = stands_from place (suc (place y)) d ys also.1 k

  -- The places at which things stand that pass a test are, of all places from b on, those that pass the same test.
  pub places_filtered
      : (f : A → Bool) (g : ℕ → Bool) (n b : ℕ) (xs : List A) → Ascends place b (b + n) xs
      → ((x : A) → Mem x xs → f x ≡ g (place x)) → ((m : ℕ) → b ≤ m → T (g m) → (x : A) × Mem x xs × (place x ≡ m))
      → map place (filter f xs) ≡ filter g (count_from b n)
  places_filtered f g zero b [] up same only = refl
  places_filtered f g zero b (x ∷ xs) up same only =
      absurd (omega (arith, up.0, ascends_le place (suc (place x)) (b + 0) xs up.1))
  places_filtered f g (suc n) b [] up same only =
      places_filtered f g n (suc b) [] (omega arith) (λ x m. absurd (mem_none m)) (λ m l t. only m (omega arith) t)
      ∙ sym (cond_false (g b) (b ∷ filter g (count_from (suc b) n)) (filter g (count_from (suc b) n))
      (λ t. mem_none (only b (omega arith) t).1))
  places_filtered f g (suc n) b (x ∷ xs) up same only =
      elim (dec_lt b (place x)) [
        | yes later ↦
            let end : b + suc n ≡ suc b + n = omega arith in
            let rest = subst (λ (z : ℕ). Ascends place (suc (place x)) z xs) end up.1 in
            places_filtered f g n (suc b) (x ∷ xs) (omega arith, rest) same (λ m l t. only m (omega arith) t)
            ∙ sym (cond_false (g b) (b ∷ filter g (count_from (suc b) n)) (filter g (count_from (suc b) n)) (missing later))
        | no not-later ↦
            let at : place x ≡ b = omega (arith, up.0) in
            let end : b + suc n ≡ suc b + n = omega arith in
            let rest : Ascends place (suc b) (suc b + n) xs =
            subst (λ (z : ℕ). Ascends place (suc z) (suc b + n) xs) at
            (subst (λ (z : ℕ). Ascends place (suc (place x)) z xs) end up.1) in
            first at (same x here)
            (places_filtered f g n (suc b) xs rest (λ y m. same y (there m)) (others at))
      ]
    where
      after : (z : A) → Mem z xs → suc (place x) ≤ place z
      after z k = stands_from place (suc (place x)) (b + suc n) xs up.1 k

      missing : b < place x → T (g b) → ⊥
      missing later t =
          let (y, m, s) = only b (omega arith) t in
          elim (mem_cases m) [ inl e ↦ omega (arith, ap place e) | inr k ↦ omega (arith, after y k) ]

      others : place x ≡ b → (m : ℕ) → suc b ≤ m → T (g m) → (y : A) × Mem y xs × (place y ≡ m)
      others at m l t =
          let (y, k, s) = only m (omega arith) t in
          elim (mem_cases k) [ inl e ↦ absurd (omega (arith, ap place e)) | inr j ↦ (y, j, s) ]

      map_cond
          : (c : Bool) → map place (cond c (x ∷ filter f xs) (filter f xs))
          ≡ cond c (place x ∷ map place (filter f xs)) (map place (filter f xs))
      map_cond true = refl
      map_cond false = refl

      first
          : place x ≡ b → f x ≡ g (place x) → map place (filter f xs) ≡ filter g (count_from (suc b) n)
          → map place (cond (f x) (x ∷ filter f xs) (filter f xs))
          ≡ cond (g b) (b ∷ filter g (count_from (suc b) n)) (filter g (count_from (suc b) n))
      first at test rest =
          map_cond (f x)
          ∙ (λ i. cond ((test ∙ ap g at) i) (at i ∷ rest i) (rest i))

-- The position of the first thing that passes a test is that of the first place that passes the same test.
pub position_at_lem
    : {A : Type 0} (place : A → ℕ) (f : A → Bool) (g : ℕ → Bool) (xs : List A)
    → ((x : A) → Mem x xs → f x ≡ g (place x)) → position_of f xs ≡ position_of g (map place xs)
position_at_lem place f g [] same = refl
position_at_lem place f g (x ∷ xs) same =
    λ i. cond (same x here i) 0 (suc (position_at_lem place f g xs (λ y m. same y (there m)) i))
