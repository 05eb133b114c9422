-- The loop that meets all keys: what is still to do from the keys met gives all of them.
use Prim.Native.Nat.{ℕ, zero, suc, ◌+◌, ◌-◌, ◌≤◌, ◌<◌}
use mathlib.Core.Path.{◌≡◌, refl, sym, ap, ◌∙◌}
use mathlib.Core.Bool.{Bool}
use mathlib.Core.List.{List, [], ◌∷◌, ◌++◌}
use mathlib.Core.Option.{Option, some, none}
use native.Mathlib.Omega.{arith}
use lib.Dec.{T}
use lib.ListN.{length, get_or, drop, length-drop, drop_of_length-le}
use Rattle.decision.specs.Graph.{new_ones, explore}
use Rattle.decision.proofs.exploring.ExploreSteps.{explore_none}

-- What is behind a position begins with what stands there.
drop_next : {A : Type 0} (d : A) (xs : List A) (k : ℕ) → k < length xs → drop k xs ≡ get_or xs k d ∷ drop (k + 1) xs
drop_next d [] k h = absurd (let z : ⊥ = omega arith in z)
drop_next d (x ∷ xs) zero h = refl
drop_next {A} d (x ∷ xs) (suc k) h =
    let e : suc k + 1 ≡ suc (k + 1) = omega arith in
    drop_next d xs k (omega arith) ∙ ap (λ (n : ℕ). get_or xs k d ∷ drop n (x ∷ xs)) (sym e)

-- What is added comes behind what is dropped.
drop_join : {A : Type 0} (k : ℕ) (xs ys : List A) → k ≤ length xs → drop k (xs ++ ys) ≡ drop k xs ++ ys
drop_join zero xs ys h = refl
drop_join (suc k) [] ys h = absurd (let z : ⊥ = omega arith in z)
drop_join (suc k) (x ∷ xs) ys h = drop_join k xs ys (omega arith)

module _ {A : Type 0} (same : A → A → Bool) (next : A → List A) (most : ℕ) where
  -- What is met in the end, where the first k of the things met have their edges met.
  abbrev pub left_from : ℕ → List A → Option (List A)
  left_from k met = explore same next (most - k) met (drop k met)

  -- Where the edges of the next thing are met one thing less is left to look at,
  pub left_turn
      : (d : A) (k : ℕ) (met : List A) → k < length met → k < most
      → left_from k met ≡ left_from (k + 1) (met ++ new_ones same met (next (get_or met k d)))
  left_turn d k met h room =
      let x : A = get_or met k d in
      let new : List A = new_ones same met (next x) in
      let e : most - k ≡ suc (most - (k + 1)) = omega arith in
      (λ i. explore same next (e i) met (drop_next d met k h i))
      ∙ ap (λ (queue : List A). explore same next (most - (k + 1)) (met ++ new) queue)
      (sym (drop_join (k + 1) met new (omega arith)))

  -- where all have theirs met, those are all,
  pub left_done : (k : ℕ) (met : List A) → length met ≤ k → left_from k met ≡ some met
  left_done k met h =
      ap (λ (queue : List A). explore same next (most - k) met queue) (drop_of_length-le met h) ∙ go (most - k)
    where
      go : (n : ℕ) → explore same next n met [] ≡ some met
      go zero = refl
      go (suc n) = refl

  -- and where more are met than may be, there is no graph.
  pub left_many
      : (sound : (x y : A) → T (same x y) → x ≡ y) (reflexive : (x : A) → T (same x x))
      → (k : ℕ) (met : List A) → k ≤ most → most < length met → left_from k met ≡ none
  left_many sound reflexive k met h many =
      explore_none same next sound reflexive (most - k) met (drop k met) (omega (arith, length-drop k met))
