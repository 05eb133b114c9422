-- Breadth first over things and over their names is the same, where names tell the things that occur apart.
use Prim.Native.Nat.{ℕ, zero, suc}
use mathlib.Core.Path.{◌≡◌, refl, sym, ap, ◌∙◌}
use mathlib.Core.Bool.{Bool, true, false, ◌||◌, cond}
use mathlib.Core.List.{List, [], ◌∷◌, ◌++◌, map}
use mathlib.Core.Option.{Option, some, none}
use Rattle.basics.specs.Lists.{All, any_of}
use Rattle.basics.proofs.ListLaws.{all_join}
use Rattle.decision.specs.Graph.{new_ones, explore, number_in}
use Rattle.basics.proofs.Filters.{map_join}

-- The result with names for things.
abbrev pub named : {A B : Type 0} → (A → B) → Option (List A) → Option (List B)
named f none = none
named f (some xs) = some (map f xs)

module _ {A B : Type 0} (same : A → A → Bool) (next : A → List A) (same' : B → B → Bool) (next' : B → List B) (name : A → B)
    (Occurs : A → Type 0) (told : (x y : A) → Occurs x → Occurs y → same' (name x) (name y) ≡ same x y)
    (leads : (x : A) → Occurs x → next' (name x) ≡ map name (next x)) (stays : (x : A) → Occurs x → All Occurs (next x)) where
  any_named : (x : A) → Occurs x → (xs : List A) → All Occurs xs → any_of (same' (name x)) (map name xs) ≡ any_of (same x) xs
  any_named x o [] os = refl
  any_named x o (y ∷ ys) os = λ i. told x y o os.0 i || any_named x o ys os.1 i

  new_named : (met xs : List A) → All Occurs met → All Occurs xs
      → new_ones same' (map name met) (map name xs) ≡ map name (new_ones same met xs)
  new_named met [] om ox = refl
  new_named met (x ∷ xs) om ox =
      ap (λ (b : Bool). pick b) (any_named x ox.0 met om)
      ∙ go (any_of (same x) met) (new_named met xs om ox.1)
      (ap (λ (l : List B). new_ones same' l (map name xs)) (sym (map_join name met (x ∷ [])))
      ∙ new_named (met ++ x ∷ []) xs (all_join Occurs met (x ∷ []) om (ox.0, tt)) ox.1)
    where
      pick : Bool → List B
      pick b =
          cond b (new_ones same' (map name met) (map name xs)) (name x ∷ new_ones same' (map name met ++ name x ∷ []) (map name xs))

      go : (b : Bool) → new_ones same' (map name met) (map name xs) ≡ map name (new_ones same met xs)
          → new_ones same' (map name met ++ name x ∷ []) (map name xs) ≡ map name (new_ones same (met ++ x ∷ []) xs)
          → pick b ≡ map name (cond b (new_ones same met xs) (x ∷ new_ones same (met ++ x ∷ []) xs))
      go true f g = f
      go false f g = ap (λ (l : List B). name x ∷ l) g

  -- What is new occurs.
  new_occurs : (met xs : List A) → All Occurs xs → All Occurs (new_ones same met xs)
  new_occurs met [] ox = tt
  new_occurs met (x ∷ xs) ox = go (any_of (same x) met) (new_occurs met xs ox.1) (new_occurs (met ++ x ∷ []) xs ox.1)
    where
      go : (b : Bool) → All Occurs (new_ones same met xs) → All Occurs (new_ones same (met ++ x ∷ []) xs)
          → All Occurs (cond b (new_ones same met xs) (x ∷ new_ones same (met ++ x ∷ []) xs))
      go true f g = f
      go false f g = (ox.0, g)

  -- The names met are the names of the things met.
  pub explore_named : (more : ℕ) (met queue : List A) → All Occurs met → All Occurs queue
      → explore same' next' more (map name met) (map name queue) ≡ named name (explore same next more met queue)
  explore_named zero met [] om oq = refl
  explore_named zero met (x ∷ queue) om oq = refl
  explore_named (suc more) met [] om oq = refl
  explore_named (suc more) met (x ∷ queue) om oq =
      let new : List A = new_ones same met (next x) in
      let occurs : All Occurs new = new_occurs met (next x) (stays x oq.0) in
      let e : new_ones same' (map name met) (next' (name x)) ≡ map name new =
      ap (λ (l : List B). new_ones same' (map name met) l) (leads x oq.0) ∙ new_named met (next x) om (stays x oq.0) in
      ap (λ (l : List B). explore same' next' more (map name met ++ l) (map name queue ++ l)) e
      ∙ (λ i. explore same' next' more (sym (map_join name met new) i) (sym (map_join name queue new) i))
      ∙ explore_named more (met ++ new) (queue ++ new) (all_join Occurs met new om occurs) (all_join Occurs queue new oq.1 occurs)

  -- A thing has the number of its name.
  pub number_named : (xs : List A) (x : A) → All Occurs xs → Occurs x
      → number_in same' (map name xs) (name x) ≡ number_in same xs x
  number_named [] x os o = refl
  number_named (y ∷ ys) x os o =
      let rest = number_named ys x os.1 o in
      λ i. cond (told x y o os.0 i) 0 (suc (rest i))
