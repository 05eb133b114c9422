-- A list whose first things pass a test, while the others do not.
use mathlib.Core.Path.{◌≡◌, refl, ap}
use mathlib.Core.Bool.{Bool, true, false, not}
use mathlib.Core.List.{List, [], ◌∷◌, ◌++◌}
use Rattle.basics.specs.Lists.{All, filter}

-- Those that pass are the first,
pub left_part : {A : Type 0} (p : A → Bool) (xs ys : List A) → All (λ (x : A). p x ≡ true) xs → All (λ (y : A). p y ≡ false) ys
    → filter p (xs ++ ys) ≡ xs
left_part p [] [] h k = refl
left_part p [] (y ∷ ys) h k = rw k.0 (left_part p [] ys tt k.1)
left_part {A} p (x ∷ xs) ys h k = rw h.0 (ap (λ (l : List A). x ∷ l) (left_part p xs ys h.1 k))

-- and those that do not are the others.
pub right_part : {A : Type 0} (p : A → Bool) (xs ys : List A) → All (λ (x : A). p x ≡ true) xs → All (λ (y : A). p y ≡ false) ys
    → filter (λ (x : A). not (p x)) (xs ++ ys) ≡ ys
right_part p [] [] h k = refl
right_part {A} p [] (y ∷ ys) h k = rw k.0 (ap (λ (l : List A). y ∷ l) (right_part p [] ys tt k.1))
right_part p (x ∷ xs) ys h k = rw h.0 (right_part p xs ys h.1 k)
