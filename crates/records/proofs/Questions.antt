-- Questions that were asked: what follows one is reached exactly where its answer is yes. And kinds that were told apart.
use Prim.Native.Nat.{ℕ}
use mathlib.Core.Path.{◌≡◌, refl}
use mathlib.Core.Bool.{Bool, true, false, cond}
use native.Mathlib.Omega.{arith}
use lib.Dec.{T}
use Rattle.records.specs.Reading.{Reading, took, refused, ask}

-- Where something was read, the question before it got a yes.
pub ask_took : {A : Type 0} (q : ℕ) (b : Bool) (r : Reading A) {a : ℕ} {x : A} → ask q b r ≡ took a x → T b × (r ≡ took a x)
ask_took q true r e = (tt, e)
ask_took q false r e = let z : ◌≡◌ {A = ℕ} 0 1 = cc in absurd (omega arith)

-- A question that gets a yes changes nothing.
pub ask_yes : {A : Type 0} (q : ℕ) (b : Bool) (r : Reading A) → T b → ask q b r ≡ r
ask_yes q true r h = refl
ask_yes q false r h = absurd h

-- What holds of a record where its kind is told, and of the others where it is not, holds of the one that the kind chooses.
pub kind_cases
    : {A : Type 0} (P : A → Type 0) (b : Bool) (this others : A) → (b ≡ true → P this) → (b ≡ false → P others)
    → P (cond b this others)
kind_cases P true this others h k = h refl
kind_cases P false this others h k = k refl

-- Two readings of a record agree where they agree in this kind and in the others.
pub kinds_agree
    : {A B C : Type 0} (f : A → C) (g : B → C) (b : Bool) {x y : A} {u v : B} → (b ≡ true → f x ≡ g u) → (b ≡ false → f y ≡ g v)
    → f (cond b x y) ≡ g (cond b u v)
kinds_agree f g true h k = h refl
kinds_agree f g false h k = k refl

-- What is refused by a question anyway is refused by it.
pub ask_refused : {A : Type 0} (q : ℕ) (b : Bool) → ask {A = A} q b (refused q) ≡ refused q
ask_refused q true = refl
ask_refused q false = refl
