-- Breadth first, step by step: meeting the edges of a thing one at a time, and what a queue that is too long means.
use Prim.Native.Nat.{ℕ, zero, suc, ◌≤◌, ◌<◌}
use mathlib.Core.Path.{◌≡◌, refl, sym, ap}
use mathlib.Core.Bool.{Bool, true, false, cond}
use mathlib.Core.List.{List, [], ◌∷◌, ◌++◌, append_assoc}
use mathlib.Core.Option.{Option, some, none}
use native.Mathlib.Omega.{arith}
use lib.Dec.{T}
use lib.ListN.{length, length-append}
use Rattle.decision.specs.Graph as graph
use Rattle.decision.proofs.exploring.BreadthFirst.{some_none}
use Rattle.decision.proofs.exploring.MetOnce.{explore_few}
use Rattle.basics.specs.Lists.{any_of}

module _ {A : Type 0} (same : A → A → Bool) (next : A → List A) where
  abbrev new_ones : List A → List A → List A
  new_ones met xs = graph.new_ones same met xs

  abbrev explore : ℕ → List A → List A → Option (List A)
  explore more met queue = graph.explore same next more met queue

  -- "A key met before leads to the node that already has it": what is met after one thing more is looked at.
  abbrev pub meet : List A → A → List A
  meet met x = cond (any_of (same x) met) met (met ++ x ∷ [])

  -- Things are met one at a time.
  pub meet_one : (met : List A) (x : A) (xs : List A) → met ++ new_ones met (x ∷ xs) ≡ meet met x ++ new_ones (meet met x) xs
  meet_one met x xs = go (any_of (same x) met)
    where
      go : (b : Bool)
          → met ++ (cond b (new_ones met xs) (x ∷ new_ones (met ++ x ∷ []) xs))
          ≡ cond b met (met ++ x ∷ []) ++ new_ones (cond b met (met ++ x ∷ [])) xs
      go true = refl
      go false = sym (append_assoc met (x ∷ []) (new_ones (met ++ x ∷ []) xs))

  -- Nothing that was met is lost.
  met_grows : (more : ℕ) (met queue all : List A) → explore more met queue ≡ some all → length met ≤ length all
  met_grows zero met [] all e = let d : met ≡ all = cc in omega (arith, ap length d)
  met_grows zero met (q ∷ queue) all e = some_none e
  met_grows (suc more) met [] all e = let d : met ≡ all = cc in omega (arith, ap length d)
  met_grows (suc more) met (q ∷ queue) all e =
      omega (arith, met_grows more (met ++ new_ones met (next q)) (queue ++ new_ones met (next q)) all e, length-append met (new_ones met (next q)))

  -- Where more are in the queue than may be looked at, there is no result.
  pub explore_none
      : (sound : (x y : A) → T (same x y) → x ≡ y) (reflexive : (x : A) → T (same x x))
      → (more : ℕ) (met queue : List A) → more < length queue → explore more met queue ≡ none
  explore_none sound reflexive more met queue h = go (explore more met queue) refl
    where
      go : (r : Option (List A)) → explore more met queue ≡ r → r ≡ none
      go none e = refl
      go (some all) e =
          absurd (omega (arith, explore_few same next sound reflexive more met queue all e, met_grows more met queue all e))
