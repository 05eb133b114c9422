-- A loop over a list of places: those passed have asked their tests.
use Prim.Native.Nat.{ℕ, ◌+◌, ◌≤◌, ◌<◌}
use mathlib.Core.Path.{◌≡◌, refl, sym, ap, ◌∙◌}
use mathlib.Core.Bool.{Bool, true, false, cond}
use mathlib.Core.List.{List, ◌∷◌}
use native.Mathlib.Numerals.{add-one}
use lib.ListN.{length, get_or, drop, set, length-set, drop_of_length-le}
use lib.Seq.{drop-cons}
use Rattle.turns.specs.views.Turned.{with_asked, is_test_of, turned_by}

-- Where the loop stands: so many places are passed, and these tests are asked.
pub record Turning (numbers places s₀ s : List ℕ) (asked i : ℕ) : Type 0 where
  pub entries : length s ≡ length s₀
  pub whole : turned_by numbers (drop i places) asked s ≡ turned_by numbers places 0 s₀

module _ (numbers places s₀ : List ℕ) where
  pub turning_start : Turning numbers places s₀ s₀ 0 0
  turning_start = record { entries = refl; whole = refl }

  module _ (s : List ℕ) (asked i p t : ℕ) (h : Turning numbers places s₀ s asked i) (inside : i < length places)
      (here : p ≡ get_or places i 0) (number : t ≡ get_or numbers p 0) where
    -- The next place by its test's number.
    step
        : turned_by numbers (drop i places) asked s
        ≡ cond (is_test_of s t p) (turned_by numbers (drop (i + 1) places) (with_asked asked t) (set s (260 + t) asked))
        (turned_by numbers (drop (i + 1) places) asked s)
    unfolding turned_by
    step =
        let next : ℕ → ℕ → List ℕ = λ x u.
        cond (is_test_of s u x) (turned_by numbers (drop (i + 1) places) (with_asked asked u) (set s (260 + u) asked))
        (turned_by numbers (drop (i + 1) places) asked s) in
        ap (λ (l : List ℕ). turned_by numbers l asked s)
        (drop-cons places i 0 inside ∙ (λ j. get_or places i 0 ∷ drop (sym (add-one i) j) places))
        ∙ ap (λ (x : ℕ). next x (get_or numbers x 0)) (sym here)
        ∙ ap (next p) (sym number)

    -- It asks its test,
    pub turning_asks
        : is_test_of s t p ≡ true → {u : List ℕ} {more : ℕ} → u ≡ set s (260 + t) asked → more ≡ with_asked asked t
        → Turning numbers places s₀ u more (i + 1)
    turning_asks tested e is = record {
      entries = ap length e ∙ length-set s (260 + t) asked ∙ h.entries;
      whole = (λ j. turned_by numbers (drop (i + 1) places) (is j) (e j))
          ∙ sym (step ∙ ap (λ (b : Bool). cond b (turned_by numbers (drop (i + 1) places) (with_asked asked t) (set s (260 + t) asked))
          (turned_by numbers (drop (i + 1) places) asked s)) tested)
          ∙ h.whole;
    }

    -- or it is not tested.
    pub turning_stays
        : is_test_of s t p ≡ false → {u : List ℕ} {more : ℕ} → u ≡ s → more ≡ asked → Turning numbers places s₀ u more (i + 1)
    turning_stays other e is = record {
      entries = ap length e ∙ h.entries;
      whole = (λ j. turned_by numbers (drop (i + 1) places) (is j) (e j))
          ∙ sym (step ∙ ap (λ (b : Bool). cond b (turned_by numbers (drop (i + 1) places) (with_asked asked t) (set s (260 + t) asked))
          (turned_by numbers (drop (i + 1) places) asked s)) other)
          ∙ h.whole;
    }

  pub turning_done
      : (s : List ℕ) (asked i : ℕ) → Turning numbers places s₀ s asked i → length places ≤ i → s ≡ turned_by numbers places 0 s₀
  unfolding turned_by
  turning_done s asked i h end =
      sym (ap (λ (l : List ℕ). turned_by numbers l asked s) (drop_of_length-le places {i = i} end)) ∙ h.whole
