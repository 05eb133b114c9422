-- Which tests are asked before which stands behind all that the tables say of tests and rules, and changes nothing of it.
use Prim.Native.Nat.{ℕ, ◌+◌, ◌<◌}
use mathlib.Core.Path.{◌≡◌, sym, ◌∙◌}
use mathlib.Core.List.{List}
use native.Mathlib.Omega.{arith}
use lib.ListN.{length, get_or}
use Rattle.terms.specs.Pattern.{Patterns}
use Rattle.test_list.proofs.SameTests.{same_counted, same_pairs, same_settled}
use Rattle.rows.specs.views.TestsOf.{TestsOf}

-- The tables are the same but for the last plane.
pub record Same (s₀ s : List ℕ) : Type 0 where
  pub entries : length s ≡ length s₀
  pub below : (k : ℕ) → k < 260 → get_or s k 0 ≡ get_or s₀ k 0

pub same_then : {s t u : List ℕ} → Same s t → Same t u → Same s u
same_then a b = record { entries = b.entries ∙ a.entries; below = λ k h. b.below k h ∙ a.below k h }

pub listed_stays : {rules : List Patterns} {numbers s₀ s : List ℕ} → Same s₀ s → TestsOf rules numbers s₀ → TestsOf rules numbers s
listed_stays {s₀ = s₀} {s = s} same l =
    let low : (k : ℕ) → k < 68 → get_or s k 0 ≡ get_or s₀ k 0 = λ k h. same.below k (omega arith) in
    record {
      places = l.places;
      pairs = l.pairs;
      tests = l.tests;
      few = l.few;
      numbers_are = l.numbers_are;
      counted = same_counted s₀ s same.entries low l.counted;
      rules_are = low 0 (omega arith) ∙ l.rules_are;
      tests_are = low 1 (omega arith) ∙ l.tests_are;
      places_are = low 2 (omega arith) ∙ l.places_are;
      place_is = λ t h. low (4 + t) (omega (arith, l.few)) ∙ l.place_is t h;
      pairs_are = same_pairs s₀ s same.entries low l.counted ∙ l.pairs_are;
      under = λ t h.
          let near : t < 64 = omega (arith, l.few) in
          same.below (196 + t) (omega arith)
          ∙ l.under t h
          ∙ sym (same_settled s₀ s same.entries low l.counted t near);
    }
