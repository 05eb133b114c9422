-- Tables with the same counts and the same tests: what is read off these is the same.
use Prim.Native.Nat.{ℕ, ◌+◌, ◌-◌, ◌%◌, ◌≤◌, ◌<◌}
use mathlib.Core.Path.{◌≡◌, sym, ap, ◌∙◌}
use mathlib.Core.Bool.{◌&&◌}
use mathlib.Core.List.{List}
use native.Mathlib.Omega.{arith}
use lib.Dec.{leb}
use lib.ListN.{length, get_or, take, drop, length-drop}
use lib.Seq.{length-take-le, get_or-take, get_or-drop, ext_get_or}
use Rattle.masks.specs.Mask.{mask_of}
use Rattle.places.specs.Numbering.{at_or_below}
use Rattle.masks.proofs.Extensionality.{mask_of_same}
use Rattle.tables.specs.views.Planes.{tests_in, place_tests_in}
use Rattle.test_list.specs.views.Tests.{Counted, pairs_listed, is_settled, settled_below}

module _ (s₀ s : List ℕ) (size : length s ≡ length s₀) (same : (k : ℕ) → k < 68 → get_or s k 0 ≡ get_or s₀ k 0) (c : Counted s₀) where
  -- They say how many there are,
  pub same_counted : Counted s
  same_counted = record {
    entries = size ∙ c.entries;
    few = omega (arith, same 1 (omega arith), c.few);
    places = omega (arith, same 1 (omega arith), same 2 (omega arith), c.places);
  }

  -- the listed pairs are the same,
  pub same_pairs : pairs_listed s ≡ pairs_listed s₀
  same_pairs =
      let n = tests_in s₀ - place_tests_in s₀ in
      let m = 4 + place_tests_in s₀ in
      let many : tests_in s - place_tests_in s ≡ n = omega (arith, same 1 (omega arith), same 2 (omega arith)) in
      let from : 4 + place_tests_in s ≡ m = omega (arith, same 2 (omega arith)) in
      let room : n + m ≤ 68 = omega (arith, c.places, c.few) in
      let own : length (take n (drop m s)) ≡ n =
      length-take-le n (drop m s) (omega (arith, length-drop m s, c.entries)) in
      let other : length (take n (drop m s₀)) ≡ n =
      length-take-le n (drop m s₀) (omega (arith, length-drop m s₀, c.entries)) in
      (λ j. take (many j) (drop (from j) s))
      ∙ ext_get_or 0 (take n (drop m s)) (take n (drop m s₀)) (own ∙ sym other)
      (λ k h.
      get_or-take n (drop m s) k 0 (omega arith)
      ∙ get_or-drop m s k 0
      ∙ same (m + k) (omega arith)
      ∙ sym (get_or-take n (drop m s₀) k 0 (omega arith) ∙ get_or-drop m s₀ k 0))

  -- and so is what an unknown settles.
  pub same_settled : (t : ℕ) → t < 64 → settled_below s t ≡ settled_below s₀ t
  unfolding settled_below
  same_settled t h =
      ap (λ (n : ℕ). mask_of n (is_settled s t)) (same 2 (omega arith))
      ∙ mask_of_same (place_tests_in s₀) (is_settled s t) (is_settled s₀ t)
      (λ u l.
      let near : u < 64 = omega (arith, c.few, c.places) in
      λ j. leb t u && at_or_below (same (4 + t) (omega arith) j % 0x1_0000) (same (4 + u) (omega arith) j % 0x1_0000))
