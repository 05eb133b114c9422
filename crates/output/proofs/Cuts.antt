-- Inputs that are cut, and what stands at a buffer's start.
use Prim.Native.Nat.{ℕ, ◌+◌, ◌≤◌, min}
use mathlib.Core.Path.{◌≡◌, refl, sym, ap, ◌∙◌}
use mathlib.Core.Bool.{Bool, true, false}
use mathlib.Core.List.{List}
use native.Mathlib.Omega.{arith}
use native.Mathlib.Nat.{min-le_left, min-le_right, min-eq_left, min-eq_right}
use lib.Dec.{leb}
use lib.ListN.{length, take, drop, length-append}
use lib.Seq.{length-take-le, take-length, take_all}
use borrow.Author.Tests.{leb-true, leb-false}
use Rattle.io.specs.Counts.{IsPrefixLen}
use Rattle.records.specs.Writing.{splice}

-- An input that is cut: as many bytes as there are, at most so many.
pub cut_length : (s : List ℕ) (most : ℕ) {k : ℕ} → k ≡ min (length s) most → k ≡ length (take k s)
cut_length s most {k} e = sym (length-take-le k s (omega (arith, e, min-le_left (length s) most)))

pub cut_take : (s : List ℕ) (most : ℕ) {k : ℕ} → k ≡ min (length s) most → take k s ≡ take most s
cut_take s most {k} e = by (leb (length s) most) refl
  where
    by : (t : Bool) → leb (length s) most ≡ t → take k s ≡ take most s
    by true h =
        let all : length s ≤ most = leb-true (length s) most h in
        ap (λ (j : ℕ). take j s) (e ∙ min-eq_left all) ∙ take-length s ∙ sym (take_all most s all)
    by false h = ap (λ (j : ℕ). take j s) (e ∙ min-eq_right (omega (arith, leb-false (length s) most h)))

pub cut_most : (s : List ℕ) (most : ℕ) {k : ℕ} → k ≡ min (length s) most → length (take k s) ≤ most
cut_most s most e = omega (arith, e, cut_length s most e, min-le_right (length s) most)

-- What was written at a buffer's start is in the buffer.
pub counted
    : (xs line : List ℕ) {end : ℕ} {ys : List ℕ} → (end ≡ length line) × (ys ≡ splice xs 0 line) → IsPrefixLen end ys
counted xs line {end} {ys} w =
    let inside : end ≤ length ys =
    omega (arith, w.0, ap length w.1, length-append line (drop (0 + length line) xs)) in
    (inside, sym (length-take-le end ys inside))
