-- One step towards the pending test that is asked first, and the last.
use Prim.Native.Nat.{ℕ, zero, suc, ◌-◌, ◌≤◌, ◌<◌}
use mathlib.Core.Path.{◌≡◌, refl, sym, ap, ◌∙◌}
use mathlib.Core.Bool.{Bool, cond}
use mathlib.Core.List.{List}
use native.Mathlib.Omega.{arith}
use native.Mathlib.Nat.{lt_of_le_of_lt}
use lib.Bits.{bit_and, and_le_l}
use lib.Count.{count_trailing_zeros}
use borrow.Author.Tests.{eq-eqb, ne_eqb}
use Rattle.masks.proofs.LowestMember.{rest_lt}
use Rattle.tables.specs.views.Planes.{before_in, first_from}

module _ (s : List ℕ) where
  -- The set that the next step has left.
  abbrev pub next_earlier : ℕ → ℕ
  next_earlier earlier = bit_and (bit_and earlier (earlier - 1)) (before_in s (count_trailing_zeros 64 earlier))

  -- Where nothing is asked before test t it is the first.
  pub from_end : (steps t earlier : ℕ) → earlier ≡ 0 → first_from s steps t earlier ≡ t
  unfolding first_from
  from_end zero t earlier e = refl
  from_end (suc steps) t earlier e =
      ap (λ (b : Bool). cond b t (first_from s steps (count_trailing_zeros 64 earlier) (next_earlier earlier))) (eq-eqb earlier 0 e)

  -- Else it is the first from the lowest of those on.
  pub from_next
      : (steps t earlier : ℕ) → 0 < earlier
      → first_from s (suc steps) t earlier ≡ first_from s steps (count_trailing_zeros 64 earlier) (next_earlier earlier)
  unfolding first_from
  from_next steps t earlier some =
      ap (λ (b : Bool). cond b t (first_from s steps (count_trailing_zeros 64 earlier) (next_earlier earlier)))
      (ne_eqb earlier 0 (λ e. let z : ⊥ = omega arith in z))

  -- Each step leaves fewer.
  pub fewer : (earlier next : ℕ) → 0 < earlier → bit_and (bit_and earlier (earlier - 1)) next < earlier
  fewer earlier next some = lt_of_le_of_lt (and_le_l (bit_and earlier (earlier - 1)) next) (rest_lt earlier some)

  -- With enough steps for what is left, enough are left after one.
  pub from_step
      : (steps t earlier next : ℕ) → 0 < earlier → earlier ≤ steps → next ≡ before_in s (count_trailing_zeros 64 earlier)
      → (more : ℕ) × (bit_and (bit_and earlier (earlier - 1)) next ≤ more)
      × (first_from s more (count_trailing_zeros 64 earlier) (bit_and (bit_and earlier (earlier - 1)) next) ≡ first_from s steps t earlier)
  from_step zero t earlier next some few is = absurd (let z : ⊥ = omega arith in z)
  from_step (suc steps) t earlier next some few is = (
    steps,
    omega (arith, fewer earlier next some),
    ap (λ (x : ℕ). first_from s steps (count_trailing_zeros 64 earlier) (bit_and (bit_and earlier (earlier - 1)) x)) is
        ∙ sym (from_next steps t earlier some),
  )
