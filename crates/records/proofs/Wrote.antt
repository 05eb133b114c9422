-- Laws of bytes written one after another into a lent buffer.
use Prim.Native.Nat.{ℕ, ◌+◌, ◌≤◌}
use mathlib.Core.Path.{◌≡◌, ap, subst, ◌∙◌}
use mathlib.Core.List.{List, ◌++◌}
use native.Mathlib.Omega.{arith}
use lib.ListN.{length, length-append}
use Rattle.records.specs.Writing.{splice}
use Rattle.records.proofs.Writing.{splice_more, splice_length}

-- The buffer xs has become ys: the bytes stand from at on, and end is the position behind them.
abbrev pub Wrote : List ℕ → ℕ → List ℕ → ℕ → List ℕ → Type 0
Wrote xs at bytes end ys = (end ≡ at + length bytes) × (ys ≡ splice xs at bytes)

module _ (xs : List ℕ) (at : ℕ) where
  -- The bytes by another name.
  pub wrote_as : {ys a b : List ℕ} {end : ℕ} → a ≡ b → Wrote xs at a end ys → Wrote xs at b end ys
  wrote_as {ys} {a} {b} {end} e w = subst (λ (l : List ℕ). Wrote xs at l end ys) e w

  pub room_as : {a b : List ℕ} → a ≡ b → at + length a ≤ length xs → at + length b ≤ length xs
  room_as e = subst (λ (l : List ℕ). at + length l ≤ length xs) e

  -- Bytes behind bytes are written as both together are.
  pub wrote_behind
      : (a b : List ℕ) {end last : ℕ} {ys zs : List ℕ} → at + length a ≤ length xs → Wrote xs at a end ys
      → Wrote ys end b last zs → Wrote xs at (a ++ b) last zs
  wrote_behind a b {end} h w v = (
    omega (arith, length-append a b, w.0, v.0),
    v.1
        ∙ ap (λ (l : List ℕ). splice l end b) w.1
        ∙ ap (λ (k : ℕ). splice (splice xs at a) k b) w.0
        ∙ splice_more xs at a b h,
  )

  module _ (a b : List ℕ) (room : at + length (a ++ b) ≤ length xs) where
    -- Where there is room for both there is room for what comes first,
    pub first_fits : at + length a ≤ length xs
    first_fits = omega (arith, length-append a b)

    -- and then for the rest.
    pub rest_fits : {end : ℕ} {ys : List ℕ} → Wrote xs at a end ys → end + length b ≤ length ys
    rest_fits {end} {ys} w =
        let size : length ys ≡ length xs = ap length w.1 ∙ splice_length xs at a first_fits in
        omega (arith, length-append a b, w.0, size)

    pub wrote_more
        : {end last : ℕ} {ys zs : List ℕ} → Wrote xs at a end ys → Wrote ys end b last zs → Wrote xs at (a ++ b) last zs
    wrote_more = wrote_behind a b first_fits
