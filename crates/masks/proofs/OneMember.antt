-- Sets with one member (document 01, "Which shape goes where": "count_ones of the live mask, trailing zeros give the rule number"):
-- where `count_ones` is 1 the word is a power of 2, and the members of a power of 2 are its exponent alone. Assumes nothing.
use mathlib.Core.Path.{◌≡◌, sym, ap, subst, ◌∙◌}
use mathlib.Core.Bool.{true, false, not, ◌&&◌, false≢true}
use mathlib.Core.List.Memᴰ
use mathlib.Core.List.{List, [], ◌∷◌, Memᴰ}
use mathlib.Core.Logic.{⊎_elim}
use Prim.Native.Nat.{ℕ, ◌-◌, ◌^◌, ◌<◌}
use native.Mathlib.Omega.{arith}
use lib.Dec.{eqb}
use lib.Pow.{pow_pos, pow-lt}
use lib.Bits.{bit_and}
use lib.Count.{ones, count_trailing_zeros}
use borrow.Author.Tests.{eq-eqb, ne_eqb, eqb-true}
use Rattle.masks.specs.Mask.{has, members}
use Rattle.masks.proofs.Membership.{has_singleton}
use Rattle.masks.proofs.Extensionality.{ext, empty_ext}
use Rattle.masks.proofs.Operations.{and_fits}
use Rattle.masks.proofs.LowestMember.{trailing_lt, trailing_in, has_rest}
use Rattle.masks.proofs.Members.{members_next, members_none, members_one, in_members}
use Rattle.basics.proofs.Booleans.{by_test}

-- a set with one member, which `trailing_zeros` gives, is that power of 2
pub one_power : (w m : ℕ) → m < 2 ^ w → ones m ≡ 1 → m ≡ 2 ^ count_trailing_zeros w m
unfolding ones
one_power w m h e =
    ext w m (2 ^ i) h (pow-lt (trailing_lt w m h pos))
    (λ j l.
    by_test (has m j)
    (λ y. y ∙ sym (has_singleton i j ∙ eq-eqb i j (sym (alone j y))))
    (λ n.
    n ∙ sym (has_singleton i j ∙ ne_eqb i j (λ (s : i ≡ j). false≢true (sym n ∙ ap (has m) (sym s) ∙ trailing_in w m h pos)))))
  where
    i : ℕ
    i = count_trailing_zeros w m

    pos : 0 < m
    pos = let some : m ≡ 0 → ⊥ = λ z. omega (arith, ap ones z) in omega arith

    alone : (j : ℕ) → has m j ≡ true → j ≡ i
    alone j y =
        ⊎_elim (λ (s : j ≡ i). s) (λ d. absurd (Memᴰ.not-nil d))
        (Memᴰ.cases_cons (subst (Memᴰ j) (members_one w m h e) (in_members w m j h y)))

-- a power of 2 has one member, its exponent
pub members_singleton : (w i : ℕ) → i < w → members w (2 ^ i) ≡ i ∷ []
members_singleton w i h =
    members_next w (2 ^ i) fits (pow_pos i)
    ∙ ap (λ (l : List ℕ). count_trailing_zeros w (2 ^ i) ∷ l) (members_none w (bit_and (2 ^ i) (2 ^ i - 1)) none_left)
    ∙ ap (λ (k : ℕ). k ∷ []) lowest
  where
    fits : 2 ^ i < 2 ^ w
    fits = pow-lt h

    lowest : count_trailing_zeros w (2 ^ i) ≡ i
    lowest =
        sym (eqb-true i (count_trailing_zeros w (2 ^ i))
        (sym (has_singleton i (count_trailing_zeros w (2 ^ i))) ∙ trailing_in w (2 ^ i) fits (pow_pos i)))

    dropped : (j : ℕ) → has (2 ^ i) j && not (eqb (count_trailing_zeros w (2 ^ i)) j) ≡ false
    dropped j = rw (has_singleton i j, lowest) (by_test (eqb i j) (λ y. rw y) (λ n. rw n))

    none_left : bit_and (2 ^ i) (2 ^ i - 1) ≡ 0
    none_left =
        empty_ext w (bit_and (2 ^ i) (2 ^ i - 1)) (and_fits w (2 ^ i) (2 ^ i - 1) fits)
        (λ j l. has_rest w (2 ^ i) j fits (pow_pos i) ∙ dropped j)
