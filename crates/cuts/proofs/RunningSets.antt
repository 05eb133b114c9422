-- A pass over ascending cuts that takes one set after another by `^`: the runs between the cuts at which live rules turn, each with
-- the set that is reached where it begins.
use Prim.Native.Nat.{ℕ, ◌^◌, ◌<◌}
use mathlib.Core.Path.{◌≡◌, refl, sym, ap, subst, ◌∙◌}
use mathlib.Core.Bool.{Bool, true, false, not, ◌&&◌, cond}
use mathlib.Core.List.{List, [], ◌∷◌, map}
use native.Mathlib.Omega.{arith}
use lib.Bits.{bit_and, bit_xor, and_comm, xor_lt, xor_zero_r}
use lib.Dec.{eqb, leb}
use borrow.Author.Tests.{le-leb, lt-leb}
use Rattle.basics.specs.Lists.{Mem, here, there, All, filter}
use Rattle.basics.proofs.Booleans.{by_test, cond_holds}
use Rattle.basics.proofs.ListLaws.{all_at}
use Rattle.basics.proofs.Sorted.{AscendingBy}
use Rattle.masks.specs.Mask.{has}
use Rattle.masks.proofs.Membership.{has_and}
use Rattle.masks.proofs.Operations.{and_fits}
use Rattle.terms.specs.RuleTests.{Range}
use Rattle.decision.specs.Runs.{between}
use Rattle.cuts.specs.views.Cuts.{Cut}
use Rattle.cuts.specs.views.Runs.{Run}
use Rattle.cuts.proofs.Parity.{apart, apart_false, has_xor, parity}
use Rattle.cuts.proofs.AscendingCuts.{CutBefore}

-- A range of codes as a run, with the set where it begins.
abbrev pub run_of : (ℕ → ℕ) → Range → Run
run_of sets r = record { low = r.low; high = r.high; set = sets r.low }

-- The runs between cuts that have a set.
abbrev pub set_runs : (ℕ → ℕ) → List ℕ → List Run
set_runs sets cuts = map (run_of sets) (filter (λ (r : Range). not (eqb (sets r.low) 0)) (between cuts))

module _ (live : ℕ) where
  -- The live rules that turn at a cut,
  abbrev pub turned : Cut → ℕ
  turned x = bit_and x.turns live

  -- the codes of the cuts where some do,
  abbrev pub turning : List Cut → List ℕ
  turning [] = []
  turning (x ∷ xs) = cond (eqb (turned x) 0) (turning xs) (x.code ∷ turning xs)

  -- and the set that is reached at a code.
  abbrev pub running_to : ℕ → List Cut → ℕ → ℕ
  running_to set [] z = set
  running_to set (x ∷ xs) z = running_to (cond (leb x.code z) (bit_xor set (turned x)) set) xs z

  -- A live rule is in it that has turned an odd number of times.
  pub running_has
      : (set : ℕ) (xs : List Cut) (z i : ℕ)
      → has (running_to set xs z) i ≡ apart (has set i) (parity (λ c. leb c z) i xs && has live i)
  running_has set [] z i = sym (apart_false (has set i))
  running_has set (x ∷ xs) z i =
      by_test (leb x.code z)
      (λ y.
      rw y
      (running_has (bit_xor set (turned x)) xs z i
      ∙ ap (λ (b : Bool). apart b (rest && has live i))
      (has_xor set (turned x) i ∙ ap (apart (has set i)) (has_and x.turns live i))
      ∙ both (has set i) (has x.turns i) (has live i) rest))
      (λ y. rw y (running_has set xs z i))
    where
      rest : Bool
      rest = parity (λ c. leb c z) i xs

      both : (a b c d : Bool) → apart (apart a (b && c)) (d && c) ≡ apart a (apart b d && c)
      both true true true true = refl
      both true true true false = refl
      both true true false true = refl
      both true true false false = refl
      both true false c d = refl
      both false true true true = refl
      both false true true false = refl
      both false true false true = refl
      both false true false false = refl
      both false false c d = refl

  pub running_fits
      : (w set : ℕ) (xs : List Cut) (z : ℕ) → live < 2 ^ w → set < 2 ^ w → running_to set xs z < 2 ^ w
  running_fits w set [] z l h = h
  running_fits w set (x ∷ xs) z l h =
      let small = subst (λ (m : ℕ). m < 2 ^ w) (and_comm live x.turns) (and_fits w live x.turns l) in
      running_fits w (cond (leb x.code z) (bit_xor set (turned x)) set) xs z l
      (cond_holds (λ (m : ℕ). m < 2 ^ w) (leb x.code z) (bit_xor set (turned x)) set (xor_lt w set (turned x) h small) h)

  -- No cut above a code changes what is reached there.
  running_past : (set : ℕ) (xs : List Cut) (z : ℕ) → All (λ (x : Cut). z < x.code) xs → running_to set xs z ≡ set
  running_past set [] z h = refl
  running_past set (x ∷ xs) z h = rw (lt-leb x.code z h.0) (running_past set xs z h.1)

  -- From each cut to the next the set changes by the rules that turn there.
  abbrev pub Follows : (ℕ → ℕ) → ℕ → List Cut → Type 0
  Follows sets set [] = Unit
  Follows sets set (x ∷ xs) = (sets x.code ≡ bit_xor set (turned x)) × Follows sets (sets x.code) xs

  pub running_follows
      : (sets : ℕ → ℕ) (set : ℕ) (xs : List Cut) → AscendingBy CutBefore xs
      → ((x : Cut) → Mem x xs → sets x.code ≡ running_to set xs x.code) → Follows sets set xs
  running_follows sets set [] a h = tt
  running_follows sets set (x ∷ xs) a h =
      let here_is : sets x.code ≡ bit_xor set (turned x) =
      h x here
      ∙ ap (λ (b : Bool). running_to (cond b (bit_xor set (turned x)) set) xs x.code) (le-leb x.code x.code (omega arith))
      ∙ running_past (bit_xor set (turned x)) xs x.code a.0 in (
        here_is,
        running_follows sets (sets x.code) xs a.1
            (λ y m.
            let l = all_at (CutBefore x) m a.0 in
            h y (there m)
            ∙ ap (λ (b : Bool). running_to (cond b (bit_xor set (turned x)) set) xs y.code)
            (le-leb x.code y.code (omega arith))
            ∙ ap (λ (s : ℕ). running_to s xs y.code) (sym here_is)),
      )

  -- A cut at which no live rule turns changes nothing.
  pub unchanged
      : (sets : ℕ → ℕ) (set : ℕ) (x : Cut) → turned x ≡ 0 → sets x.code ≡ bit_xor set (turned x) → sets x.code ≡ set
  unchanged sets set x e f = f ∙ ap (bit_xor set) e ∙ xor_zero_r set
