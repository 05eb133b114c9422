-- Where the lower tests are asked before each test, tests are asked lowest first.
use Prim.Native.Nat.{ℕ, zero, suc, ◌+◌, ◌≤◌, ◌<◌}
use mathlib.Core.Path.{◌≡◌, refl, ap, ◌∙◌}
use mathlib.Core.Bool.{false}
use mathlib.Core.List.{List, map}
use mathlib.Core.Logic.{inl}
use native.Mathlib.Omega.{arith}
use lib.Dec.{ltb}
use lib.ListN.{length, length-map}
use borrow.Author.Tests.{lt-ltb, le-ltb}
use Rattle.basics.specs.Lists.{count_from}
use Rattle.basics.proofs.ListLaws.{all_from}
use Rattle.basics.proofs.Counting.{count_length, count_mem}
use Rattle.basics.proofs.Sorted.{AscendingBy}
use Rattle.masks.specs.Mask.{has}
use Rattle.masks.proofs.Extensionality.{has_mask_of}
use Rattle.tables.specs.views.Planes.{tests_in, before_in}
use Rattle.tables.specs.views.Turns.{Asks, Turns}
use Rattle.test_list.specs.views.Tests.{put_all}
use Rattle.test_list.proofs.PutLists.{put_length, put_other, put_at, row_at}
use Rattle.turns.specs.views.Turned.{lower_tests}
use Rattle.turns.proofs.SameListed.{Same}

-- The tests below test t are those of lower numbers.
pub lower_has : (t u : ℕ) → u < 64 → has (lower_tests t) u ≡ ltb u t
unfolding lower_tests
lower_has t u h = has_mask_of 64 (λ v. ltb v t) u h

-- Before the first so many tests the lower ones are asked.
abbrev pub Lower : List ℕ → ℕ → Type 0
Lower s n = (t : ℕ) → t < n → before_in s t ≡ lower_tests t

module _ (s : List ℕ) (n : ℕ) (few : n ≤ 64) (lower : Lower s n) where
  pub lower_apart : (t : ℕ) → t < n → has (before_in s t) t ≡ false
  lower_apart t h = ap (λ (m : ℕ). has m t) (lower t h) ∙ lower_has t t (omega arith) ∙ le-ltb t t (omega arith)

  pub lower_asks : (t u : ℕ) → t < u → u < n → Asks s t u
  lower_asks t u h k = (
    ap (λ (m : ℕ). has m t) (lower u k) ∙ lower_has u t (omega arith) ∙ lt-ltb t u h,
    ap (λ (m : ℕ). has m u) (lower t (omega arith)) ∙ lower_has t u (omega arith) ∙ le-ltb u t (omega arith),
  )

  ascends : (i k : ℕ) → i + k ≤ n → AscendingBy (Asks s) (count_from i k)
  ascends i zero h = tt
  ascends i (suc k) h = (
    all_from (Asks s i) (count_from (suc i) k)
        (λ u m. let r = count_mem (suc i) k u m in lower_asks i u (omega (arith, r)) (omega (arith, r))),
    ascends (suc i) k (omega arith),
  )

  pub lower_turns : Turns s (count_from 0 n)
  lower_turns = record {
    apart = all_from (λ (t : ℕ). has (before_in s t) t ≡ false) (count_from 0 n)
        (λ t m. lower_apart t (omega (arith, count_mem 0 n t m)));
    ascends = ascends 0 n (omega arith);
  }

-- So it is written down.
module _ (s : List ℕ) (long : length s ≡ 324) (few : tests_in s ≤ 64) where
  abbrev lowered : List ℕ
  lowered = map lower_tests (count_from 0 (tests_in s))

  many : length lowered ≡ tests_in s
  many = length-map (count_from 0 (tests_in s)) lower_tests ∙ count_length 0 (tests_in s)

  pub lowered_same : Same s (put_all 260 lowered s)
  lowered_same = record { entries = put_length lowered 260 s; below = λ k h. put_other lowered 260 s k (inl h) }

  pub lowered_lower : Lower (put_all 260 lowered s) (tests_in s)
  lowered_lower t h =
      let none : 0 + t ≡ t = omega arith in
      put_at lowered 260 s t (260 + t) (omega (arith, many)) (omega (arith, many)) refl
      ∙ row_at lower_tests 0 0 (tests_in s) t h
      ∙ ap lower_tests none
