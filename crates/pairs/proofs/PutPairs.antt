-- Where the search for the next pair begins, after one was put.
use Prim.Native.Nat.{ℕ, suc, ◌+◌, ◌≤◌, ◌<◌}
use mathlib.Core.Path.{◌≡◌, refl, sym, ap, ◌∙◌, subst}
use mathlib.Core.Bool.{Bool, true, false, cond}
use mathlib.Core.List.{List, ◌∷◌, ◌++◌}
use native.Mathlib.Omega.{arith}
use lib.Dec.{ltb}
use lib.ListN.{length, get_or, take, drop}
use lib.Seq.{length-take-le, get_or-take, take-take}
use borrow.Author.Tests.{ltb-true}
use Rattle.pairs.specs.declared.Put.{Put}
use Rattle.pairs.specs.views.Slot.{slot, Passed}
use Rattle.pairs.specs.views.PutAt.{PutAt}
use Rattle.pairs.proofs.Slots.{slot_within, next_there, next_here}

-- It begins behind those that the last one passed, where that is below the code.
pub start_passed
    : (codes : List ℕ) (put : Put) (code : ℕ) {from : ℕ} → PutAt codes put → from ≡ cond (ltb put.last code) put.next 0
    → (from ≤ put.count) × Passed from code (take put.count codes)
start_passed codes put code {from} k e = go (ltb put.last code) refl e
  where
    go
        : (b : Bool) → ltb put.last code ≡ b → from ≡ cond b put.next 0
        → (from ≤ put.count) × Passed from code (take put.count codes)
    go true h d =
        let same : put.next ≡ from = sym d in (
          omega (arith, k.inside),
          subst (λ (i : ℕ). Passed i code (take put.count codes)) same (k.passed code (ltb-true put.last code h)),
        )
    go false h d =
        let same : 0 ≡ from = sym d in
        (omega arith, subst (λ (i : ℕ). Passed i code (take put.count codes)) same (omega arith))

-- At first it begins with the first one.
pub none_passed : (codes : List ℕ) (n : ℕ) → n ≤ 65 → length codes ≡ 65 → PutAt codes (record { count = n; next = 0; last = 0 })
none_passed codes n few size =
    record { few = few; all_codes = size; inside = omega arith; passed = λ c h. omega arith }

module _ (codes : List ℕ) (n code : ℕ) (few : n ≤ 64) (size : length codes ≡ 65) (at : ℕ) (e : at ≡ slot code (take n codes)) where
  listed : length (take n codes) ≡ n
  listed = length-take-le n codes (omega arith)

  -- A pair that is there.
  pub put_there
      : at < n → get_or codes at 0 ≡ code → PutAt codes (record { count = n; next = at + 1; last = code })
  put_there h g =
      let stands = ap (λ (j : ℕ). get_or (take n codes) j 0) (sym e) ∙ get_or-take n codes at 0 h ∙ g in
      let next : suc (slot code (take n codes)) ≡ at + 1 = omega arith in
      record {
        few = omega arith;
        all_codes = size;
        inside = omega arith;
        passed = λ c above.
            subst (λ (i : ℕ). Passed i c (take n codes)) next
            (next_there code c (take n codes) above (omega (arith, listed)) stands);
      }

  -- A pair that was put where it belongs.
  pub put_here
      : (now : List ℕ) → length now ≡ 65 → take (n + 1) now ≡ take at codes ++ (code ∷ drop at (take n codes))
      → PutAt now (record { count = n + 1; next = at + 1; last = code })
  put_here now all g =
      let low : at ≤ n = omega (arith, slot_within code (take n codes), listed) in
      let next : suc (slot code (take n codes)) ≡ at + 1 = omega arith in
      let are =
      ap (λ (j : ℕ). take j (take n codes) ++ (code ∷ drop j (take n codes))) (sym e)
      ∙ ap (λ (t : List ℕ). t ++ (code ∷ drop at (take n codes))) (take-take at n codes low)
      ∙ sym g in
      record {
        few = omega arith;
        all_codes = all;
        inside = omega arith;
        passed = λ c above.
            subst (λ (t : List ℕ). Passed (at + 1) c t) are
            (subst
            (λ (i : ℕ).
            Passed i c
            (take (slot code (take n codes)) (take n codes) ++ (code ∷ drop (slot code (take n codes)) (take n codes))))
            next (next_here code c (take n codes) above));
      }
