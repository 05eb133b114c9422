-- Pairs kept in an array, and all the pairs of a list kept one after another.
use Prim.Native.Nat.{ℕ, ◌+◌, ◌≤◌, ◌<◌}
use mathlib.Core.Path.{◌≡◌, refl, sym, ap, ◌∙◌}
use mathlib.Core.Bool.{Bool}
use mathlib.Core.List.{List, [], ◌∷◌, ◌++◌}
use native.Mathlib.Omega.{arith}
use lib.Dec.{ltb, leb}
use lib.ListN.{length, get_or, take, drop}
use lib.Seq.{length-take-le, get_or-take, take-take}
use borrow.Author.Tests.{le-leb, lt-leb}
use Rattle.basics.specs.Order.{insert_by}
use Rattle.pairs.specs.views.Slot.{slot}
use Rattle.pairs.specs.views.KeptPairs.{KeptPairs, these, many, kept_if, kept_of, keep, keep_all, pairs_in}
use Rattle.pairs.proofs.Slots.{insert_there, insert_here, slot_within}

-- An array with too many holds too many.
pub pairs_many : (codes : List ℕ) (n : ℕ) → 64 < n → pairs_in codes n ≡ many
unfolding pairs_in
pairs_many codes n h = ap (λ (b : Bool). kept_if b (take n codes)) (lt-leb n 64 h)

-- An array with at most 64 holds these.
pub pairs_these : (codes : List ℕ) (n : ℕ) → n ≤ 64 → pairs_in codes n ≡ these (take n codes)
unfolding pairs_in
pairs_these codes n h = ap (λ (b : Bool). kept_if b (take n codes)) (le-leb n 64 h)

-- One pair more leaves too many as they are.
pub keep_many : (codes : List ℕ) (n code : ℕ) → 64 < n → pairs_in codes n ≡ keep code (pairs_in codes n)
keep_many codes n code h = pairs_many codes n h ∙ sym (ap (keep code) (pairs_many codes n h))

module _ (codes : List ℕ) (n code : ℕ) (few : n ≤ 64) (within : n ≤ length codes) where
  keep_step : {l : List ℕ} → insert_by ltb code (take n codes) ≡ l → keep code (pairs_in codes n) ≡ kept_of l
  keep_step e = ap (keep code) (pairs_these codes n few) ∙ ap kept_of e

  module _ (at : ℕ) (e : at ≡ slot code (take n codes)) where
    size : length (take n codes) ≡ n
    size = length-take-le n codes within

    -- A pair that stands where it belongs is not kept again.
    pub keep_there : at < n → get_or codes at 0 ≡ code → pairs_in codes n ≡ keep code (pairs_in codes n)
    keep_there h g =
        let stands = ap (λ (j : ℕ). get_or (take n codes) j 0) (sym e) ∙ get_or-take n codes at 0 h ∙ g in
        let there = insert_there code (take n codes) (omega (arith, size)) stands in
        pairs_these codes n few
        ∙ sym
        (keep_step there
        ∙ ap (λ (b : Bool). kept_if b (take n codes)) (le-leb (length (take n codes)) 64 (omega (arith, size))))

    -- It belongs among the n or behind them.
    pub slot_low : at ≤ n
    slot_low = omega (arith, slot_within code (take n codes), size)

    -- A pair that does not stand there is put there.
    pub keep_here
        : (now : List ℕ) → n < length now → (at < n → get_or codes at 0 ≡ code → ⊥)
        → take (n + 1) now ≡ take at codes ++ (code ∷ drop at (take n codes))
        → pairs_in now (n + 1) ≡ keep code (pairs_in codes n)
    unfolding pairs_in
    keep_here now h new g =
        let put : insert_by ltb code (take n codes) ≡ take (n + 1) now =
        insert_here code (take n codes)
        (λ l k.
        let low : at < n = omega (arith, size) in
        new low (sym (get_or-take n codes at 0 low) ∙ ap (λ (j : ℕ). get_or (take n codes) j 0) e ∙ k))
        ∙ ap (λ (j : ℕ). take j (take n codes) ++ (code ∷ drop j (take n codes))) (sym e)
        ∙ ap (λ (t : List ℕ). t ++ (code ∷ drop at (take n codes))) (take-take at n codes slot_low)
        ∙ sym g in
        ap (λ (j : ℕ). kept_if (leb j 64) (take (n + 1) now)) (sym (length-take-le (n + 1) now (omega arith)))
        ∙ sym (keep_step put)

-- All of two lists joined are those of the one, then those of the other.
pub keep_append : (cs ds : List ℕ) (k : KeptPairs) → keep_all (cs ++ ds) k ≡ keep_all ds (keep_all cs k)
keep_append [] ds k = refl
keep_append (c ∷ cs) ds k = keep_append cs ds (keep c k)

-- All of a list leave too many as they are.
pub keep_all_many : (cs : List ℕ) → keep_all cs many ≡ many
keep_all_many [] = refl
keep_all_many (c ∷ cs) = keep_all_many cs
