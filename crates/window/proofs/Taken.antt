-- Which answers are taken.
use Rattle.std.proofs.Common.{◌≡◌, ℕ, zero, suc, ◌*◌, ◌<◌, ◌≤◌, Bool, true, false, cond, ◌&&◌, eqb}
use Rattle.std.proofs.Common.{leb, ◌⊎◌, sym, refl, ◌∙◌, inl, inr, arith, ne_eqb, eqb-true, le-leb, leb-true}
use mathlib.Core.Logic.{by_cases}
use mathlib.Core.Bool.{or-false, and-false, false≢true}
use native.Mathlib.Decide.{dec_lt}
use borrow.Author.Tests.{lt-leb}
use Rattle.window.specs.LastThousand.{given, is_taken}

-- Commit and execute, by their rule.
ruled : (w i : ℕ) → 1 ≤ w → w ≤ 2 → is_taken (given w i) ≡ (leb 1 i && leb i 64)
unfolding is_taken
ruled zero i low high = absurd (omega arith)
ruled (suc zero) i low high = or-false (leb 1 i && leb i 64)
ruled (suc (suc zero)) i low high = or-false (leb 1 i && leb i 64)
ruled (suc (suc (suc n))) i low high = absurd (omega arith)

-- Suspend and fail, by their rule.
ruleless : (w i : ℕ) → 3 ≤ w → w ≤ 4 → is_taken (given w i) ≡ eqb i 0
unfolding is_taken
ruleless zero i low high = absurd (omega arith)
ruleless (suc zero) i low high = absurd (omega arith)
ruleless (suc (suc zero)) i low high = absurd (omega arith)
ruleless (suc (suc (suc zero))) i low high = refl
ruleless (suc (suc (suc (suc zero)))) i low high = refl
ruleless (suc (suc (suc (suc (suc n))))) i low high = absurd (omega arith)

-- A word that is none of the four.
pub no_word : (w i : ℕ) → (w < 1) ⊎ (4 < w) → is_taken (given w i) ≡ false
unfolding is_taken
no_word w i (inl h) =
    simp (
      ne_eqb w 1 (λ (e : w ≡ 1). omega arith),
      ne_eqb w 2 (λ (e : w ≡ 2). omega arith),
      ne_eqb w 3 (λ (e : w ≡ 3). omega arith),
      ne_eqb w 4 (λ (e : w ≡ 4). omega arith),
    )
no_word w i (inr h) =
    simp (
      ne_eqb w 1 (λ (e : w ≡ 1). omega arith),
      ne_eqb w 2 (λ (e : w ≡ 2). omega arith),
      ne_eqb w 3 (λ (e : w ≡ 3). omega arith),
      ne_eqb w 4 (λ (e : w ≡ 4). omega arith),
    )

-- What a taken answer has: one of four words, a rule up to 64, and 1 or more for a commit.
pub record IsAnswer (w i : ℕ) : Type 0 where
  pub some : 1 ≤ w
  pub four : w ≤ 4
  pub few : i ≤ 64
  pub from : w ≡ 1 → 1 ≤ i

both : (a b : Bool) → (a && b) ≡ true → (a ≡ true) × (b ≡ true)
both true b e = (refl, e)
both false b e = absurd (false≢true e)

pub answer : (w i : ℕ) → is_taken (given w i) ≡ true → IsAnswer w i
answer w i t =
    by_cases (dec_lt w 1) (λ n. absurd (false≢true (sym (no_word w i (inl n)) ∙ t)))
    (λ one. by_cases (dec_lt w 3)
    (λ few.
    let r = both (leb 1 i) (leb i 64) (sym (ruled w i (omega arith) (omega arith)) ∙ t) in
    let low = leb-true 1 i r.0 in
    let high = leb-true i 64 r.1 in
    record { some = omega arith; four = omega arith; few = high; from = λ _. low })
    (λ many. by_cases (dec_lt 4 w) (λ n. absurd (false≢true (sym (no_word w i (inr n)) ∙ t)))
    (λ m.
    let z = eqb-true i 0 (sym (ruleless w i (omega arith) (omega arith)) ∙ t) in
    record { some = omega arith; four = omega arith; few = omega arith; from = λ p. absurd (omega arith) })))

-- By the least rule of the word.
pub by_least
    : (w i l : ℕ) → 1 ≤ w → w ≤ 4 → l ≡ cond (leb w 2) 1 0 → is_taken (given w i) ≡ (leb l i && leb i (64 * l))
by_least w i l low high e =
    by_cases (dec_lt w 3) (λ few. rw (e, le-leb w 2 (omega arith)) (ruled w i low (omega arith)))
    (λ many. rw (e, lt-leb w 2 (omega arith)) (ruleless w i (omega arith) high ∙ none i))
  where
    none : (j : ℕ) → eqb j 0 ≡ (leb 0 j && leb j 0)
    none zero = refl
    none (suc n) =
        rw (ne_eqb (suc n) 0 (λ (p : suc n ≡ 0). omega arith), lt-leb (suc n) 0 (omega arith))
        (sym (and-false (leb 0 (suc n))))
