-- What the counts of taken answers are: each has one of four words, and a commit a rule 1 to 64.
use Rattle.std.proofs.Common.{◌≡◌, ℕ, zero, suc, ◌+◌, ◌≤◌, Bool, true, false, ◌&&◌, eqb, List, [], ◌∷◌, length, refl, arith, ne_eqb, eqb-true}
use borrow.Author.Tests.{eqb-false}
use Rattle.basics.specs.Lists.{All}
use Rattle.window.specs.LastThousand.{Given, is_commit, is_execute, is_suspend, is_fail, count_of}
use Rattle.window.specs.views.CellsOf.{counted_at}
use Rattle.window.proofs.Taken.{IsAnswer, answer}
use Rattle.window.proofs.Counts.{one, count_none, count_cons}
use Rattle.window.proofs.Moves.{in_word, in_rule, not_in}
use Rattle.window.proofs.Roomed.{IsTaken}

-- The cell of a word, and of a rule, counts these and no others.
pub cell_of_word : (w : ℕ) → 1 ≤ w → w ≤ 4 → (g : Given) → IsTaken g → counted_at (1 + w) g ≡ eqb g.word w
cell_of_word w low high g t = go (eqb g.word w) refl
  where
    go : (b : Bool) → eqb g.word w ≡ b → counted_at (1 + w) g ≡ b
    go true e =
        let d = eqb-true g.word w e in
        in_word g.word g.rule (1 + w) (omega arith)
    go false e =
        let n = eqb-false g.word w e in
        let a = answer g.word g.rule t in
        not_in g.word g.rule (1 + w) (λ d. n (omega arith)) (λ c d. omega (arith, a.from c))

pub cell_of_rule : (i : ℕ) → 1 ≤ i → i ≤ 64 → (g : Given) → IsTaken g → counted_at (5 + i) g ≡ (is_commit g && eqb g.rule i)
cell_of_rule i low high g t = go (eqb g.word 1) (eqb g.rule i) refl refl
  where
    a : IsAnswer g.word g.rule
    a = answer g.word g.rule t

    go : (b c : Bool) → eqb g.word 1 ≡ b → eqb g.rule i ≡ c → counted_at (5 + i) g ≡ (b && c)
    go true true e d = in_rule g.word g.rule (5 + i) (eqb-true g.word 1 e) (omega (arith, eqb-true g.rule i d))
    go true false e d =
        let w = eqb-true g.word 1 e in
        let n = eqb-false g.rule i d in
        not_in g.word g.rule (5 + i) (λ f. omega arith) (λ c f. n (omega arith))
    go false c e d =
        let n = eqb-false g.word 1 e in
        not_in g.word g.rule (5 + i) (λ f. omega (arith, a.four)) (λ w f. n w)

-- No commit has another rule.
pub no_such_rule : (i : ℕ) → (1 ≤ i → i ≤ 64 → ⊥) → (g : Given) → IsTaken g → (is_commit g && eqb g.rule i) ≡ false
no_such_rule i n g t = go (eqb g.word 1) refl
  where
    go : (b : Bool) → eqb g.word 1 ≡ b → (b && eqb g.rule i) ≡ false
    go true e =
        let a = answer g.word g.rule t in
        let low = a.from (eqb-true g.word 1 e) in
        ne_eqb g.rule i (λ (d : g.rule ≡ i). n (omega arith) (omega arith))
    go false e = refl

-- One word each.
one_word : (w : ℕ) → 1 ≤ w → w ≤ 4 → one (eqb w 1) + one (eqb w 2) + one (eqb w 3) + one (eqb w 4) ≡ 1
one_word zero low high = absurd (omega arith)
one_word (suc zero) low high = refl
one_word (suc (suc zero)) low high = refl
one_word (suc (suc (suc zero))) low high = refl
one_word (suc (suc (suc (suc zero)))) low high = refl
one_word (suc (suc (suc (suc (suc n))))) low high = absurd (omega arith)

pub four_words
    : (xs : List Given) → All IsTaken xs
    → count_of is_commit xs + count_of is_execute xs + count_of is_suspend xs + count_of is_fail xs ≡ length xs
four_words [] h = omega (arith, count_none is_commit, count_none is_execute, count_none is_suspend, count_none is_fail)
four_words (g ∷ xs) h =
    let a = answer g.word g.rule h.0 in
    omega (
      arith,
      count_cons is_commit g xs,
      count_cons is_execute g xs,
      count_cons is_suspend g xs,
      count_cons is_fail g xs,
      one_word g.word a.some a.four,
      four_words xs h.1,
    )
