-- What becomes of the cells when an answer enters or leaves: the cells that count it move, all others stay.
use Rattle.std.proofs.Common.{◌≡◌, ℕ, ◌+◌, ◌<◌, ◌≤◌, Bool, true, false, ◌&&◌, eqb, List, length, get_or, drop, sym, refl, ap, ◌∙◌, arith, length-set, get_or-set_other, get_or-set_same, drop-set-lt, eq-eqb, ne_eqb, eqb-true}
use mathlib.Core.Bool.{or-true, and-true}
use borrow.Author.Tests.{eqb-false}
use Rattle.window.specs.LastThousand.{given}
use Rattle.window.specs.Cells.{moved, moved_at, counted}
use Rattle.window.specs.views.CellsOf.{counted_at}
use Rattle.window.proofs.Taken.{IsAnswer}
use Rattle.window.proofs.Counts.{one}

module _ (enters : Bool) (n i : ℕ) (cells : List ℕ) where
  moved_length : length (moved_at enters n i cells) ≡ length cells
  unfolding moved_at
  moved_length = length-set cells i (moved enters n (get_or cells i 0))

  moved_behind : i < 70 → drop 70 (moved_at enters n i cells) ≡ drop 70 cells
  unfolding moved_at
  moved_behind h = drop-set-lt 70 cells i (moved enters n (get_or cells i 0)) h

  moved_here : i < length cells → get_or (moved_at enters n i cells) i 0 ≡ moved enters n (get_or cells i 0)
  unfolding moved_at
  moved_here h = get_or-set_same cells i (moved enters n (get_or cells i 0)) 0 h

  moved_not : (j : ℕ) → (j ≡ i → ⊥) → get_or (moved_at enters n i cells) j 0 ≡ get_or cells j 0
  unfolding moved_at
  moved_not j h = get_or-set_other cells i j (moved enters n (get_or cells i 0)) 0 h

-- A count has 16 bits, and one that moves by 0 stays.
moved_small : (enters : Bool) (n count : ℕ) → moved enters n count < 65536
moved_small true n count = omega arith
moved_small false n count = omega arith

moved_none : (enters : Bool) (count : ℕ) → count < 65536 → moved enters 0 count ≡ count
moved_none true count h = omega arith
moved_none false count h = omega arith

-- Which cells count an answer.
module _ (w i j : ℕ) where
  pub in_word : j ≡ 1 + w → counted_at j (given w i) ≡ true
  unfolding counted_at
  in_word e = rw (eq-eqb j (1 + w) e)

  pub in_rule : w ≡ 1 → j ≡ 5 + i → counted_at j (given w i) ≡ true
  unfolding counted_at
  in_rule c e = rw (eq-eqb w 1 c, eq-eqb j (5 + i) e) (or-true (eqb j (1 + w)))

  pub not_in : (j ≡ 1 + w → ⊥) → (w ≡ 1 → j ≡ 5 + i → ⊥) → counted_at j (given w i) ≡ false
  unfolding counted_at
  not_in n m = rw (ne_eqb j (1 + w) n) (go (eqb w 1) refl)
    where
      go : (b : Bool) → eqb w 1 ≡ b → (b && eqb j (5 + i)) ≡ false
      go true e = ne_eqb j (5 + i) (m (eqb-true w 1 e))
      go false e = refl

  -- The cell of a rule that is not the word's.
  by_rule : (j ≡ 1 + w → ⊥) → j ≡ 5 + i → counted_at j (given w i) ≡ eqb w 1
  unfolding counted_at
  by_rule n e = rw (ne_eqb j (1 + w) n, eq-eqb j (5 + i) e) (and-true (eqb w 1))

-- An answer is counted in cells 2 to 69: each cell moves by 1 where it counts the answer, and else by 0.
module _ (enters : Bool) (w i : ℕ) (cells : List ℕ) where
  abbrev words : List ℕ
  words = moved_at enters 1 (1 + w) cells

  abbrev commits : ℕ
  commits = one (eqb w 1)

  pub counted_length : length (counted enters (given w i) cells) ≡ length cells
  unfolding counted
  counted_length = moved_length enters commits (5 + i) words ∙ moved_length enters 1 (1 + w) cells

  module _ (a : IsAnswer w i) where
    pub counted_behind : drop 70 (counted enters (given w i) cells) ≡ drop 70 cells
    unfolding counted
    counted_behind =
        moved_behind enters commits (5 + i) words (omega arith) ∙ moved_behind enters 1 (1 + w) cells (omega arith)

    module _ (j : ℕ) (l : 70 ≤ length cells) where
      -- The cell of its word, which a word without a rule shares with rule 0.
      word_moves : j ≡ 1 + w → (b : Bool) → eqb j (5 + i) ≡ b
          → get_or (counted enters (given w i) cells) j 0 ≡ moved enters 1 (get_or cells j 0)
      unfolding counted
      word_moves e b d =
          let word : get_or words j 0 ≡ moved enters 1 (get_or cells j 0) = rw e (moved_here enters 1 (1 + w) cells (omega arith)) in
          go b d word
        where
          go : (c : Bool) → eqb j (5 + i) ≡ c → get_or words j 0 ≡ moved enters 1 (get_or cells j 0)
              → get_or (moved_at enters commits (5 + i) words) j 0 ≡ moved enters 1 (get_or cells j 0)
          go true k word =
              let f = eqb-true j (5 + i) k in
              let zero_more : commits ≡ 0 = ap one (ne_eqb w 1 (λ (p : w ≡ 1). omega (arith, a.from p))) in
              let here = moved_here enters commits (5 + i) words (omega (arith, moved_length enters 1 (1 + w) cells)) in
              let at : get_or (moved_at enters commits (5 + i) words) j 0 ≡ moved enters commits (get_or words j 0) = rw f here in
              at ∙ ap (λ n. moved enters n (get_or words j 0)) zero_more ∙ ap (moved enters 0) word
              ∙ moved_none enters (moved enters 1 (get_or cells j 0)) (moved_small enters 1 (get_or cells j 0))
          go false k word = moved_not enters commits (5 + i) words j (eqb-false j (5 + i) k) ∙ word

      -- The cell of its rule.
      rule_moves : (j ≡ 1 + w → ⊥) → j ≡ 5 + i
          → get_or (counted enters (given w i) cells) j 0 ≡ moved enters commits (get_or cells j 0)
      unfolding counted
      rule_moves n e =
          let here = moved_here enters commits (5 + i) words (omega (arith, moved_length enters 1 (1 + w) cells)) in
          let at : get_or (moved_at enters commits (5 + i) words) j 0 ≡ moved enters commits (get_or words j 0) = rw e here in
          at ∙ ap (moved enters commits) (moved_not enters 1 (1 + w) cells j n)

      -- Any other.
      others_stay : (j ≡ 1 + w → ⊥) → (j ≡ 5 + i → ⊥) → get_or (counted enters (given w i) cells) j 0 ≡ get_or cells j 0
      unfolding counted
      others_stay n m = moved_not enters commits (5 + i) words j m ∙ moved_not enters 1 (1 + w) cells j n

      pub counted_at_lem
          : get_or cells j 0 < 65536
          → get_or (counted enters (given w i) cells) j 0 ≡ moved enters (one (counted_at j (given w i))) (get_or cells j 0)
      counted_at_lem small = go (eqb j (1 + w)) (eqb j (5 + i)) refl refl
        where
          to
              : (b : Bool) → counted_at j (given w i) ≡ b
              → moved enters (one b) (get_or cells j 0) ≡ moved enters (one (counted_at j (given w i))) (get_or cells j 0)
          to b e = ap (λ c. moved enters (one c) (get_or cells j 0)) (sym e)

          go
              : (b c : Bool) → eqb j (1 + w) ≡ b → eqb j (5 + i) ≡ c
              → get_or (counted enters (given w i) cells) j 0 ≡ moved enters (one (counted_at j (given w i))) (get_or cells j 0)
          go true c e d =
              let p = eqb-true j (1 + w) e in
              word_moves p c d ∙ to true (in_word w i j p)
          go false true e d =
              let n = eqb-false j (1 + w) e in
              let p = eqb-true j (5 + i) d in
              rule_moves n p ∙ to (eqb w 1) (by_rule w i j n p)
          go false false e d =
              let n = eqb-false j (1 + w) e in
              let m = eqb-false j (5 + i) d in
              others_stay n m ∙ sym (moved_none enters (get_or cells j 0) small) ∙ to false (not_in w i j n (λ _. m))
