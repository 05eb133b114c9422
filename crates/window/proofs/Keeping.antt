-- From a fresh window on, the cells hold what Keeps says: an answer that is taken is kept, one that is refused changes nothing.
use Rattle.std.proofs.Common.{◌≡◌, ℕ, suc, ◌+◌, ◌*◌, ◌/◌, ◌%◌, ◌<◌, ◌≤◌, true, List, [], ◌∷◌, ◌++◌, map, length, get_or, take, drop, set, sym, refl, ap, ◌∙◌, subst, add-one, arith, length-append, length-set, get_or-set_other, get_or-set_same, drop-set-lt, le-ltb, lt-ltb}
use mathlib.Core.Logic.{by_cases}
use native.Mathlib.Decide.{dec_lt}
use lib.Seq.{drop-set-add}
use Rattle.basics.specs.Lists.{All}
use Rattle.window.specs.LastThousand.{Given, given, last_of, count_of}
use Rattle.window.specs.Cells.{code_of, answer_in, place_after, moved, counted, with_room, stored, fed_cells}
use Rattle.window.specs.views.CellsOf.{from_place, counted_at, ring_in, CellsOf}
use Rattle.window.proofs.Taken.{IsAnswer, answer}
use Rattle.window.proofs.Steps.{taken_fed}
use Rattle.window.proofs.Lasts.{last_more, last_few, last_rest, place_first, place_stored, place_round, place_rest, map_set}
use Rattle.window.proofs.Counts.{one, one_few, count_more, count_few}
use Rattle.window.proofs.Moves.{counted_length, counted_behind, counted_at_lem, not_in}
use Rattle.window.proofs.Roomed.{IsTaken, Roomed, roomed, ring_length}

-- An answer's number stands for it.
pub code_back : (w i : ℕ) → i ≤ 64 → answer_in (code_of (given w i)) ≡ given w i
code_back w i h =
    let q : (w * 256 + i) / 256 ≡ w = omega arith in
    let r : (w * 256 + i) % 256 ≡ i = omega arith in
    rw (q, r)

-- The place after one, in a ring of 1,000.
module _ {A : Type 0} (next : ℕ) (ring : List A) (x : A) (sized : length ring ≡ 1000) (h : next < 1000) where
  pub after_place : place_after next < 1000
  after_place =
      by_cases (dec_lt next 999) (λ l. rw (lt-ltb next 999 l) (omega arith)) (λ n. rw (le-ltb next 999 (omega arith)) (omega arith))

  pub after_stored : from_place (place_after next) (set ring next x) ≡ (drop (suc next) ring ++ take next ring) ++ (x ∷ [])
  after_stored =
      by_cases (dec_lt next 999)
      (λ l. rw (lt-ltb next 999 l, add-one next) (place_stored next ring x (omega arith)))
      (λ n.
      let e : length (set ring next x) ≡ suc next = length-set ring next x ∙ omega arith in
      rw (le-ltb next 999 (omega arith))
      (sym (place_round (set ring next x)) ∙ ap (λ k. from_place k (set ring next x)) e ∙ place_stored next ring x (omega arith)))

-- One more answer is taken.
module _ (answers : List Given) (all : All IsTaken answers) (cells : List ℕ) (k : CellsOf answers cells) (g : Given) (t : IsTaken g) where
  abbrev next : ℕ
  next = get_or cells 0 0

  abbrev room : List ℕ
  room = with_room next cells

  abbrev kept : List ℕ
  kept = stored next g room

  abbrev rest : List Given
  rest = last_of 999 answers

  r : Roomed next answers cells room
  r = roomed answers cells k all

  is : IsAnswer g.word g.rule
  is = answer g.word g.rule t

  kept_length : length kept ≡ 1070
  unfolding stored
  kept_length = length-set (set room (70 + next) (code_of g)) 0 (place_after next) ∙ length-set room (70 + next) (code_of g) ∙ r.sized

  kept_place : get_or kept 0 0 ≡ place_after next
  unfolding stored
  kept_place =
      get_or-set_same (set room (70 + next) (code_of g)) 0 (place_after next) 0
      (omega (arith, length-set room (70 + next) (code_of g), r.sized))

  kept_before : (j : ℕ) → 1 ≤ j → j < 70 → get_or kept j 0 ≡ get_or room j 0
  unfolding stored
  kept_before j low high =
      get_or-set_other (set room (70 + next) (code_of g)) 0 j (place_after next) 0 (λ (e : j ≡ 0). omega arith)
      ∙ get_or-set_other room (70 + next) j (code_of g) 0 (λ (e : j ≡ 70 + next). omega arith)

  kept_behind : drop 70 kept ≡ set (drop 70 cells) next (code_of g)
  unfolding stored
  kept_behind =
      drop-set-lt 70 (set room (70 + next) (code_of g)) 0 (place_after next) (omega arith)
      ∙ drop-set-add 70 room next (code_of g) ∙ ap (λ l. set l next (code_of g)) r.behind

  kept_ring : ring_in kept ≡ set (ring_in cells) next g
  kept_ring =
      ap (map answer_in) kept_behind ∙ map_set answer_in (drop 70 cells) next (code_of g)
      ∙ ap (set (ring_in cells) next) (code_back g.word g.rule is.few)

  -- The cells once it is counted.
  abbrev new : List ℕ
  new = counted true g kept

  stays : (j : ℕ) → j < 2 → get_or kept j 0 < 65536 → get_or new j 0 ≡ get_or kept j 0
  stays j h small =
      counted_at_lem true g.word g.rule kept is j (omega (arith, kept_length)) small
      ∙ ap (λ b. moved true (one b) (get_or kept j 0))
      (not_in g.word g.rule j (λ (e : j ≡ 1 + g.word). omega (arith, is.some)) (λ _ (e : j ≡ 5 + g.rule). omega arith))
      ∙ omega arith

  new_place : get_or new 0 0 ≡ place_after next
  new_place =
      let after = after_place next (ring_in cells) g (ring_length answers cells k) k.placed in
      stays 0 (omega arith) (rw kept_place (omega arith)) ∙ kept_place

  new_held : get_or new 1 0 ≡ suc (length rest)
  new_held =
      let held = kept_before 1 (omega arith) (omega arith) ∙ r.held in
      stays 1 (omega arith) (rw held (omega (arith, last_few 999 answers))) ∙ held

  more : last_of 1000 (answers ++ (g ∷ [])) ≡ rest ++ (g ∷ [])
  more = last_more 999 answers g

  new_ring : last_of (get_or new 1 0) (from_place (get_or new 0 0) (ring_in new)) ≡ rest ++ (g ∷ [])
  new_ring =
      let ring = ring_in cells in
      let others = drop (suc next) ring ++ take next ring in
      let sized = ring_length answers cells k in
      let first = place_first next ring g (omega (arith, k.placed)) in
      let room_for = place_rest next ring (omega (arith, k.placed)) in
      ap (λ l. last_of (get_or new 1 0) (from_place (get_or new 0 0) l))
      (ap (map answer_in) (counted_behind true g.word g.rule kept is) ∙ kept_ring)
      ∙ ap (λ p. last_of (get_or new 1 0) (from_place p (set ring next g))) new_place
      ∙ ap (λ n. last_of n (from_place (place_after next) (set ring next g))) new_held
      ∙ ap (last_of (suc (length rest))) (after_stored next ring g sized k.placed)
      ∙ last_more (length rest) others g
      ∙ ap (λ l. l ++ (g ∷ []))
      (last_rest (length rest) (get_or ring next g) others (omega (arith, last_few 999 answers))
      ∙ ap (last_of (length rest)) (sym first) ∙ r.ring)

  new_count : (j : ℕ) → get_or kept j 0 ≡ count_of (counted_at j) rest → get_or new j 0 ≡ count_of (counted_at j) rest + one (counted_at j g)
  new_count j e =
      let few : count_of (counted_at j) rest ≤ 999 = omega (arith, count_few (counted_at j) rest, last_few 999 answers) in
      let bit : one (counted_at j g) ≤ 1 = one_few (counted_at j) (counted_at j g) in
      counted_at_lem true g.word g.rule kept is j (omega (arith, kept_length)) (rw e (omega arith))
      ∙ ap (moved true (one (counted_at j g))) e ∙ omega arith

  keeps_more : CellsOf (answers ++ (g ∷ [])) new
  keeps_more =
      record {
        sized = counted_length true g.word g.rule kept ∙ kept_length;
        placed = rw new_place (after_place next (ring_in cells) g (ring_length answers cells k) k.placed);
        held = new_held ∙ sym (ap length more ∙ length-append rest (g ∷ []) ∙ add-one (length rest));
        ring = new_ring ∙ sym more;
        counts = λ j low high.
            new_count j (kept_before j (omega arith) high ∙ r.counts j low high)
            ∙ sym (ap (count_of (counted_at j)) more ∙ count_more (counted_at j) rest g);
      }

  pub keeps_taken : CellsOf (answers ++ (g ∷ [])) (fed_cells g cells)
  keeps_taken =
      subst (CellsOf (answers ++ (g ∷ [])))
      (taken_fed g cells t (sym (rw (lt-ltb next 1000 k.placed))) refl refl refl) keeps_more
