-- Room for one more: the cells hold the counts of the last 999, and the ring one answer more than these.
use Rattle.std.proofs.Common.{◌≡◌, ℕ, suc, ◌+◌, ◌-◌, ◌<◌, ◌≤◌, true, false, List, ◌∷◌, ◌++◌, length, get_or, take, drop, sym, ap, ◌∙◌, subst, arith, length-drop, length-set, get_or-drop, get_or-set_other, get_or-set_same, drop-set-lt}
use mathlib.Core.Logic.{by_cases}
use native.Mathlib.Decide.{dec_lt}
use lib.ListN.{length-map, get_or-map}
use Rattle.basics.specs.Lists.{All}
use Rattle.window.specs.LastThousand.{Given, is_taken, last_of, count_of}
use Rattle.window.specs.Cells.{answer_in, moved, with_room}
use Rattle.window.specs.views.CellsOf.{from_place, counted_at, ring_in, CellsOf}
use Rattle.window.proofs.Taken.{answer}
use Rattle.window.proofs.Steps.{one_more, oldest_leaves}
use Rattle.window.proofs.Lasts.{last_all, last_length, last_oldest, last_rest, place_first, place_rest}
use Rattle.window.proofs.Counts.{one, one_few, count_cons, count_few, all_drop}
use Rattle.window.proofs.Moves.{counted_length, counted_behind, counted_at_lem, not_in}

abbrev pub IsTaken : Given → Type 0
IsTaken g = is_taken g ≡ true

pub record Roomed (next : ℕ) (answers : List Given) (cells room : List ℕ) : Type 0 where
  pub sized : length room ≡ 1070
  pub behind : drop 70 room ≡ drop 70 cells
  pub held : get_or room 1 0 ≡ suc (length (last_of 999 answers))
  pub ring : last_of (length (last_of 999 answers)) (from_place next (ring_in cells)) ≡ last_of 999 answers
  pub counts : (j : ℕ) → 2 ≤ j → j < 70 → get_or room j 0 ≡ count_of (counted_at j) (last_of 999 answers)

module _ (answers : List Given) (cells : List ℕ) (k : CellsOf answers cells) where
  abbrev next : ℕ
  next = get_or cells 0 0

  pub ring_length : length (ring_in cells) ≡ 1000
  ring_length = length-map (drop 70 cells) answer_in ∙ length-drop 70 cells ∙ omega (arith, k.sized)

  -- Fewer than 1,000 came: all of them stay.
  pub room_early : length answers < 1000 → Roomed next answers cells (with_room next cells)
  room_early few =
      let all : last_of 1000 answers ≡ answers = last_all 1000 answers (omega arith) in
      let rest : last_of 999 answers ≡ answers = last_all 999 answers (omega arith) in
      let same : last_of 1000 answers ≡ last_of 999 answers = all ∙ sym rest in
      let held : get_or cells 1 0 ≡ length (last_of 999 answers) = k.held ∙ ap length same in
      let v = get_or cells 1 0 + 1 in
      subst (Roomed next answers cells) (one_more next cells (omega (arith, ap length rest)))
      record {
        sized = length-set cells 1 v ∙ k.sized;
        behind = drop-set-lt 70 cells 1 v (omega arith);
        held = get_or-set_same cells 1 v 0 (omega (arith, k.sized)) ∙ omega arith;
        ring = ap (λ n. last_of n (from_place next (ring_in cells))) (sym held) ∙ k.ring ∙ same;
        counts = λ j low high.
            get_or-set_other cells 1 j v 0 (λ (e : j ≡ 1). omega arith) ∙ k.counts j low high ∙ ap (count_of (counted_at j)) same;
      }

  -- 1,000 or more came: the ring is full, and the answer at the place is the oldest of the last 1,000.
  module _ (many : 1000 ≤ length answers) (taken : All IsTaken answers) where
    abbrev oldest : Given
    oldest = answer_in (get_or cells (70 + next) 0)

    abbrev others : List Given
    others = drop (suc next) (ring_in cells) ++ take next (ring_in cells)

    full : get_or cells 1 0 ≡ 1000
    full = k.held ∙ last_length 1000 answers many

    in_place : next < length (ring_in cells)
    in_place = omega (arith, ring_length, k.placed)

    rest_length : length others ≡ 999
    rest_length = omega (arith, place_rest next (ring_in cells) in_place, ring_length)

    from_oldest : from_place next (ring_in cells) ≡ oldest ∷ others
    from_oldest =
        place_first next (ring_in cells) (answer_in 0) in_place
        ∙ ap (λ g. g ∷ others) (get_or-map answer_in (drop 70 cells) next 0 ∙ ap answer_in (get_or-drop 70 cells next 0))

    last_split : last_of 1000 answers ≡ oldest ∷ others
    last_split =
        sym k.ring ∙ ap (λ n. last_of n (from_place next (ring_in cells))) full ∙ ap (last_of 1000) from_oldest
        ∙ last_all 1000 (oldest ∷ others) (omega (arith, rest_length))

    last_others : others ≡ last_of 999 answers
    last_others = ap (drop 1) (sym last_split ∙ last_oldest 999 answers (answer_in 0) (omega arith))

    oldest_taken : IsTaken oldest
    unfolding last_of
    oldest_taken = (subst (All IsTaken) last_split (all_drop IsTaken (length answers - 1000) answers taken)).0

    pub room_full : Roomed next answers cells (with_room next cells)
    room_full =
        let w = oldest.word in
        let i = oldest.rule in
        let a = answer w i oldest_taken in
        let n : length (last_of 999 answers) ≡ 999 = last_length 999 answers (omega arith) in
        subst (Roomed next answers cells)
        (oldest_leaves next cells (omega (arith, full)))
        record {
          sized = counted_length false w i cells ∙ k.sized;
          behind = counted_behind false w i cells a;
          held =
              counted_at_lem false w i cells a 1 (omega (arith, k.sized)) (omega (arith, full))
              ∙ ap (λ b. moved false (one b) (get_or cells 1 0))
              (not_in w i 1 (λ (e : 1 ≡ 1 + w). omega (arith, a.some)) (λ _ (e : 1 ≡ 5 + i). omega arith))
              ∙ omega (arith, full);
          ring =
              ap (λ m. last_of m (from_place next (ring_in cells))) n ∙ ap (last_of 999) from_oldest
              ∙ sym (last_rest 999 oldest others (omega (arith, rest_length)))
              ∙ last_all 999 others (omega (arith, rest_length)) ∙ last_others;
          counts = λ j low high.
              let f = counted_at j in
              let old : get_or cells j 0 ≡ one (f oldest) + count_of f (last_of 999 answers) =
              k.counts j low high ∙ ap (count_of f) (last_split ∙ ap (λ l. oldest ∷ l) last_others)
              ∙ count_cons f oldest (last_of 999 answers) in
              let few : count_of f (last_of 999 answers) ≤ 999 = omega (arith, count_few f (last_of 999 answers)) in
              let bit : one (f oldest) ≤ 1 = one_few f (f oldest) in
              counted_at_lem false w i cells a j (omega (arith, k.sized)) (omega arith) ∙ ap (moved false (one (f oldest))) old
              ∙ omega arith;
        }

  -- Room is made.
  pub roomed : All IsTaken answers → Roomed next answers cells (with_room next cells)
  roomed taken = by_cases (dec_lt (length answers) 1000) room_early (λ n. room_full (omega arith) taken)
