-- Request 12, for every list of answers that is fed to a fresh window, refused ones among them. By their contracts `fresh` leaves
-- freshCells, each `feed` makes fedCells of the cells, and `words` and `commits` hand back words_in and commitsIn of the cells.
use Rattle.std.proofs.Common.{◌≡◌, ℕ, ◌+◌, ◌-◌, ◌≤◌, min, Bool, true, false, cond, ◌&&◌, eqb, List, [], ◌∷◌, length, get_or, sym, refl, ap, ◌∙◌, arith, le-leb}
use mathlib.Core.Logic.{by_cases}
use native.Mathlib.Nat.{min-eq_left, min-eq_right}
use native.Mathlib.Decide.{dec_lt}
use Rattle.basics.specs.Lists.{All}
use Rattle.terms.specs.Answer.{Answer, commit, execute, suspend, fail, word_of, rule_of}
use Rattle.window.specs.LastThousand.{Given, given, is_commit, is_taken, refusal_of, taken, last_of, last_thousand, count_of, commit_count, execute_count, suspend_count, fail_count, commits_of}
use Rattle.window.specs.Cells.{fed_cells, fed_all, fed_fresh, commits_in}
use Rattle.window.specs.Handed.{words_in}
use Rattle.window.specs.views.CellsOf.{counted_at, CellsOf}
use Rattle.window.specs.declared.WordCounts.{WordCounts}
use Rattle.window.proofs.Steps.{refused_fed, commits_there, commits_below, commits_above}
use Rattle.window.proofs.Lasts.{last_all, last_length}
use Rattle.window.proofs.Counts.{count_same, count_zero, all_drop, all_map}
use Rattle.window.proofs.CellCounts.{cell_of_word, cell_of_rule, no_such_rule, four_words}
use Rattle.window.proofs.Roomed.{IsTaken}
use Rattle.window.proofs.Kept.{keeps, all_taken}

module _ (answers : List Given) where
  -- What the cells hold (specs/views/CellsOf).
  pub cells_hold : CellsOf (taken answers) (fed_fresh answers)
  cells_hold = keeps answers

  last_taken : All IsTaken (last_thousand answers)
  unfolding last_of
  last_taken = all_drop IsTaken (length (taken answers) - 1000) (taken answers) (all_taken answers)

  word_count : (w : ℕ) → 1 ≤ w → w ≤ 4 → get_or (fed_fresh answers) (1 + w) 0 ≡ count_of (λ g. eqb g.word w) (last_thousand answers)
  word_count w low high =
      cells_hold.counts (1 + w) (omega arith) (omega arith)
      ∙ count_same (counted_at (1 + w)) (λ g. eqb g.word w) (last_thousand answers)
      (all_map (cell_of_word w low high) (last_thousand answers) last_taken)

  -- "For every list of answers fed to a fresh window, the counts are those of the list's last 1,000": of each answer word,
  pub words_of_last_thousand
      : words_in (fed_fresh answers)
      ≡ record {
        commit = commit_count answers;
        execute = execute_count answers;
        suspend = suspend_count answers;
        fail = fail_count answers;
      }
  words_of_last_thousand =
      rw (
        word_count 1 (omega arith) (omega arith),
        word_count 2 (omega arith) (omega arith),
        word_count 3 (omega arith) (omega arith),
        word_count 4 (omega arith) (omega arith),
      )

  -- and of commits for each rule.
  pub commits_of_last_thousand : (i : ℕ) → commits_in i (fed_fresh answers) ≡ commits_of i answers
  commits_of_last_thousand i =
      let none : (1 ≤ i → i ≤ 64 → ⊥) → 0 ≡ commits_of i answers =
      λ n. sym (count_zero (λ g. is_commit g && eqb g.rule i) (last_thousand answers)
      (all_map (no_such_rule i n) (last_thousand answers) last_taken)) in
      by_cases (dec_lt i 1)
      (λ below. sym (commits_below i (fed_fresh answers) below) ∙ none (λ l h. omega arith))
      (λ n. by_cases (dec_lt 64 i)
      (λ above. sym (commits_above i (fed_fresh answers) above (omega arith)) ∙ none (λ l h. omega arith))
      (λ m.
      sym (commits_there i (fed_fresh answers) (omega arith) (omega arith))
      ∙ cells_hold.counts (5 + i) (omega arith) (omega arith)
      ∙ count_same (counted_at (5 + i)) (λ g. is_commit g && eqb g.rule i) (last_thousand answers)
      (all_map (cell_of_rule i (omega arith) (omega arith)) (last_thousand answers) last_taken)))

  -- "And the four words' counts add up to the smaller of 1,000 and its length": the length without the refused answers.
  pub four_add_up
      : (words_in (fed_fresh answers)).commit + (words_in (fed_fresh answers)).execute + (words_in (fed_fresh answers)).suspend + (words_in (fed_fresh answers)).fail
      ≡ min 1000 (length (taken answers))
  four_add_up =
      ap (λ (w : WordCounts). w.commit + w.execute + w.suspend + w.fail) words_of_last_thousand
      ∙ four_words (last_thousand answers) last_taken
      ∙ by_cases (dec_lt (length (taken answers)) 1000)
      (λ few. ap length (last_all 1000 (taken answers) (omega arith)) ∙ sym (min-eq_right (omega arith)))
      (λ n. last_length 1000 (taken answers) (omega arith) ∙ sym (min-eq_left (omega arith)))

-- A refused answer leaves every cell as it was, whatever they hold, and gets 36;
pub refused_leaves : (g : Given) (cells : List ℕ) → is_taken g ≡ false → (fed_cells g cells ≡ cells) × (refusal_of g ≡ 36)
refused_leaves g cells t = (sym (refused_fed g cells t), rw t)

-- it "counts as never fed".
pub as_never_fed : (answers : List Given) (cells : List ℕ) → fed_all answers cells ≡ fed_all (taken answers) cells
as_never_fed [] cells = refl
as_never_fed (g ∷ answers) cells = go (is_taken g) refl (as_never_fed answers (fed_cells g cells))
  where
    go
        : (b : Bool) → is_taken g ≡ b → fed_all answers (fed_cells g cells) ≡ fed_all (taken answers) (fed_cells g cells)
        → fed_all answers (fed_cells g cells) ≡ fed_all (cond b (g ∷ taken answers) (taken answers)) cells
    go true t h = h
    go false t h = h ∙ ap (fed_all (taken answers)) (sym (refused_fed g cells t))

-- An answer as the walk gives it, fed with its word's number and its rule, is never refused where its rule is 1 to 64 or it has none.
pub answers_taken
    : (i : ℕ) → 1 ≤ i → i ≤ 64
    → All (λ (a : Answer). is_taken (given (word_of a) (rule_of a)) ≡ true) (commit i ∷ execute i ∷ suspend ∷ fail ∷ [])
unfolding is_taken
answers_taken i low high =
    (rw (le-leb 1 i low, le-leb i 64 high), (rw (le-leb 1 i low, le-leb i 64 high), (refl, (refl, tt))))
