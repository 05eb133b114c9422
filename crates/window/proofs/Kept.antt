-- What a window holds once a list of answers, refused ones among them, was fed to a fresh one.
use Rattle.std.proofs.Common.{◌≡◌, ℕ, ◌-◌, ◌<◌, ◌≤◌, Bool, true, false, cond, List, [], ◌∷◌, ◌++◌, length, get_or, sym, refl, ap, ◌∙◌, subst, append_assoc, append-nil, arith, drop_of_length-le}
use lib.ListN.{length-replicate, get_or-replicate}
use Rattle.basics.specs.Lists.{All}
use Rattle.window.specs.LastThousand.{Given, is_taken, taken, last_of, count_of}
use Rattle.window.specs.Cells.{fresh_cells, fed_cells, fed_all}
use Rattle.window.specs.views.CellsOf.{from_place, counted_at, ring_in, CellsOf}
use Rattle.window.proofs.Steps.{refused_fed}
use Rattle.window.proofs.Lasts.{last_all}
use Rattle.window.proofs.Counts.{count_none, all_more}
use Rattle.window.proofs.Roomed.{IsTaken}
use Rattle.window.proofs.Keeping.{keeps_taken}

-- A fresh window holds nothing.
fresh_at : (j : ℕ) → j < 1070 → get_or fresh_cells j 0 ≡ 0
unfolding fresh_cells
fresh_at j h = get_or-replicate 1070 j 0 0 h

last_none : {A : Type 0} (xs : List A) → last_of 0 xs ≡ []
unfolding last_of
last_none xs =
    let h : length xs ≤ length xs - 0 = omega arith in
    drop_of_length-le xs h

fresh_length : length fresh_cells ≡ 1070
unfolding fresh_cells
fresh_length = length-replicate {A = ℕ} 1070 0

pub keeps_fresh : CellsOf [] fresh_cells
keeps_fresh =
    let none : last_of 1000 [] ≡ [] = last_all {A = Given} 1000 [] (omega arith) in
    record {
      sized = fresh_length;
      placed = rw (fresh_at 0 (omega arith)) (omega arith);
      held = fresh_at 1 (omega arith) ∙ sym (ap length none);
      ring =
          ap (λ n. last_of n (from_place (get_or fresh_cells 0 0) (ring_in fresh_cells))) (fresh_at 1 (omega arith))
          ∙ last_none (from_place (get_or fresh_cells 0 0) (ring_in fresh_cells)) ∙ sym none;
      counts = λ j low high. fresh_at j (omega arith) ∙ sym (ap (count_of (counted_at j)) none ∙ count_none (counted_at j));
    }

-- The answers fed after others.
pub keeps_fed
    : (before : List Given) → All IsTaken before → (answers : List Given) (cells : List ℕ) → CellsOf before cells
    → CellsOf (before ++ taken answers) (fed_all answers cells)
keeps_fed before all [] cells k = subst (λ l. CellsOf l cells) (sym (append-nil before)) k
keeps_fed before all (g ∷ answers) cells k =
    go (is_taken g) refl
    (λ t. keeps_fed (before ++ (g ∷ [])) (all_more IsTaken before all t) answers (fed_cells g cells) (keeps_taken before all cells k g t))
    (λ t. keeps_fed before all answers (fed_cells g cells) (subst (CellsOf before) (refused_fed g cells t) k))
  where
    go
        : (b : Bool) → is_taken g ≡ b
        → (is_taken g ≡ true → CellsOf (before ++ (g ∷ []) ++ taken answers) (fed_all answers (fed_cells g cells)))
        → (is_taken g ≡ false → CellsOf (before ++ taken answers) (fed_all answers (fed_cells g cells)))
        → CellsOf (before ++ cond b (g ∷ taken answers) (taken answers)) (fed_all answers (fed_cells g cells))
    go true t kept same =
        subst (λ l. CellsOf l (fed_all answers (fed_cells g cells))) (append_assoc before (g ∷ []) (taken answers)) (kept t)
    go false t kept same = same t

-- The cells of a fresh window that was fed these answers.
pub keeps : (answers : List Given) → CellsOf (taken answers) (fed_all answers fresh_cells)
keeps answers = keeps_fed [] tt answers fresh_cells keeps_fresh

-- All that counts was taken.
pub all_taken : (answers : List Given) → All IsTaken (taken answers)
all_taken [] = tt
all_taken (g ∷ answers) = go (is_taken g) refl (all_taken answers)
  where
    go : (b : Bool) → is_taken g ≡ b → All IsTaken (taken answers) → All IsTaken (cond b (g ∷ taken answers) (taken answers))
    go true t h = (t, h)
    go false t h = h
