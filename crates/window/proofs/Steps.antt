-- The steps of the code, one after another.
use Rattle.std.proofs.Common.{◌≡◌, ℕ, ◌+◌, ◌<◌, ◌≤◌, Bool, true, false, cond, List, get_or, set, refl, le-ltb, lt-ltb, le-leb}
use borrow.Author.Tests.{lt-leb}
use Rattle.std.specs.Prelude.{Ok, Err}
use Rattle.records.specs.Refusals.{refusal_in}
use Rattle.records.specs.declared.refusal.Refusal.TheVariants.{NoSuchAnswer}
use Rattle.window.specs.LastThousand.{Given, is_taken, refusal_of}
use Rattle.window.specs.Cells.{place_of, answer_in, counted, with_room, stored, fed_cells, commits_in}
use Rattle.window.specs.Handed.{fed_of}

-- The ring holds one more, or it is full.
module _ (next : ℕ) (cells : List ℕ) where
  pub one_more : get_or cells 1 0 < 1000 → set cells 1 (get_or cells 1 0 + 1) ≡ with_room next cells
  unfolding with_room
  one_more h = rw (lt-ltb (get_or cells 1 0) 1000 h)

  pub oldest_leaves : 1000 ≤ get_or cells 1 0 → counted false (answer_in (get_or cells (70 + next) 0)) cells ≡ with_room next cells
  unfolding with_room
  oldest_leaves h = rw (le-ltb (get_or cells 1 0) 1000 h)

-- An answer is fed, or refused.
pub taken_fed
    : (g : Given) (cells : List ℕ) → is_taken g ≡ true → {next : ℕ} → next ≡ place_of (get_or cells 0 0) → {a b c : List ℕ}
    → a ≡ with_room next cells → b ≡ stored next g a → c ≡ counted true g b → c ≡ fed_cells g cells
unfolding fed_cells
taken_fed g cells t n p q r = rw (t, r, q, p, n)

pub refused_fed : (g : Given) (cells : List ℕ) → is_taken g ≡ false → cells ≡ fed_cells g cells
unfolding fed_cells
refused_fed g cells t = rw t

-- The number of what is handed back.
pub fed_refusal : (g : Given) → refusal_in (fed_of g) ≡ refusal_of g
fed_refusal g = go (is_taken g)
  where
    go : (b : Bool) → refusal_in (cond b (Ok (tt {0})) (Err NoSuchAnswer)) ≡ cond b 0 36
    go true = refl
    go false = refl

-- The cell that is asked.
pub commits_there : (i : ℕ) (cells : List ℕ) → 1 ≤ i → i ≤ 64 → get_or cells (5 + i) 0 ≡ commits_in i cells
unfolding commits_in
commits_there i cells low high = rw (le-leb 1 i low, le-leb i 64 high)

pub commits_below : (i : ℕ) (cells : List ℕ) → i < 1 → 0 ≡ commits_in i cells
unfolding commits_in
commits_below i cells h = rw (lt-leb 1 i h)

pub commits_above : (i : ℕ) (cells : List ℕ) → 64 < i → 1 ≤ i → 0 ≡ commits_in i cells
unfolding commits_in
commits_above i cells h low = rw (le-leb 1 i low, lt-leb i 64 h)
