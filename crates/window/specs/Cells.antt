-- How a window keeps what it counts: 1,070 cells of 16 bits in memory that the caller lends.
--
--   cell 0              where in the ring the next answer goes
--   cell 1              how many answers the ring holds
--   cells 2 to 5        the counts of commit, execute, suspend and fail
--   cells 6 to 69       the commits of rules 1 to 64
--   cells 70 to 1,069   the ring of 1,000 answers, each as one number
--
-- The memory may hold anything, so each step says what becomes of every content. From a fresh window the cells hold what
-- specs/views/CellsOf says.
use Rattle.std.specs.Prelude.{ℕ, ◌+◌, ◌-◌, ◌*◌, ◌/◌, ◌%◌, Bool, true, false, cond, ◌&&◌}
use Rattle.std.specs.Prelude.{List, [], ◌∷◌, replicate, nat_le, nat_lt, slice_index, slice_set}
use Rattle.window.specs.LastThousand.{Given, given, is_commit, is_taken}

-- A fresh window.
unfoldable pub fresh_cells : List ℕ
fresh_cells = replicate 1070 0

-- An answer as one number, its word in the high byte and its rule in the low, and the answer that a number stands for.
abbrev pub code_of : Given → ℕ
code_of g = g.word * 256 + g.rule

abbrev pub answer_in : ℕ → Given
answer_in code = given (code / 256) (code % 256)

-- The place of the ring that cell 0 holds, 0 where its number is no place of it.
abbrev pub place_of : ℕ → ℕ
place_of cell = cond (nat_lt cell 1000) cell 0

-- The place after it: the ring begins again after its last.
abbrev pub place_after : ℕ → ℕ
place_after next = cond (nat_lt next 999) (next + 1) 0

-- A count when so many enter or, else, leave: modulo 65,536, which no count of at most 1,000 meets.
abbrev pub moved : Bool → ℕ → ℕ → ℕ
moved true n count = (count + n) % 65536
moved false n count = (count + (65536 - n)) % 65536

-- The cells with the count in cell i moved.
unfoldable pub moved_at : Bool → ℕ → ℕ → List ℕ → List ℕ
moved_at enters n i cells = slice_set cells i (moved enters n (slice_index cells i))

-- An answer enters, or leaves: its word's count moves by 1, its rule's by 1 where it is a commit and else by 0.
unfoldable pub counted : Bool → Given → List ℕ → List ℕ
counted enters g cells =
    moved_at enters (cond (is_commit g) 1 0) (5 + g.rule) (moved_at enters 1 (1 + g.word) cells)

-- Room for one more: the ring holds one more, or where it is full the answer at the place `next` leaves.
unfoldable pub with_room : ℕ → List ℕ → List ℕ
with_room next cells =
    cond (nat_lt (slice_index cells 1) 1000) (slice_set cells 1 (slice_index cells 1 + 1))
    (counted false (answer_in (slice_index cells (70 + next))) cells)

-- The answer stored in the ring at the place `next`.
unfoldable pub stored : ℕ → Given → List ℕ → List ℕ
stored next g cells = slice_set (slice_set cells (70 + next) (code_of g)) 0 (place_after next)

-- One answer is fed: a refused one leaves every cell as it was.
unfoldable pub fed_cells : Given → List ℕ → List ℕ
fed_cells g cells =
    let next = place_of (slice_index cells 0) in
    cond (is_taken g) (counted true g (stored next g (with_room next cells))) cells

-- A list of answers is fed, the first one first.
abbrev pub fed_all : List Given → List ℕ → List ℕ
fed_all [] cells = cells
fed_all (g ∷ answers) cells = fed_all answers (fed_cells g cells)

-- A fresh window, fed these answers.
abbrev pub fed_fresh : List Given → List ℕ
fed_fresh answers = fed_all answers fresh_cells

-- The commits of a rule, 0 where it is not 1 to 64.
unfoldable pub commits_in : ℕ → List ℕ → ℕ
commits_in i cells = cond (nat_le 1 i && nat_le i 64) (slice_index cells (5 + i)) 0
