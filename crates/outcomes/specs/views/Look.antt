-- What stands at a place of a piece that is laid out by place (document 01, "Places and tests"; document 02, request 6).
use Rattle.std.specs.Prelude.{◌||◌, cond, ℕ, zero, suc, List, get_or, eqb}
use Rattle.places.specs.Numbering.{parent_at}
use Rattle.codes.specs.views.Codes.{unknown_run, never_code}

-- The cell of the nearest place that has one, of p and the places above it, so many in all; 0 where none has. The
-- parents are those of the table, 680 where there is none.
abbrev pub nearest_cell : ℕ → List ℕ → ℕ → ℕ
nearest_cell zero cells p = 0
nearest_cell (suc k) cells p =
    cond (eqb p 680) 0 (cond (eqb (get_or cells p 0) 0) (nearest_cell k cells (parent_at p)) (get_or cells p 0))

-- What stands below a place with this run where no cell tells it: "A place below an unknown is unknown", and one below record 35
-- "is treated as it is"; else nothing.
abbrev pub hidden_below : ℕ → ℕ
hidden_below run = cond (eqb run unknown_run || eqb run never_code) run 0

-- What stands at place p: its cell; where that is 0, what the nearest place above it with a cell hides. At most 3 places are above
-- it.
abbrev pub look : List ℕ → ℕ → ℕ
look cells p = cond (eqb (get_or cells p 0) 0) (hidden_below (nearest_cell 3 cells (parent_at p))) (get_or cells p 0)
