-- The tests asked before each test, in the tables of a sheet: the lower ones, or those of the places before it in a list.
use Rattle.std.specs.Prelude.{ℕ, ◌+◌, ◌%◌, Bool, ◌&&◌, ◌||◌, cond, List, [], ◌∷◌, eqb, ltb, get_or, set}
use Rattle.masks.specs.Mask.{has, mask_of}
use Rattle.tables.specs.views.Planes.{place_tests_in, test_in}

-- The tests below test t.
unfoldable pub lower_tests : ℕ → ℕ
lower_tests t = mask_of 64 (λ u. ltb u t)

-- A set with test t.
unfoldable pub with_asked : ℕ → ℕ → ℕ
with_asked asked t = mask_of 64 (λ u. has asked u || eqb t u)

-- Test t is one of the places, and it is place p.
abbrev pub is_test_of : List ℕ → ℕ → ℕ → Bool
is_test_of s t p = ltb t (place_tests_in s) && eqb (test_in s t % 0x1_0000) p

-- The places of a list ask their tests in this order, where some tests were asked before them. Their numbers stand in a table.
unfoldable pub turned_by : List ℕ → List ℕ → ℕ → List ℕ → List ℕ
turned_by numbers [] asked s = s
turned_by numbers (p ∷ places) asked s =
    let t = get_or numbers p 0 in
    cond (is_test_of s t p)
    (turned_by numbers places (with_asked asked t) (set s (260 + t) asked))
    (turned_by numbers places asked s)
