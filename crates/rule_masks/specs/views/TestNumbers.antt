-- The numbers of a sheet's tests (document 01, "Places and tests"): "its distinct tested places ascending, then its distinct
-- pairs .., numbered from 0". A test is kept as its code.
use Rattle.std.specs.Prelude.{ℕ, suc, ◌/◌, ◌%◌, ◌<◌, ◌≡◌, Bool, true, false, ◌||◌, cond, List, [], ◌∷◌, eqb}
use Rattle.masks.specs.Mask.{has, mask_of}
use Rattle.basics.specs.Lists.{All, Mem}
use Rattle.sheet_tests.specs.SheetTests.{Test, place, pair}
use Rattle.sheet_tests.specs.views.KeptPairs.{code_pair}
use Rattle.decision.specs.Rules.{same_test}

-- The number of a test in a list: that of the first that is the same, how many there are where none is.
abbrev pub test_number : List Test → Test → ℕ
test_number [] t = 0
test_number (u ∷ us) t = cond (same_test u t) 0 (suc (test_number us t))

-- "Distinct": each test stands in the list once.
abbrev pub Once : List Test → Type 0
Once [] = Unit
Once (t ∷ ts) = All (λ (u : Test). t ≡ u → ⊥) ts × Once ts

-- A test of "places .. 0 to 679".
abbrev pub NearTest : Test → Type 0
NearTest (place n) = n < 680
NearTest (pair p q) = (p < 680) × (q < 680)

-- The test with a code, where place p has that of the pair p, p.
abbrev pub code_test : ℕ → Test
code_test c = cond (eqb (c / 0x1_0000) (c % 0x1_0000)) (place (c / 0x1_0000)) (code_pair c)

-- It is one of these tests.
abbrev pub KeptCode : List Test → ℕ → Type 0
KeptCode tests c = NearTest (code_test c) × Mem (code_test c) tests

-- "A set of tests, test t being bit t of 64": with t, or as it is.
abbrev pub with_if : Bool → ℕ → ℕ → ℕ
with_if true set t = mask_of 64 (λ j. has set j || eqb t j)
with_if false set t = set
