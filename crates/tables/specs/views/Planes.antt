-- The tables of a sheet in one array: how many rules, tests and place tests there are, then planes of 64 numbers, one for each test
-- or rule.
use Rattle.std.specs.Prelude.{ℕ, zero, suc, ◌+◌, ◌-◌, cond, List, eqb, get_or}
use Rattle.std.specs.Int.Bits.{bit_and}
use Rattle.std.specs.Int.Count.{count_trailing_zeros}

module _ (s : List ℕ) where
  abbrev pub rules_in : ℕ
  rules_in = get_or s 0 0

  abbrev pub tests_in : ℕ
  tests_in = get_or s 1 0

  -- The first so many tests are places.
  abbrev pub place_tests_in : ℕ
  place_tests_in = get_or s 2 0

  -- Test t as p × 65,536 + q, where place p counts as the pair p, p.
  abbrev pub test_in : ℕ → ℕ
  test_in t = get_or s (4 + t) 0

  -- The tests of rule i.
  abbrev pub row_in : ℕ → ℕ
  row_in i = get_or s (68 + i) 0

  -- The rules that have test t.
  abbrev pub column_in : ℕ → ℕ
  column_in t = get_or s (132 + t) 0

  -- The tests that an unknown at place test t settles.
  abbrev pub under_in : ℕ → ℕ
  under_in t = get_or s (196 + t) 0

  -- The tests that are asked before test t.
  abbrev pub before_in : ℕ → ℕ
  before_in t = get_or s (260 + t) 0

  -- The pending test that is asked first: from test t on, before which these pending ones are asked, in at most so many steps. Each
  -- step goes to the lowest of them.
  unfoldable pub first_from : ℕ → ℕ → ℕ → ℕ
  first_from zero t earlier = t
  first_from (suc steps) t earlier =
      let u = count_trailing_zeros 64 earlier in
      cond (eqb earlier 0) t (first_from steps u (bit_and (bit_and earlier (earlier - 1)) (before_in u)))

  -- There are fewer steps than the set has as a number.
  abbrev pub first_asked_in : ℕ → ℕ
  first_asked_in pending =
      let t = count_trailing_zeros 64 pending in
      first_from pending t (bit_and pending (before_in t))
