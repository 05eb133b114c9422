-- The keys behind the edges of a node, off the tables of a sheet, whatever these hold.
use Rattle.std.specs.Prelude.{ℕ, not, ◌&&◌, cond, List, [], ◌∷◌, eqb, ltb}
use Rattle.std.specs.Int.Bits.{bit_or}
use Rattle.basics.specs.Lists.{any_below}
use Rattle.masks.specs.Mask.{has, mask_of, members}
use Rattle.decision.specs.Key.{Key, two_or_more}
use Rattle.tables.specs.views.Planes.{rules_in, tests_in, row_in, column_in, under_in}
use Rattle.edges.specs.declared.Asked.{Asked}
use Rattle.edges.specs.views.VertexKey.{key_with}

-- What is in two sets of numbers below 64, in the first alone, and all numbers below n.
unfoldable pub common : ℕ → ℕ → ℕ
common a b = mask_of 64 (λ j. has a j && has b j)

unfoldable pub minus : ℕ → ℕ → ℕ
minus a b = mask_of 64 (λ j. has a j && not (has b j))

unfoldable pub without : ℕ → ℕ → ℕ
without set t = mask_of 64 (λ j. has set j && not (eqb t j))

unfoldable pub full : ℕ → ℕ
full n = mask_of 64 (λ j. ltb j n)

module _ (s : List ℕ) where
  -- The live rules that have none of some tests.
  unfoldable pub settled_in : ℕ → ℕ → ℕ
  settled_in live left = mask_of 64 (λ i. has live i && not (any_below 64 (λ t. has left t && has (column_in s t) i)))

  -- Those of some tests that a live rule has.
  unfoldable pub held_in : ℕ → ℕ → ℕ
  held_in live left = mask_of 64 (λ t. has left t && any_below 64 (λ i. has live i && has (row_in s i) t))

  -- The key with these live rules, where these tests are left and these rules have none of them. "With no live rule it is fail. If
  -- exactly one live rule is left, it is execute for that rule. If two or more live rules have no pending test, it is suspend."
  abbrev pub lead_by : List ℕ → ℕ → ℕ → ℕ → Key
  lead_by [] live left settled = key_with 0 0
  lead_by (i ∷ []) live left settled = key_with live 0
  lead_by (i ∷ (j ∷ l)) live left settled =
      cond (two_or_more (members 64 (common live settled))) (key_with 0 1) (key_with live (held_in live left))

  abbrev pub lead_in : ℕ → ℕ → ℕ → Key
  lead_in live left settled = lead_by (members 64 live) live left settled

  -- "The root has all of both."
  abbrev pub root_in : Key
  root_in = lead_in (full (rules_in s)) (full (tests_in s)) (settled_in (full (rules_in s)) (full (tests_in s)))

  -- What all edges of the node of a key share that asks test t: the live rules, those without the test, the tests left, and the
  -- live rules that have none of these.
  abbrev pub asked_in : Key → ℕ → Asked
  asked_in key t = record {
    test = t;
    live = key.live;
    free = minus key.live (column_in s t);
    left = without key.pending t;
    settled = settled_in key.live (without key.pending t);
  }

  -- By neither, and by a pair's no; by a pair's other; by a case that some live rules want; by unknown.
  abbrev pub none_behind : Asked → Key
  none_behind a = lead_in a.free a.left a.settled

  abbrev pub other_behind : Asked → Key
  other_behind a = lead_in a.live a.left a.settled

  abbrev pub run_behind : Asked → ℕ → Key
  run_behind a set = lead_in (bit_or a.free set) a.left a.settled

  abbrev pub unknown_behind : Asked → Key
  unknown_behind a =
      let left = minus a.left (under_in s a.test) in
      lead_in a.live left (settled_in a.live left)
