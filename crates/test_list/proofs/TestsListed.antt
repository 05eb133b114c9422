-- What stands in tables with listed tests: how many there are, the places, the pairs behind them, and all else as it was.
use Prim.Native.Nat.{ℕ, ◌+◌, ◌-◌, ◌≤◌, ◌<◌}
use mathlib.Core.Path.{◌≡◌, ◌∙◌}
use mathlib.Core.List.{List, map}
use mathlib.Core.Logic.{inl, inr}
use native.Mathlib.Omega.{arith}
use lib.ListN.{length, get_or, take, drop, set, length-set, length-map, length-drop, get_or-map}
use lib.Seq.{length-take-le, get_or-take, get_or-drop, get_or-set_same, get_or-set_other, ext_get_or}
use Rattle.basics.specs.Lists.{count_from}
use Rattle.tables.specs.views.Planes.{rules_in, tests_in, place_tests_in, test_in}
use Rattle.test_list.specs.views.Tests.{put_all, spot_code, tests_put, Counted, pairs_listed, settled_below, under_put}
use Rattle.test_list.proofs.PutLists.{put_length, put_other, put_at}

module _ (ps cs s : List ℕ) (entries : length s ≡ 324) (few : length ps + length cs ≤ 64) where
  abbrev spots : List ℕ
  spots = map spot_code ps

  abbrev first : List ℕ
  first = put_all 4 spots s

  abbrev both : List ℕ
  both = put_all (4 + length ps) cs first

  abbrev counted : List ℕ
  counted = set both 1 (length ps + length cs)

  long : length both ≡ 324
  long = put_length cs (4 + length ps) first ∙ put_length spots 4 s ∙ entries

  -- The counts are beside the entries from 4 on.
  beyond : (k : ℕ) → 4 ≤ k → get_or (tests_put ps cs s) k 0 ≡ get_or both k 0
  unfolding tests_put
  beyond k h =
      get_or-set_other counted 2 k (length ps) 0 (λ e. let z : ⊥ = omega arith in z)
      ∙ get_or-set_other both 1 k (length ps + length cs) 0 (λ e. let z : ⊥ = omega arith in z)

  pub listed_tests_lem : tests_in (tests_put ps cs s) ≡ length ps + length cs
  unfolding tests_put
  listed_tests_lem =
      get_or-set_other counted 2 1 (length ps) 0 (λ e. let z : ⊥ = omega arith in z)
      ∙ get_or-set_same both 1 (length ps + length cs) 0 (omega (arith, long))

  pub listed_places : place_tests_in (tests_put ps cs s) ≡ length ps
  unfolding tests_put
  listed_places =
      get_or-set_same counted 2 (length ps) 0 (omega (arith, length-set both 1 (length ps + length cs), long))

  pub listed_long : length (tests_put ps cs s) ≡ 324
  unfolding tests_put
  listed_long = length-set counted 2 (length ps) ∙ length-set both 1 (length ps + length cs) ∙ long

  pub listed_counted : Counted (tests_put ps cs s)
  listed_counted = record {
    entries = listed_long;
    few = omega (arith, listed_tests_lem);
    places = omega (arith, listed_tests_lem, listed_places);
  }

  -- A place's entry,
  pub listed_place : (t : ℕ) → t < length ps → test_in (tests_put ps cs s) t ≡ spot_code (get_or ps t 0)
  listed_place t h =
      beyond (4 + t) (omega arith)
      ∙ put_other cs (4 + length ps) first (4 + t) (inl (omega arith))
      ∙ put_at spots 4 s t (4 + t) (omega (arith, length-map ps spot_code)) (omega (arith, length-map ps spot_code)) (omega arith)
      ∙ get_or-map spot_code ps t 0

  -- a pair's,
  pub listed_pair : (k j : ℕ) → k < length cs → j ≡ 4 + length ps + k → get_or (tests_put ps cs s) j 0 ≡ get_or cs k 0
  listed_pair k j h e =
      beyond j (omega arith)
      ∙ put_at cs (4 + length ps) first k j h (omega (arith, put_length spots 4 s)) (omega arith)

  -- those of no test,
  pub listed_other : (k : ℕ) → 68 ≤ k → get_or (tests_put ps cs s) k 0 ≡ get_or s k 0
  listed_other k h =
      beyond k (omega arith)
      ∙ put_other cs (4 + length ps) first k (inr (omega arith))
      ∙ put_other spots 4 s k (inr (omega (arith, length-map ps spot_code)))

  pub listed_rules : rules_in (tests_put ps cs s) ≡ rules_in s
  unfolding tests_put
  listed_rules =
      get_or-set_other counted 2 0 (length ps) 0 (λ e. let z : ⊥ = omega arith in z)
      ∙ get_or-set_other both 1 0 (length ps + length cs) 0 (λ e. let z : ⊥ = omega arith in z)
      ∙ put_other cs (4 + length ps) first 0 (inl (omega arith))
      ∙ put_other spots 4 s 0 (inl (omega arith))

  -- and all pairs.
  pub listed_pairs : pairs_listed (tests_put ps cs s) ≡ cs
  listed_pairs =
      let s' = tests_put ps cs s in
      let many : tests_in s' - place_tests_in s' ≡ length cs = omega (arith, listed_tests_lem, listed_places) in
      let from : 4 + place_tests_in s' ≡ 4 + length ps = omega (arith, listed_places) in
      let l = drop (4 + length ps) s' in
      let fits : length cs ≤ length l = omega (arith, length-drop (4 + length ps) s', listed_long) in
      (λ j. take (many j) (drop (from j) s'))
      ∙ ext_get_or 0 (take (length cs) l) cs (length-take-le (length cs) l fits)
      (λ k h.
      get_or-take (length cs) l k 0 (omega (arith, length-take-le (length cs) l fits))
      ∙ get_or-drop (4 + length ps) s' k 0
      ∙ listed_pair k (4 + length ps + k) (omega (arith, length-take-le (length cs) l fits)) (omega arith))

  -- What is under places is written beside them too.
  pub under_rows : (k : ℕ) → 68 ≤ k → k < 196 → get_or (under_put (tests_put ps cs s)) k 0 ≡ get_or s k 0
  unfolding under_put
  under_rows k l h =
      let s' = tests_put ps cs s in
      put_other (map (settled_below s') (count_from 0 (place_tests_in s'))) 196 s' k (inl h) ∙ listed_other k l
