-- The tests that reading a sheet left are its tests: a place or a pair is among them exactly when it is among the sheet's.
use Prim.Native.Nat.{ℕ, ◌*◌, ◌/◌, ◌≤◌}
use mathlib.Core.Path.{◌≡◌, refl, sym, ap, subst, ◌∙◌}
use mathlib.Core.Bool.{Bool, ◌||◌}
use mathlib.Core.Logic.{by_cases}
use mathlib.Core.List.{List, [], ◌∷◌, ◌++◌, map}
use native.Mathlib.Decide.{dec_le}
use native.Mathlib.Omega.{arith}
use lib.Dec.{T, eqb, eqb→eq, eqb_refl}
use lib.ListN.{length, take}
use Rattle.basics.specs.Lists.{count_from, any_of}
use Rattle.terms.specs.Pattern.{Patterns}
use Rattle.sheet_tests.specs.SheetTests.{Test, place, pair, sheet_tests}
use Rattle.sheet_tests.specs.views.TestedPlaces.{has_place, places_in}
use Rattle.sheet_tests.specs.views.KeptPairs.{code_pair}
use Rattle.sheet_tests.specs.views.TestsRead.{kept_tests}
use Rattle.decision.specs.Rules.{same_test}
use Rattle.basics.proofs.Filters.{mem_filter, filter_mem, mem_any, any_mem}
use Rattle.graph.specs.ReadGraph.{is_sheet_test, read_by}
use Rattle.node_check.specs.views.CheckNode.{is_code, kept_test}
use Rattle.node_check.proofs.KeptTests.{place_lacking}
use Rattle.basics.proofs.Booleans.{same_truth}
use Rattle.basics.proofs.Counting.{mem_count}

-- A place is looked for among the places, a pair among the pairs.
place_any : (ps cs : List ℕ) (n : ℕ) → any_of (same_test (place n)) (map place ps ++ map code_pair cs) ≡ any_of (eqb n) ps
place_any [] [] n = refl
place_any [] (c ∷ cs) n = place_any [] cs n
place_any (p ∷ ps) cs n = ap (λ (b : Bool). eqb n p || b) (place_any ps cs n)

pair_any : (ps cs : List ℕ) (p q : ℕ) → any_of (same_test (pair p q)) (map place ps ++ map code_pair cs) ≡ any_of (is_code p q) cs
pair_any [] [] p q = refl
pair_any [] (c ∷ cs) p q = ap (λ (b : Bool). is_code p q c || b) (pair_any [] cs p q)
pair_any (x ∷ ps) cs p q = pair_any ps cs p q

-- A place is in the set exactly when it is listed: none past the last word is.
place_listed : (words : List ℕ) (n : ℕ) → has_place words n ≡ any_of (eqb n) (places_in words)
unfolding places_in
place_listed words n = same_truth (has_place words n) (any_of (eqb n) (places_in words)) forth back
  where
    all : List ℕ
    all = count_from 0 (64 * length words)

    forth : T (has_place words n) → T (any_of (eqb n) (places_in words))
    forth h =
        by_cases (dec_le (length words) (n / 64))
        (λ (k : length words ≤ n / 64). absurd (subst T (sym (place_lacking words n k)) h))
        (λ (k : length words ≤ n / 64 → ⊥).
        let counted = mem_count 0 (64 * length words) n (omega arith) (omega arith) in
        mem_any (eqb n) (mem_filter (has_place words) counted h) (eqb_refl n))

    back : T (any_of (eqb n) (places_in words)) → T (has_place words n)
    back h =
        let (m, found, same) = any_mem (eqb n) (places_in words) h in
        subst (λ (k : ℕ). T (has_place words k)) (sym (eqb→eq n m same)) (filter_mem (has_place words) all found).1

module _ (rules : List Patterns) (words codes : List ℕ) (count : ℕ)
    (kept : sheet_tests rules ≡ kept_tests words codes count) where
  -- What is kept is a test exactly when it is one of the sheet's.
  pub kept_test_lem : (t : Test) → kept_test words codes count t ≡ is_sheet_test rules t
  kept_test_lem (place n) =
      place_listed words n
      ∙ sym (place_any (places_in words) (take count codes) n)
      ∙ ap (any_of (same_test (place n))) (sym kept)
  kept_test_lem (pair p q) =
      sym (pair_any (places_in words) (take count codes) p q) ∙ ap (any_of (same_test (pair p q))) (sym kept)

  -- So a graph is read by what was kept as it is read by the sheet's tests.
  pub kept_reading
      : (arity n : ℕ) (g : List ℕ) → read_by (kept_test words codes count) arity n g ≡ read_by (is_sheet_test rules) arity n g
  kept_reading arity n g = λ i. read_by (λ t. kept_test_lem t i) arity n g
