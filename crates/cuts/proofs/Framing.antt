-- A pass over ascending cuts that leaves the runs of the empty set too, on each gauge from the numbers' first code on.
use Prim.Native.Nat.{ℕ, pred, min, max, ◌≤◌, ◌<◌}
use mathlib.Core.Path.{◌≡◌, refl, sym, ap, subst, ◌∙◌}
use mathlib.Core.Bool.{Bool, true}
use mathlib.Core.List.{List, [], ◌∷◌, ◌++◌, map}
use native.Mathlib.Omega.{arith}
use lib.Dec.{eqb, ltb}
use borrow.Author.Tests.{eqb-true, eq-eqb, le-ltb, ltb-true}
use Rattle.basics.specs.Lists.{All}
use Rattle.basics.proofs.Booleans.{by_test}
use Rattle.basics.proofs.Sorted.{AscendingBy}
use Rattle.terms.specs.RuleTests.{Range}
use Rattle.codes.specs.views.Codes.{number_code}
use Rattle.cuts.specs.views.Cuts.{Cut}
use Rattle.cuts.specs.views.Runs.{Run}
use Rattle.cuts.specs.views.FramedRuns.{gap_run, gauge_first, gauge_end, gap_runs, framed_run, framed_from}
use Rattle.cuts.proofs.Gauging.{gap_range, gauged_from, gauged_runs, Steady, AllSteady}
use Rattle.cuts.proofs.NameCodes.{code_range, code_before}
use Rattle.cuts.proofs.RunningSets.{run_of, set_runs, turned, turning, Follows, unchanged}

-- The codes of numbers.
abbrev pub base : ℕ
base = 0x300_0000

module _ (live : ℕ) (sets : ℕ → ℕ) where
  -- The same pass over the codes at which live rules turn, with the sets that are reached.
  abbrev pub framed_codes : ℕ → List ℕ → List Run
  framed_codes start [] = gap_run (max start base) (gauge_end (max start base)) []
  framed_codes start (z ∷ zs) = framed_run base start z (sets start) (framed_codes z zs)

  pub framed_codes_lem : (start : ℕ) (xs : List Cut) → Follows live sets (sets start) xs
      → framed_from base live start (sets start) xs ≡ framed_codes start (turning live xs)
  framed_codes_lem start [] f = refl
  framed_codes_lem start (x ∷ xs) f =
      by_test (eqb (turned live x) 0)
      (λ y.
      let same = unchanged live sets (sets start) x (eqb-true (turned live x) 0 y) f.0 in
      rw y (framed_codes_lem start xs (subst (λ (s : ℕ). Follows live sets s xs) same f.1)))
      (λ y.
      let next = ap (λ (s : ℕ). framed_from base live x.code s xs) (sym f.0) ∙ framed_codes_lem x.code xs f.1 in
      rw y (ap (framed_run base start x.code (sets start)) next))

  -- Numbers that no live rule wants, and a range of numbers as a run with the set that is reached at its low.
  abbrev pub quiet : ℕ → Bool
  quiet n = eqb (sets (number_code n)) 0

  abbrev pub as_codes : Range → Run
  as_codes r = run_of sets (code_range r)

  -- Codes that no live rule wants are the codes of such numbers.
  gap_codes : (a b : ℕ) (rest : List Range) → (a < b → quiet a ≡ true)
      → gap_run (number_code a) (number_code b) (map as_codes rest) ≡ map as_codes (gap_range a b rest)
  gap_codes a b rest none =
      rw (code_before a b)
      (by_test (ltb a b)
      (λ e.
      let l = ltb-true a b e in
      let last : pred (number_code b) ≡ number_code (pred b) = omega arith in
      let empty : 0 ≡ sets (number_code a) = sym (eqb-true (sets (number_code a)) 0 (none l)) in
      rw e (λ i. record { low = number_code a; high = last i; set = empty i } ∷ map as_codes rest))
      (λ e. rw e))

  gaps_codes : (a b : ℕ) (rest : List Range) → quiet a ≡ true
      → (max (gauge_end a) (gauge_first b) < b → quiet (max (gauge_end a) (gauge_first b)) ≡ true)
      → gap_runs (number_code a) (number_code b) (map as_codes rest)
      ≡ map as_codes (gap_range a (min b (gauge_end a)) (gap_range (max (gauge_end a) (gauge_first b)) b rest))
  gaps_codes a b rest e f =
      let begun = max (gauge_end a) (gauge_first b) in
      let end = min b (gauge_end a) in
      let last : min (number_code b) (gauge_end (number_code a)) ≡ number_code end = omega arith in
      let first : max (gauge_end (number_code a)) (gauge_first (number_code b)) ≡ number_code begun = omega arith in
      (λ i. gap_run (number_code a) (last i) (gap_run (first i) (number_code b) (map as_codes rest)))
      ∙ ap (gap_run (number_code a) (number_code end)) (gap_codes begun b rest f)
      ∙ gap_codes a end (gap_range begun b rest) (λ l. e)

  -- The pass from a number's code on.
  numbers_gauged : (start : ℕ) (zs : List ℕ) → Steady quiet start zs
      → framed_codes (number_code start) (map number_code zs) ≡ map as_codes (gauged_from quiet start zs)
  numbers_gauged start [] s =
      let own : max (number_code start) base ≡ number_code start = omega arith in
      let end : gauge_end (number_code start) ≡ number_code (gauge_end start) = omega arith in
      ap (λ (z : ℕ). gap_run z (gauge_end z) []) own
      ∙ ap (λ (z : ℕ). gap_run (number_code start) z []) end
      ∙ gap_codes start (gauge_end start) [] (λ l. s)
  numbers_gauged start (z ∷ zs) s =
      let own : max (number_code start) base ≡ number_code start = omega arith in
      let rest = gauged_from quiet z zs in
      let last : pred (number_code z) ≡ number_code (pred z) = omega (arith, s.0) in
      ap (framed_run base (number_code start) (number_code z) (sets (number_code start))) (numbers_gauged z zs s.2)
      ∙ by_test (quiet start)
      (λ e. rw e (ap (λ (x : ℕ). gap_runs x (number_code z) (map as_codes rest)) own ∙ gaps_codes start z rest e (s.1 e)))
      (λ e. rw e (λ i. record { low = number_code start; high = last i; set = sets (number_code start) } ∷ map as_codes rest))

  -- Where the codes below the numbers' are over.
  framed_first : (start : ℕ) (zs : List ℕ) → AllSteady quiet zs → start < base → sets start ≡ 0
      → framed_codes start (map number_code zs) ≡ map as_codes (gauged_runs quiet zs)
  framed_first start [] s below none =
      let first : max start base ≡ base = omega arith in ap (λ (z : ℕ). gap_run z (gauge_end z) []) first
  framed_first start (z ∷ zs) s below none =
      let first : max start base ≡ base = omega arith in
      let rest = framed_codes (number_code z) (map number_code zs) in
      let begun : max (gauge_end base) (gauge_first (number_code z)) ≡ number_code (gauge_first z) = omega arith in
      let over : min (number_code z) (gauge_end base) ≡ base = omega arith in
      rw (eq-eqb (sets start) 0 none)
      (ap (λ (x : ℕ). gap_runs x (number_code z) rest) first
      ∙ (λ i. gap_run base (over i) (gap_run (begun i) (number_code z) rest))
      ∙ ap (gap_run (number_code (gauge_first z)) (number_code z)) (numbers_gauged z zs s.1)
      ∙ gap_codes (gauge_first z) z (gauged_from quiet z zs) s.0)

  -- The whole pass: the runs below the numbers' codes that have a set, then all of each gauge.
  pub framed_parted : (start : ℕ) (ps zs : List ℕ) → AllSteady quiet zs → AscendingBy ◌<◌ (start ∷ ps)
      → All (λ (z : ℕ). z < base) (start ∷ ps)
      → ((y : ℕ) → y < base → All (λ (z : ℕ). z ≤ y) (start ∷ ps) → sets y ≡ 0)
      → framed_codes start (ps ++ map number_code zs) ≡ set_runs sets (start ∷ ps) ++ map as_codes (gauged_runs quiet zs)
  framed_parted start [] zs s a below over = framed_first start zs s below.0 (over start below.0 (omega arith, tt))
  framed_parted start (p ∷ ps) zs s a below over =
      let later = framed_parted p ps zs s a.1 below.1 (λ y l h. over y l (omega (arith, a.0.0, h.0), h)) in
      let first : max start base ≡ base = omega (arith, below.0) in
      let rest = framed_codes p (ps ++ map number_code zs) in
      let none : gap_runs base p rest ≡ rest =
      rw (
        le-ltb base (min p (gauge_end base)) (omega (arith, below.1.0)),
        le-ltb (max (gauge_end base) (gauge_first p)) p (omega (arith, below.1.0)),
      ) in
      by_test (eqb (sets start) 0)
      (λ e. rw e (ap (λ (x : ℕ). gap_runs x p rest) first ∙ none ∙ later))
      (λ e. rw e (ap (λ (l : List Run). record { low = start; high = pred p; set = sets start } ∷ l) later))
