-- Pairs of runs gauge by gauge (document 02, request 7): "each gauge .. is cut into runs by itself", so that no pair has its first
-- run on one gauge and its last on another.
use Prim.Native.Nat.{ℕ, suc, ◌≤◌}
use mathlib.Core.Path.{◌≡◌, refl, ap, ◌∙◌, sym}
use mathlib.Core.List.{List, [], ◌∷◌, ◌++◌, append_assoc}
use native.Mathlib.Omega.{arith}
use lib.Bits.{bit_or}
use lib.Dec.{eqb}
use lib.ListN.{length, length-append}
use borrow.Author.Tests.{eq-eqb, ne_eqb}
use Rattle.basics.specs.Lists.{All}
use Rattle.basics.proofs.Booleans.{by_test}
use Rattle.cuts.specs.views.Runs.{Run}
use Rattle.cuts.specs.views.CaseRuns.{union_row, union_pairs, gauge_at, first_on, gauge_pairs}

-- A list begins with a run on another gauge, or has none.
abbrev pub OtherFirst : ℕ → List Run → Type 0
OtherFirst g [] = Unit
OtherFirst g (r ∷ rs) = gauge_at r ≡ g → ⊥

abbrev pub RunOn : ℕ → Run → Type 0
RunOn g r = gauge_at r ≡ g

-- Of runs on one gauge, with others behind them, all are the first on it,
first_are : (g : ℕ) (rs others : List Run) → All (RunOn g) rs → OtherFirst g others → first_on g (rs ++ others) ≡ rs
first_are g [] [] on other = refl
first_are g [] (s ∷ others) on other = rw (ne_eqb (gauge_at s) g other)
first_are g (r ∷ rs) others on other =
    rw (eq-eqb (gauge_at r) g on.0) (ap (λ (l : List Run). r ∷ l) (first_are g rs others on.1 other))

-- so that their pairs come before those of the others.
pub gauge_split : (g : ℕ) (rs others : List Run) → All (RunOn g) rs → OtherFirst g others
    → gauge_pairs (rs ++ others) ≡ union_pairs rs ++ gauge_pairs others
gauge_split g [] others on other = refl
gauge_split g (r ∷ rs) others on other =
    let row : List Run → List Run = λ l. union_row r.low 0 l in
    ap (λ (k : ℕ). row (first_on k (r ∷ (rs ++ others))) ++ gauge_pairs (rs ++ others)) on.0
    ∙ (λ i. row (first_are g (r ∷ rs) others on other i) ++ gauge_split g rs others on.1 other i)
    ∙ sym (append_assoc (row (r ∷ rs)) (union_pairs rs) (gauge_pairs others))

-- A row has a pair for each run, and the first on a gauge are at most all.
row_length : (low union : ℕ) (rs : List Run) → length (union_row low union rs) ≡ length rs
row_length low union [] = refl
row_length low union (r ∷ rs) = ap suc (row_length low (bit_or union r.set) rs)

first_few : (g : ℕ) (rs : List Run) → length (first_on g rs) ≤ length rs
first_few g [] = omega arith
first_few g (r ∷ rs) = by_test (eqb (gauge_at r) g) (λ e. rw e (omega (arith, first_few g rs))) (λ e. rw e (omega arith))

-- There are no more pairs than where all runs are on one gauge.
pub gauge_few : (rs : List Run) → length (gauge_pairs rs) ≤ length (union_pairs rs)
gauge_few [] = omega arith
gauge_few (r ∷ rs) =
    let first = first_on (gauge_at r) (r ∷ rs) in
    omega (
      arith,
      length-append (union_row r.low 0 first) (gauge_pairs rs),
      length-append (union_row r.low 0 (r ∷ rs)) (union_pairs rs),
      row_length r.low 0 first,
      row_length r.low 0 (r ∷ rs),
      first_few (gauge_at r) (r ∷ rs),
      gauge_few rs,
    )
