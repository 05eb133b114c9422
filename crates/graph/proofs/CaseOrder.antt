-- The order of a switch's cases (question 24): neighbours in order are all in order.
use Prim.Native.Nat.{ℕ}
use mathlib.Core.Bool.{◌&&◌}
use mathlib.Core.List.{List, [], ◌∷◌}
use native.Mathlib.Omega.{arith}
use lib.Dec.{T, ltb→lt, lt→ltb, leb→le, le→leb}
use Rattle.basics.specs.Lists.{All}
use Rattle.basics.proofs.Booleans.{both_true, true_both}
use Rattle.basics.proofs.ListLaws.{all_map}
use Rattle.basics.proofs.Sorted.{pair_transitive}
use Rattle.sheet_tests.specs.SheetTests.{pair}
use Rattle.sheet_tests.proofs.TestOrder.{before_order}
use Rattle.decision.specs.Cases.{Case, symbols_case, compound_case, numbers_case}
use Rattle.decision.specs.Node.{CaseEdge}
use Rattle.decision.specs.AcceptedGraph.{CaseBefore, LowAtMostHigh, Ascend}
use Rattle.graph.specs.ReadGraph.{case_before, low_at_most_high, before_next, cases_ascend}

-- The test of two cases says whether the one comes before the other.
before_true : (c d : Case) → T (case_before c d) → CaseBefore c d
before_true (symbols_case l u) (symbols_case x y) h = ltb→lt u x h
before_true (symbols_case l u) (compound_case b m) h = tt
before_true (symbols_case l u) (numbers_case x y) h = tt
before_true (compound_case a n) (symbols_case x y) h = h
before_true (compound_case a n) (compound_case b m) h = h
before_true (compound_case a n) (numbers_case x y) h = tt
before_true (numbers_case l u) (symbols_case x y) h = h
before_true (numbers_case l u) (compound_case b m) h = h
before_true (numbers_case l u) (numbers_case x y) h = h

true_before : (c d : Case) → CaseBefore c d → T (case_before c d)
true_before (symbols_case l u) (symbols_case x y) h = lt→ltb u x h
true_before (symbols_case l u) (compound_case b m) h = tt
true_before (symbols_case l u) (numbers_case x y) h = tt
true_before (compound_case a n) (symbols_case x y) h = h
true_before (compound_case a n) (compound_case b m) h = h
true_before (compound_case a n) (numbers_case x y) h = tt
true_before (numbers_case l u) (symbols_case x y) h = h
true_before (numbers_case l u) (compound_case b m) h = h
true_before (numbers_case l u) (numbers_case x y) h = h

-- So does the test of a case's range.
low_true : (c : Case) → T (low_at_most_high c) → LowAtMostHigh c
low_true (symbols_case l u) h = leb→le l u h
low_true (compound_case a n) h = tt
low_true (numbers_case l u) h = leb→le l u h

true_low : (c : Case) → LowAtMostHigh c → T (low_at_most_high c)
true_low (symbols_case l u) h = le→leb l u h
true_low (compound_case a n) h = tt
true_low (numbers_case l u) h = le→leb l u h

-- A case before another one, of which low is at most high, is before all that come after that one.
before_transitive : (c d e : Case) → LowAtMostHigh d → CaseBefore c d → CaseBefore d e → CaseBefore c e
before_transitive (symbols_case p q) (symbols_case l u) (symbols_case x y) o h k = omega arith
before_transitive (symbols_case p q) (compound_case b m) (symbols_case x y) o h k = absurd k
before_transitive (symbols_case p q) (numbers_case l u) (symbols_case x y) o h k = absurd k
before_transitive (symbols_case p q) d (compound_case x n) o h k = tt
before_transitive (symbols_case p q) d (numbers_case x y) o h k = tt
before_transitive (compound_case a n) (symbols_case x y) e o h k = absurd h
before_transitive (compound_case a n) (compound_case b m) (symbols_case x y) o h k = absurd k
before_transitive (compound_case a n) (compound_case b m) (compound_case x i) o h k =
    before_order.transitive (pair a n) (pair b m) (pair x i) h k
before_transitive (compound_case a n) (compound_case b m) (numbers_case x y) o h k = tt
before_transitive (compound_case a n) (numbers_case l u) (symbols_case x y) o h k = absurd k
before_transitive (compound_case a n) (numbers_case l u) (compound_case x i) o h k = absurd k
before_transitive (compound_case a n) (numbers_case l u) (numbers_case x y) o h k = tt
before_transitive (numbers_case p q) (symbols_case x y) e o h k = absurd h
before_transitive (numbers_case p q) (compound_case b m) e o h k = absurd h
before_transitive (numbers_case p q) (numbers_case l u) (symbols_case x y) o h k = absurd k
before_transitive (numbers_case p q) (numbers_case l u) (compound_case x i) o h k = absurd k
before_transitive (numbers_case p q) (numbers_case l u) (numbers_case x y) o h k = pair_transitive p q l u x y h k

-- Low is at most high in each case.
abbrev pub AllLow : List (CaseEdge ℕ) → Type 0
AllLow = All (λ (c : CaseEdge ℕ). LowAtMostHigh c.case)

-- A case before the first of ascending cases is before them all.
before_all
    : (c : Case) (ds : List (CaseEdge ℕ)) → AllLow ds → Ascend ds → T (before_next c ds)
    → All (λ (d : CaseEdge ℕ). CaseBefore c d.case) ds
before_all c [] lows ups h = tt
before_all c (d ∷ ds) lows ups h =
    let first = before_true c d.case h in (
      first,
      all_map (λ (e : CaseEdge ℕ). CaseBefore d.case e.case) (λ (e : CaseEdge ℕ). CaseBefore c e.case)
          (λ e k. before_transitive c d.case e.case lows.0 first k) ds ups.0,
    )

all_before
    : (c : Case) (ds : List (CaseEdge ℕ)) → All (λ (d : CaseEdge ℕ). CaseBefore c d.case) ds → T (before_next c ds)
all_before c [] h = tt
all_before c (d ∷ ds) h = true_before c d.case h.0

-- Where the test of neighbours is passed, all cases ascend.
pub ascend_true : (cs : List (CaseEdge ℕ)) → T (cases_ascend cs) → AllLow cs × Ascend cs
ascend_true [] h = (tt, tt)
ascend_true (c ∷ cs) h =
    let p = both_true (low_at_most_high c.case && before_next c.case cs) (cases_ascend cs) h in
    let q = both_true (low_at_most_high c.case) (before_next c.case cs) p.0 in
    let rest = ascend_true cs p.1 in
    ((low_true c.case q.0, rest.0), (before_all c.case cs rest.0 rest.1 q.1, rest.1))

-- Where all cases ascend, the test of neighbours is passed.
pub true_ascend : (cs : List (CaseEdge ℕ)) → AllLow cs → Ascend cs → T (cases_ascend cs)
true_ascend [] lows ups = tt
true_ascend (c ∷ cs) lows ups =
    true_both (low_at_most_high c.case && before_next c.case cs) (cases_ascend cs)
    (true_both (low_at_most_high c.case) (before_next c.case cs) (true_low c.case lows.0) (all_before c.case cs ups.0))
    (true_ascend cs lows.1 ups.1)
