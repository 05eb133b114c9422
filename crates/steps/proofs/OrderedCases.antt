-- Cases that question 24 accepts ascend by their first codes, then by their last ones.
use Prim.Native.Nat.{ℕ, ◌<◌}
use mathlib.Core.Path.{◌≡◌}
use mathlib.Core.Logic.{◌⊎◌, inl, inr}
use mathlib.Core.List.{List, [], ◌∷◌}
use native.Mathlib.Omega.{arith}
use lib.Dec.{T}
use Rattle.basics.specs.Lists.{All}
use Rattle.basics.specs.Order.{pair_before}
use Rattle.basics.proofs.Sorted.{pair_before_lem, before_pair}
use Rattle.codes.specs.views.Codes.{symbol_code, compound_code, number_code}
use Rattle.decision.specs.Cases.{Case, symbols_case, compound_case, numbers_case}
use Rattle.decision.specs.Node.{Node, CaseEdge, end, switch, pair_node}
use Rattle.decision.specs.AcceptedGraph.{CaseBefore, LowAtMostHigh, CaseFields, Ascend}
use Rattle.decision.specs.views.CaseCodes.{case_low, case_high}
use Rattle.graph.specs.ReadGraph.{in_order}
use Rattle.graph.proofs.CaseOrder.{ascend_true}
use Rattle.number_search.specs.views.CodeCases.{CodesAscend}
use Rattle.steps.specs.views.CodeSteps.{OrderedNode}
use Rattle.steps.proofs.StepsAgree.{FieldsFit}

-- Ranges of codes of which the one begins before the other come in this order.
begins_before : (p q x y : ℕ) → p < x → T (pair_before p q x y)
begins_before p q x y h = before_pair p q x y (inl h)

-- A compound of a lower id, or of the same id and a lower arity, has a lower code.
compounds_before
    : (a n b m : ℕ) → n < 256 → T (pair_before a n b m)
    → T (pair_before (compound_code a n) (compound_code a n) (compound_code b m) (compound_code b m))
compounds_before a n b m small h = go (pair_before_lem a n b m h)
  where
    go
        : (a < b) ⊎ ((a ≡ b) × (n < m)) → T (pair_before (compound_code a n) (compound_code a n) (compound_code b m) (compound_code b m))
    go (inl l) = begins_before (compound_code a n) (compound_code a n) (compound_code b m) (compound_code b m) (omega arith)
    go (inr e) =
        begins_before (compound_code a n) (compound_code a n) (compound_code b m) (compound_code b m) (omega (arith, e.0, e.1))

-- Numbers' codes are in the order of the numbers.
numbers_before
    : (l h x y : ℕ) → T (pair_before l h x y) → T (pair_before (number_code l) (number_code h) (number_code x) (number_code y))
numbers_before l h x y k = before_pair (number_code l) (number_code h) (number_code x) (number_code y) (go (pair_before_lem l h x y k))
  where
    go
        : (l < x) ⊎ ((l ≡ x) × (h < y))
        → (number_code l < number_code x) ⊎ ((number_code l ≡ number_code x) × (number_code h < number_code y))
    go (inl k) = inl (omega arith)
    go (inr e) = inr (omega (arith, e.0), omega (arith, e.1))

-- A case before another is before it by its codes.
abbrev CodesBefore : Case → Case → Type 0
CodesBefore c d = T (pair_before (case_low c) (case_high c) (case_low d) (case_high d))

codes_before : (c d : Case) → CaseFields c → CaseFields d → LowAtMostHigh c → CaseBefore c d → CodesBefore c d
codes_before (symbols_case l u) (symbols_case x y) f g o h =
    begins_before (symbol_code l) (symbol_code u) (symbol_code x) (symbol_code y) (omega (arith, o, h))
codes_before (symbols_case l u) (compound_case b m) f g o h =
    begins_before (symbol_code l) (symbol_code u) (compound_code b m) (compound_code b m) (omega (arith, f.0))
codes_before (symbols_case l u) (numbers_case x y) f g o h =
    begins_before (symbol_code l) (symbol_code u) (number_code x) (number_code y) (omega (arith, f.0))
codes_before (compound_case a n) (symbols_case x y) f g o h = absurd h
codes_before (compound_case a n) (compound_case b m) f g o h = compounds_before a n b m f.1 h
codes_before (compound_case a n) (numbers_case x y) f g o h =
    begins_before (compound_code a n) (compound_code a n) (number_code x) (number_code y) (omega (arith, f.0, f.1))
codes_before (numbers_case l u) (symbols_case x y) f g o h = absurd h
codes_before (numbers_case l u) (compound_case b m) f g o h = absurd h
codes_before (numbers_case l u) (numbers_case x y) f g o h = numbers_before l u x y h

-- So cases that ascend ascend by their codes.
abbrev AllFields : List (CaseEdge ℕ) → Type 0
AllFields = All (λ (c : CaseEdge ℕ). CaseFields c.case)

before_all
    : (c : Case) (ds : List (CaseEdge ℕ)) → CaseFields c → AllFields ds → LowAtMostHigh c
    → All (λ (d : CaseEdge ℕ). CaseBefore c d.case) ds → All (λ (d : CaseEdge ℕ). CodesBefore c d.case) ds
before_all c [] f gs o hs = tt
before_all c (d ∷ ds) f gs o hs =
    (codes_before c d.case f gs.0 o hs.0, before_all c ds f gs.1 o hs.1)

codes_ascend
    : (cs : List (CaseEdge ℕ)) → AllFields cs → All (λ (c : CaseEdge ℕ). LowAtMostHigh c.case) cs → Ascend cs → CodesAscend cs
codes_ascend [] fs os h = tt
codes_ascend (c ∷ cs) fs os h =
    (before_all c.case cs fs.0 fs.1 os.0 h.0, codes_ascend cs fs.1 os.1 h.1)

pub node_ordered : (n : Node ℕ) → FieldsFit n → T (in_order n) → OrderedNode n
node_ordered (end l) f h = tt
node_ordered (switch n cs x y) f h = let o = ascend_true cs h in record { fields = f; ascend = codes_ascend cs f o.0 o.1 }
node_ordered (pair_node p q x y) f h = tt
