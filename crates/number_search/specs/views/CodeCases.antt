-- Where a run of codes leads at a switch: codes stand for what stands at a place, and for what a case takes.
use Rattle.std.specs.Prelude.{ℕ, Bool, ◌&&◌, List, [], ◌∷◌, T, leb}
use Rattle.basics.specs.Lists.{All}
use Rattle.basics.specs.Order.{pair_before}
use Rattle.decision.specs.Cases.{Case}
use Rattle.decision.specs.Narrowest.{best}
use Rattle.decision.specs.Node.{CaseEdge, leads_or}
use Rattle.decision.specs.AcceptedGraph.{CaseFields}
use Rattle.decision.specs.views.CaseCodes.{case_low, case_high}

-- "Record 44 becomes (wide low, wide high, ..) for a run of ids", "45 compound (wide id, arity, ..)", "record 46 becomes (gauge,
-- wide low, wide high, ..)": a case takes the terms whose codes lie from its first to its last, and so a run of codes that lies
-- there.
abbrev pub takes_codes : Case → ℕ → ℕ → Bool
takes_codes c low high = leb (case_low c) low && leb high (case_high c)

-- "The one with the highest low, then the lowest high."
abbrev pub narrower_codes : Case → Case → Bool
narrower_codes c d = pair_before (case_low d) (case_high c) (case_low c) (case_high d)

-- Where a run of codes leads at a switch: by the narrowest of the cases that take it, or by the "node for neither".
abbrev pub follow_code : List (CaseEdge ℕ) → ℕ → ℕ → ℕ → ℕ
follow_code cs neither low high =
    leads_or neither
    (best (λ (c : CaseEdge ℕ). takes_codes c.case low high) (λ (c d : CaseEdge ℕ). narrower_codes c.case d.case) cs)

-- "Number cases ascend by low, then high": cases ascend by their first codes, then by their last ones.
abbrev pub CodesAscend : List (CaseEdge ℕ) → Type 0
CodesAscend [] = Unit
CodesAscend (c ∷ cs) =
    All (λ (d : CaseEdge ℕ). T (pair_before (case_low c.case) (case_high c.case) (case_low d.case) (case_high d.case))) cs
    × CodesAscend cs

-- The cases of a switch in a graph that the counter accepts: their fields are those of records, and they ascend.
pub record CasesInOrder (cs : List (CaseEdge ℕ)) : Type 0 where
  pub fields : All (λ (c : CaseEdge ℕ). CaseFields c.case) cs
  pub ascend : CodesAscend cs
