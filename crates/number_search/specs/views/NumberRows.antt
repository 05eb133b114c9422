-- Number cases in a row: "record 46 becomes (gauge, wide low, wide high, wide node)" has 8 bytes, so each begins 8 bytes behind the
-- one before.
use Rattle.std.specs.Prelude.{ℕ, zero, suc, ◌+◌, ◌*◌, ◌<◌, ◌≤◌, ◌≡◌, List, [], ◌∷◌, Option, Some, None, length, drop}
use Rattle.basics.specs.Lists.{Mem, All}
use Rattle.records.specs.Fields.{byte_at, wide_at}
use Rattle.terms.specs.Term.{on_gauge, gauge_of}
use Rattle.codes.specs.views.Codes.{number_code}
use Rattle.decision.specs.Cases.{numbers_case}
use Rattle.decision.specs.Node.{CaseEdge}
use Rattle.decision.specs.views.CaseCodes.{case_low, case_high}
use Rattle.graph.specs.ReadGraph.{edge, read_cases}
use Rattle.graph.specs.views.Rewriting.{IsTook, read_or}
use Rattle.node_check.specs.views.CaseRanges.{rank_of}
use Rattle.number_search.specs.views.CodeCases.{follow_code, CasesInOrder}

-- The codes of the low and the high of the case whose record begins at a position, both as one number, so that cases "ascend by
-- low, then high" as these numbers do, and the case with where it leads.
abbrev pub low_at : List ℕ → ℕ → ℕ
low_at s at = number_code (on_gauge (byte_at s (at + 1)) (wide_at s (at + 2)))

abbrev pub high_at : List ℕ → ℕ → ℕ
high_at s at = number_code (on_gauge (byte_at s (at + 1)) (wide_at s (at + 4)))

abbrev pub rank_at : List ℕ → ℕ → ℕ
rank_at s at = rank_of (low_at s at) (high_at s at)

abbrev pub numbers_at : List ℕ → ℕ → CaseEdge ℕ
numbers_at s at =
    let gauge = byte_at s (at + 1) in
    edge (numbers_case (on_gauge gauge (wide_at s (at + 2))) (on_gauge gauge (wide_at s (at + 4)))) (wide_at s (at + 6))

-- So many things, told by their numbers from 0 on.
abbrev pub firsts : {A : Type 0} → (ℕ → A) → ℕ → List A
firsts f zero = []
firsts f (suc n) = f 0 ∷ firsts (λ (i : ℕ). f (suc i)) n

-- So many number cases stand in a row from a position on, and ascend.
pub record NumberRow (s : List ℕ) (start count : ℕ) : Type 0 where
  pub inside : start + count * 8 ≤ length s
  pub bounded : (i : ℕ) → i < count → high_at s (start + i * 8) < 0x4000000
  pub ascend : (i j : ℕ) → i < j → j < count → rank_at s (start + i * 8) < rank_at s (start + j * 8)

-- So many of them come before a low and a high.
pub record CountBefore (s : List ℕ) (start count rank n : ℕ) : Type 0 where
  pub few : n ≤ count
  pub before : (i : ℕ) → i < n → rank_at s (start + i * 8) < rank
  pub others : (i : ℕ) → n ≤ i → i < count → rank ≤ rank_at s (start + i * 8)

-- They are all that is read from there, each on one gauge.
pub record NumbersRead (s : List ℕ) (start count : ℕ) : Type 0 where
  pub row : NumberRow s start count
  pub gauges : (i : ℕ) → i < count → gauge_of (low_at s (start + i * 8)) ≡ gauge_of (high_at s (start + i * 8))
  pub read : read_or [] (read_cases count (drop start s)) ≡ firsts (λ (i : ℕ). numbers_at s (start + i * 8)) count

-- So many cases of a switch stand from a position on.
pub record CasesStand (s : List ℕ) (start count : ℕ) : Type 0 where
  pub begins : start ≤ length s
  pub whole : IsTook (read_cases count (drop start s))
  pub ordered : CasesInOrder (read_or [] (read_cases count (drop start s)))

-- A case begins at most at the low, of those that do none begins higher, it is on no gauge below the high's, and none that begins
-- there ends at the high or above it: one that takes the codes begins lower. In a built graph none does, since all numbers of a
-- gauge that has cases are in runs.
pub record Missed (cs : List (CaseEdge ℕ)) (low high : ℕ) : Type 0 where
  pub begun : CaseEdge ℕ
  pub listed : Mem begun cs
  pub not_above : case_low begun.case ≤ low
  pub gauge_reached : gauge_of high ≤ gauge_of (case_low begun.case)
  pub highest : All (λ (d : CaseEdge ℕ). case_low d.case ≤ low → case_low d.case ≤ case_low begun.case) cs
  pub ended : All (λ (d : CaseEdge ℕ). case_low d.case ≡ case_low begun.case → case_high d.case < high) cs

-- What a search tells is so: where it names a node, the cases lead there, and it does not tell only where those that begin highest
-- end too low.
abbrev pub SoughtRight : List ℕ → ℕ → ℕ → ℕ → ℕ → ℕ → Option ℕ → Type 0
SoughtRight s start count low high neither (Some n) =
    follow_code (read_or [] (read_cases count (drop start s))) neither low high ≡ n
SoughtRight s start count low high neither None = Missed (read_or [] (read_cases count (drop start s))) low high
