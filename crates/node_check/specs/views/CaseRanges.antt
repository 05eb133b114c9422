-- The cases of a switch as ranges of codes: a case takes the terms whose codes lie from its first to its last. Cases ascend where
-- the rank of each, its two codes as one number, exceeds the end of the one before.
use Rattle.std.specs.Prelude.{ℕ, ◌+◌, ◌*◌, Bool, ◌&&◌, List, Result, leb, ltb}
use Rattle.records.specs.Reading.{Reading, took}
use Rattle.records.specs.Refusals.{reading_in}
use Rattle.records.specs.declared.refusal.Refusal.{Refusal}
use Rattle.terms.specs.Term.{on_gauge}
use Rattle.codes.specs.views.Codes.{symbol_code, compound_code, number_code}
use Rattle.decision.specs.Cases.{Case, symbols_case, compound_case, numbers_case}
use Rattle.decision.specs.Node.{CaseEdge}
use Rattle.decision.specs.views.CaseCodes.{case_low, case_high}
use Rattle.graph.specs.declared.CaseRecord.{CaseRecord}
use Rattle.graph.specs.declared.CaseRecord.TheVariants.{Symbols, Compound, Numbers}
use Rattle.node_check.specs.declared.CaseRange.{CaseRange}
use Rattle.node_check.specs.declared.CasesFound as given
use Rattle.graph.specs.ReadGraph.{all_inside, cases_ascend}

-- The first and the last code of a range as one number.
abbrev pub rank_of : ℕ → ℕ → ℕ
rank_of first last = first * 0x1_0000_0000 + last

-- What the rank of the next case must exceed: "number cases ascend by low, then high, and may overlap", while no id is in two
-- cases, so that what follows symbols or a compound begins behind their last code.
abbrev pub case_end : Case → ℕ
case_end (symbols_case l h) = rank_of (symbol_code h) 0xffff_ffff
case_end (compound_case a n) = rank_of (compound_code a n) 0xffff_ffff
case_end (numbers_case l h) = rank_of (number_code l) (number_code h)

-- A range of codes comes after an end, and its first code is at most its last.
abbrev pub comes_after : ℕ → ℕ → ℕ → Bool
comes_after end first last = ltb end (rank_of first last) && leb first last

abbrev pub codes_to : ℕ → ℕ → ℕ → ℕ → ℕ → CaseRange
codes_to first last end n bytes =
    record { first = first; last = last; end = end; node = n; bytes = bytes }

-- The range of a case's record, with the node that it leads to and its bytes.
abbrev pub range_to : Case → ℕ → ℕ → CaseRange
range_to c n bytes = codes_to (case_low c) (case_high c) (case_end c) n bytes

abbrev pub range_of : CaseRecord → CaseRange
range_of (Symbols l h n) = range_to (symbols_case l h) n 7
range_of (Compound a k n) = range_to (compound_case a k) n 6
range_of (Numbers l h n g) = range_to (numbers_case (on_gauge g l) (on_gauge g h)) n 8

-- What one pass over the cases of a switch finds: are their nodes inside, do they ascend?
pub record CasesFound : Type 0 where
  pub inside : Bool
  pub ascend : Bool

abbrev pub cases_found : ℕ → List (CaseEdge ℕ) → CasesFound
cases_found nodes cs = record { inside = all_inside nodes cs; ascend = cases_ascend cs }

abbrev pub checked_cases : Result given.CasesFound Refusal → Reading CasesFound
checked_cases r = reading_in (λ (c : given.CasesFound). took c.bytes (record { inside = c.inside; ascend = c.ascend })) r
