-- A case of a switch as a run of codes: the lowest and the highest code of a term that it takes.
use Rattle.std.specs.Prelude.{ℕ}
use Rattle.codes.specs.views.Codes.{symbol_code, compound_code, number_code}
use Rattle.decision.specs.Cases.{Case, symbols_case, compound_case, numbers_case}

abbrev pub case_low : Case → ℕ
case_low (symbols_case l h) = symbol_code l
case_low (compound_case a n) = compound_code a n
case_low (numbers_case l h) = number_code l

abbrev pub case_high : Case → ℕ
case_high (symbols_case l h) = symbol_code h
case_high (compound_case a n) = compound_code a n
case_high (numbers_case l h) = number_code h
