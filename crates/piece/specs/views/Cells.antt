-- A piece laid out by place: for each place the run of codes that what stands there can have.
use Rattle.std.specs.Prelude.{ℕ, suc, pred, ◌+◌, List, set}
use Rattle.places.specs.Numbering.{stride}
use Rattle.terms.specs.Term.{Term, Terms, unknown, never, symbol, numbers, compound, nil, cons}
use Rattle.terms.specs.Lookup.{Found, lacking, found}
use Rattle.codes.specs.views.Codes.{term_run}

-- The run of what stands at a place, 0 where the piece lacks it: code 0 alone, which no term has.
abbrev pub found_run : Found → ℕ
found_run lacking = 0
found_run (found t) = term_run t

-- The cells after a term with so many levels below it is stored at place p, and after a row of terms from there on.
-- Nothing is stored below an unknown, nor below a reading that will never come.
abbrev mutual
  pub store_term : Term → ℕ → ℕ → List ℕ → List ℕ
  store_term unknown below p cells = set cells p (term_run unknown)
  store_term never below p cells = set cells p (term_run never)
  store_term (symbol a) below p cells = set cells p (term_run (symbol a))
  store_term (numbers a b) below p cells = set cells p (term_run (numbers a b))
  store_term (compound a ts) below p cells = store_terms ts (pred below) (p + 1) (set cells p (term_run (compound a ts)))

  pub store_terms : Terms → ℕ → ℕ → List ℕ → List ℕ
  store_terms nil below p cells = cells
  store_terms (cons t ts) below p cells = store_terms ts below (p + stride (suc below)) (store_term t below p cells)
