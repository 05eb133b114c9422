-- A run as one number keeps its two ends, and the run of a term that is well-formed has a code.
use Prim.Native.Nat.{ℕ, ◌+◌, ◌-◌, ◌/◌, ◌%◌, ◌≤◌, ◌<◌}
use mathlib.Core.Path.{◌≡◌, ◌∙◌}
use native.Mathlib.Omega.{arith}
use Rattle.terms.specs.Term.{Term, unknown, never, symbol, numbers, compound}
use Rattle.terms.specs.Filling.{WellFormed}
use Rattle.codes.specs.views.Codes.{run_of, low_of, high_of, term_low, term_high, term_run}

module _ (low high : ℕ) (ordered : low ≤ high) (fits : high < 0x100000000) where
  pub low_kept : low_of (run_of low high) ≡ low
  low_kept = omega arith

  pub high_kept : high_of (run_of low high) ≡ high
  high_kept =
      let further : run_of low high / 0x100000000 ≡ high - low = omega arith in
      (rw (low_kept, further)) ∙ last
    where
      last : (low + (high - low)) % 0x100000000 ≡ high
      last = omega arith

-- No code of a term takes more than 32 bits.
high_fits : (t : Term) → WellFormed t → term_high t < 0x100000000
high_fits unknown ok = omega arith
high_fits never ok = omega arith
high_fits (symbol a) ok = omega arith
high_fits (numbers a b) ok = omega (arith, ok.1)
high_fits (compound a ts) ok = omega (arith, ok.0, ok.2)

-- The lowest is at most the highest.
pub ends_ordered : (t : Term) → WellFormed t → term_low t ≤ term_high t
ends_ordered unknown ok = omega arith
ends_ordered never ok = omega arith
ends_ordered (symbol a) ok = omega arith
ends_ordered (numbers a b) ok = omega (arith, ok.0)
ends_ordered (compound a ts) ok = omega arith

-- So the run of a term has the term's codes as its ends.
module _ (t : Term) (ok : WellFormed t) where
  pub term_low_lem : low_of (term_run t) ≡ term_low t
  term_low_lem = low_kept (term_low t) (term_high t) (ends_ordered t ok) (high_fits t ok)

  pub term_high_lem : high_of (term_run t) ≡ term_high t
  term_high_lem = high_kept (term_low t) (term_high t) (ends_ordered t ok) (high_fits t ok)

-- No term has the run 0.
pub run_some : (t : Term) → term_run t ≡ 0 → ⊥
run_some unknown e = omega arith
run_some never e = omega arith
run_some (symbol a) e = omega arith
run_some (numbers a b) e = omega arith
run_some (compound a ts) e = omega arith
