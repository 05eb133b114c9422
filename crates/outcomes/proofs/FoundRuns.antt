-- The runs of what stands at a place: those of an unknown, of what hides the places below it, and of compounds.
use Prim.Native.Nat.{ℕ, ◌≤◌, ◌<◌}
use mathlib.Core.Path.{◌≡◌, refl, subst}
use mathlib.Core.Bool.{true, false}
use mathlib.Core.Logic.{◌⊎◌, inl, inr}
use native.Mathlib.Omega.{arith}
use lib.Dec.{T, leb, ltb, eqb, le→leb, lt→ltb}
use borrow.Author.Tests.{le-leb, lt-leb, le-ltb, lt-ltb, ne_eqb, leb-true, leb-false}
use Rattle.basics.proofs.Booleans.{true_both}
use Rattle.terms.specs.Term.{Term, unknown, never, symbol, numbers, compound, Wide}
use Rattle.terms.specs.Lookup.{Found, lacking, found}
use Rattle.terms.specs.Filling.{WellFormed}
use Rattle.terms.proofs.TermPlaces.{IfFound}
use Rattle.codes.specs.views.Codes.{symbol_code, number_code, compound_code, never_code, term_low, term_run, unknown_run}
use Rattle.codes.proofs.TermRuns.{term_low_lem}
use Rattle.piece.specs.views.Cells.{found_run}
use Rattle.outcomes.specs.views.Look.{hidden_below}
use Rattle.outcomes.specs.views.CompareCells.{is_compound, NarrowCode, NarrowRun}
use Rattle.outcomes.proofs.Climbing.{hides_nothing}
use Rattle.outcomes.proofs.HiddenPlaces.{is_unknown, hidden_under}

-- Nothing but an unknown has its run.
pub run_unknown : (f : Found) → IfFound WellFormed f → eqb (found_run f) unknown_run ≡ is_unknown f
run_unknown lacking ok = refl
run_unknown (found unknown) ok = refl
run_unknown (found never) ok = refl
run_unknown (found (symbol a)) ok = ne_eqb (term_run (symbol a)) unknown_run (λ e. omega arith)
run_unknown (found (numbers a b)) ok = ne_eqb (term_run (numbers a b)) unknown_run (λ e. omega (arith, ok.0, ok.1))
run_unknown (found (compound a ts)) ok = ne_eqb (term_run (compound a ts)) unknown_run (λ e. omega (arith, ok.0, ok.2))

-- What is hidden below has the run of what hides it.
pub run_hidden : (f : Found) → IfFound WellFormed f → hidden_below (found_run f) ≡ found_run (hidden_under f)
run_hidden lacking ok = refl
run_hidden (found unknown) ok = refl
run_hidden (found never) ok = refl
run_hidden (found (symbol a)) ok =
    hides_nothing (term_run (symbol a)) (λ e. omega arith) (ne_eqb (term_run (symbol a)) never_code (λ e. omega arith))
run_hidden (found (numbers a b)) ok =
    hides_nothing (term_run (numbers a b)) (λ e. omega (arith, ok.0, ok.1))
    (ne_eqb (term_run (numbers a b)) never_code (λ e. omega (arith, ok.0, ok.1)))
run_hidden (found (compound a ts)) ok =
    hides_nothing (term_run (compound a ts)) (λ e. omega (arith, ok.0, ok.2))
    (ne_eqb (term_run (compound a ts)) never_code (λ e. omega (arith, ok.0, ok.2)))

-- A code before the first of compounds or from the first of numbers on is no compound's,
pub a_leaf : (a : ℕ) → (a < compound_code 0 0) ⊎ (leb (number_code 0) a ≡ true) → is_compound a ≡ false
a_leaf a (inl low) = rw (lt-leb (compound_code 0 0) a low)
a_leaf a (inr high) =
    let number = leb-true (number_code 0) a high in
    rw (le-leb (compound_code 0 0) a (omega arith), le-ltb a (number_code 0) number)

-- and one between them is.
pub a_compound_lem : (a : ℕ) → compound_code 0 0 ≤ a → leb (number_code 0) a ≡ false → T (is_compound a)
a_compound_lem a low high =
    let below = leb-false (number_code 0) a high in
    true_both (leb (compound_code 0 0) a) (ltb a (number_code 0)) (le→leb (compound_code 0 0) a low)
    (lt→ltb a (number_code 0) below)

-- A symbol has no compound's code.
pub symbol_leaf : (a : ℕ) → Wide a → is_compound (symbol_code a) ≡ false
symbol_leaf a ok = rw (lt-leb (compound_code 0 0) (symbol_code a) (omega arith))

-- Nor has a number.
pub number_leaf : (a : ℕ) → is_compound (number_code a) ≡ false
number_leaf a =
    rw (le-leb (compound_code 0 0) (number_code a) (omega arith), le-ltb (number_code a) (number_code 0) (omega arith))

-- A compound has.
pub compound_code_lem : (a n : ℕ) → Wide a → n ≤ 4 → is_compound (compound_code a n) ≡ true
compound_code_lem a n ok few =
    rw
    (le-leb (compound_code 0 0) (compound_code a n) (omega arith), lt-ltb (compound_code a n) (number_code 0) (omega arith))

-- The arity in a compound's code is at most 4.
code_arity : (t : Term) → WellFormed t → NarrowCode (term_low t)
code_arity unknown ok h = absurd h
code_arity never ok h = absurd h
code_arity (symbol a) ok h = absurd (subst T (symbol_leaf a ok) h)
code_arity (numbers a b) ok h = absurd (subst T (number_leaf a) h)
code_arity (compound a ts) ok h = omega (arith, ok.2)

-- So it is in the run of what is found.
pub narrow_found : (f : Found) → IfFound WellFormed f → NarrowRun (found_run f)
narrow_found lacking ok = λ h. absurd h
narrow_found (found t) ok = rw (term_low_lem t ok) (code_arity t ok)
