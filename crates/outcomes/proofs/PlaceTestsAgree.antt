-- In the cells of an accepted piece, a place test has the outcome that it has in the piece.
use Prim.Native.Nat.{ℕ, ◌≤◌, ◌<◌}
use mathlib.Core.Path.{◌≡◌, refl, ap, ◌∙◌}
use mathlib.Core.Bool.{◌&&◌, ◌||◌, cond}
use mathlib.Core.Logic.{inl, inr}
use native.Mathlib.Omega.{arith}
use Rattle.terms.specs.Term.{Term, Terms, count, unknown, never, symbol, numbers, compound}
use Rattle.terms.specs.RuleTests.{Want, a_symbol, a_number, a_compound, at}
use Rattle.terms.specs.Lookup.{Found, lacking, found, term_at}
use Rattle.terms.specs.Outcome.{Outcome, holds, not_known, contradicted, known, fits, at_place, place_outcome}
use Rattle.terms.specs.Accepted.{AcceptedPiece}
use Rattle.terms.specs.Filling.{WellFormed}
use Rattle.terms.proofs.Spans.{inside_number}
use Rattle.terms.proofs.TermPlaces.{IfFound}
use Rattle.terms.proofs.WellFormed.{finds_well_formed}
use Rattle.codes.specs.views.Codes.{symbol_code, number_code, compound_code, highest_code, never_code, want_low, want_high}
use Rattle.codes.specs.views.Codes.{low_of, high_of, term_low, term_high}
use Rattle.codes.proofs.CodeOrder.{in_order_lem, before}
use Rattle.codes.proofs.FitCodes.{WantFields, under, symbol_fits, compound_fits, never_fits}
use Rattle.codes.proofs.TermRuns.{term_low_lem, term_high_lem}
use Rattle.piece.specs.views.Cells.{found_run}
use Rattle.piece.specs.views.LaidOut.{piece_cells}
use Rattle.outcomes.specs.views.CellOutcome.{run_outcome, place_cells}
use Rattle.outcomes.proofs.RunOutcomes.{outside_contradicted, partly_not_known}
use Rattle.outcomes.proofs.LookFinds.{look_finds}

-- A want's outcome where what stands there has one of a run of codes.
abbrev outcome_at : Want → ℕ → ℕ → Outcome
outcome_at w x y = run_outcome (want_low w) (want_high w) x y

-- At an unknown a test is not known: no want holds at all codes, and each at one.
at_unknown_lem : (w : Want) → WantFields w → outcome_at w (symbol_code 0) highest_code ≡ not_known
at_unknown_lem (a_symbol l h) f =
    partly_not_known (symbol_code l) (symbol_code h) (symbol_code 0) highest_code (inr (omega (arith, f.1))) (omega (arith, f.0))
    (omega arith)
at_unknown_lem (a_number l h) f =
    partly_not_known (number_code l) (number_code h) (symbol_code 0) highest_code (inl (omega arith)) (omega arith)
    (omega arith)
at_unknown_lem (a_compound a n) f =
    partly_not_known (compound_code a n) (compound_code a n) (symbol_code 0) highest_code (inl (omega arith))
    (omega (arith, f.0, f.1)) (omega arith)

-- No want holds at code 0.
low_some : (w : Want) → 0 < want_low w
low_some (a_symbol l h) = omega arith
low_some (a_number l h) = omega arith
low_some (a_compound a n) = omega arith

-- At a span: a range as its numbers say, and "any other place test is contradicted".
at_span : (w : Want) (b c : ℕ) → WantFields w → outcome_at w (number_code b) (number_code c) ≡ fits w (numbers b c)
at_span (a_symbol l h) b c f =
    outside_contradicted (symbol_code l) (symbol_code h) (number_code b) (number_code c) (inr (omega (arith, f.1)))
    (inr (omega (arith, f.1)))
at_span (a_number l h) b c f =
    let k : ℕ = 0x3000000 in
    λ i. cond (in_order_lem k l b i && in_order_lem k c h i) holds (cond (before k c l i || before k h b i) contradicted not_known)
at_span (a_compound a n) b c f =
    outside_contradicted (compound_code a n) (compound_code a n) (number_code b) (number_code c) (inr (omega (arith, f.0, f.1)))
    (inr (omega (arith, f.0, f.1)))

-- What a want says of the codes that a term can have is what it says of the term.
term_agrees : (w : Want) (t : Term) → WantFields w → WellFormed t → outcome_at w (term_low t) (term_high t) ≡ fits w t
term_agrees w unknown fields ok = at_unknown_lem w fields
term_agrees w never fields ok = inside_number (want_low w) (want_high w) never_code never_code refl ∙ never_fits w fields
term_agrees w (symbol b) fields ok =
    inside_number (want_low w) (want_high w) (symbol_code b) (symbol_code b) refl ∙ symbol_fits w b fields ok
term_agrees w (numbers b c) fields ok = at_span w b c fields
term_agrees w (compound b ts) fields ok =
    let code = compound_code b (count ts) in
    inside_number (want_low w) (want_high w) code code refl ∙ compound_fits w b ts fields ok.0 ok.2

-- So it is at a place, where the piece has it or lacks it.
want_agrees
    : (w : Want) (f : Found) → WantFields w → IfFound WellFormed f
    → outcome_at w (low_of (found_run f)) (high_of (found_run f)) ≡ at_place (fits w) f
want_agrees w lacking fields ok =
    inside_number (want_low w) (want_high w) 0 0 refl ∙ ap known (under (want_low w) (want_high w) 0 (low_some w))
want_agrees w (found t) fields ok = (λ i. outcome_at w (term_low_lem t ok i) (term_high_lem t ok i)) ∙ term_agrees w t fields ok

-- A place test on the cells of an accepted piece is the place test of the piece.
pub place_test_agrees
    : (arity : ℕ) (piece : Terms) → AcceptedPiece arity piece → arity ≤ 8 → (w : Want) → WantFields w → (n : ℕ) → n < 680
    → place_cells (piece_cells piece) n (want_low w) (want_high w) ≡ place_outcome piece (at n w)
place_test_agrees arity piece accepted few w fields n inside =
    ap (λ (run : ℕ). outcome_at w (low_of run) (high_of run)) (look_finds arity piece accepted few n inside)
    ∙ want_agrees w (term_at piece n) fields (finds_well_formed piece accepted.well_formed 4 n)
