-- The cells of a term tell whether it is or holds record 35, for any number of levels below it and of arguments.
use Prim.Native.Nat.{ℕ, zero, suc, ◌+◌}
use mathlib.Core.Path.{◌≡◌, refl, ap, ap₂, ◌∙◌}
use mathlib.Core.Bool.{◌||◌}
use mathlib.Core.List.{List}
use native.Mathlib.Omega.{arith}
use borrow.Author.Tests.{ne_eqb}
use Rattle.places.specs.Numbering.{stride}
use Rattle.terms.specs.Term.{Term, Terms, count, unknown, never, symbol, numbers, compound, nil, cons}
use Rattle.terms.specs.Outcome.{holds_never, hold_never}
use Rattle.terms.specs.Filling.{WellFormed, WellFormeds}
use Rattle.terms.specs.Accepted.{Shallow, Shallows}
use Rattle.piece.proofs.Rooms.{no_arguments}
use Rattle.codes.specs.views.Codes.{symbol_code, number_code, compound_code, never_code, low_of, term_low}
use Rattle.codes.proofs.TermRuns.{term_low_lem}
use Rattle.basics.proofs.Booleans.{cond_true, is_true}
use Rattle.outcomes.specs.views.CompareCells.{is_compound, row_holds_never, holds_never_at, cell_holds_never}
use Rattle.outcomes.proofs.FoundRuns.{symbol_leaf, number_leaf, compound_code_lem}
use Rattle.outcomes.proofs.HoldsNeverSteps.{leaf_never}
use Rattle.outcomes.proofs.Held.{HeldRow, HeldShown, arity_told, held_run, held_arguments, held_first, held_others}

module _ (cells : List ℕ) where
  mutual
    -- A term,
    pub term_never
        : (t : Term) (below p : ℕ) → WellFormed t → Shallow t (suc below) → HeldShown cells t (suc below) p
        → holds_never_at cells below p (term_low t) ≡ holds_never t
    term_never unknown below p ok shallow held = leaf_never cells below p (symbol_code 0) refl
    term_never never below p ok shallow held = leaf_never cells below p never_code refl
    term_never (symbol a) below p ok shallow held =
        leaf_never cells below p (symbol_code a) (symbol_leaf a ok) ∙ ne_eqb (symbol_code a) never_code (λ e. omega arith)
    term_never (numbers a b) below p ok shallow held =
        leaf_never cells below p (number_code a) (number_leaf a)
        ∙ ne_eqb (number_code a) never_code (λ e. omega (arith, ok.0, ok.1))
    term_never (compound a ts) zero p ok shallow held = absurd (no_arguments ts ok.1 shallow.1)
    term_never (compound a ts) (suc below) p ok shallow held =
        let code = compound_code a (count ts) in
        cond_true (is_compound code) _ _ (is_true (compound_code_lem a (count ts) ok.0 ok.2))
        ∙ ap (λ (n : ℕ). row_holds_never (cell_holds_never cells below) (stride (suc below)) n (p + 1)) (arity_told a ts ok.2)
        ∙ row_never ts below (p + 1) ok.3 shallow.1 (held_arguments cells a ts below p ok.2 (held (λ h. h)))

    -- and a row of terms.
    row_never
        : (ts : Terms) (below p : ℕ) → WellFormeds ts → Shallows ts (suc below) → HeldRow cells ts (suc below) p
        → row_holds_never (cell_holds_never cells below) (stride (suc below)) (count ts) p ≡ hold_never ts
    row_never nil below p ok shallow held = refl
    row_never (cons t ts) below p ok shallow held =
        let first = held_first cells t ts (suc below) p held in
        ap₂ ◌||◌
        (ap (λ (run : ℕ). holds_never_at cells below p (low_of run)) (held_run cells t below p first)
        ∙ ap (holds_never_at cells below p) (term_low_lem t ok.0)
        ∙ term_never t below p ok.0 shallow.0 (λ shown. first))
        (row_never ts below (p + stride (suc below)) ok.1 shallow.1 (held_others cells t ts (suc below) p held))
