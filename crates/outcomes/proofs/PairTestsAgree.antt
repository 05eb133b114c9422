-- In the cells of an accepted piece, an equality test has the outcome that it has in the piece.
use Prim.Native.Nat.{ℕ, suc, pred, ◌+◌, ◌≤◌, ◌<◌}
use mathlib.Core.Path.{◌≡◌, refl, ap, ap₂, sym, subst, ◌∙◌}
use mathlib.Core.Logic.{inr}
use native.Mathlib.Omega.{arith}
use borrow.Author.Tests.{ne_eqb}
use Rattle.places.specs.Numbering.{stride, levels_at}
use Rattle.places.proofs.Levels.{levels_range, levels_fit_row}
use Rattle.terms.specs.Term.{Term, Terms}
use Rattle.terms.specs.RuleTests.{both}
use Rattle.terms.specs.Lookup.{Found, lacking, found, term_at}
use Rattle.terms.specs.Outcome.{Outcome, contradicted, compare, at_places, pair_outcome}
use Rattle.terms.specs.Filling.{WellFormed}
use Rattle.terms.specs.Accepted.{AcceptedPiece, Shallow}
use Rattle.terms.proofs.TermPlaces.{IfFound}
use Rattle.terms.proofs.Unknown.{Hides}
use Rattle.terms.proofs.WellFormed.{finds_well_formed}
use Rattle.codes.specs.views.Codes.{term_run}
use Rattle.codes.proofs.TermRuns.{run_some}
use Rattle.piece.specs.views.Cells.{found_run}
use Rattle.piece.specs.views.LaidOut.{piece_cells}
use Rattle.outcomes.specs.views.CompareCells.{compare_at}
use Rattle.outcomes.specs.views.CellOutcome.{runs_outcome, pair_cells}
use Rattle.outcomes.proofs.FindWith.{find_with, nothing, finds_is, row_composes, nothing_stays, go_on}
use Rattle.outcomes.proofs.HiddenPlaces.{Stores, shown, hidden, stores_row}
use Rattle.outcomes.proofs.FoundShallow.{ShallowFound, finds_shallow}
use Rattle.outcomes.proofs.LookFinds.{cell_stored, look_finds}
use Rattle.outcomes.proofs.PairCells.{one_lacking, both_there}
use Rattle.outcomes.proofs.Held.{HeldShown}
use Rattle.outcomes.proofs.HeldTerms.{terms_compare}

-- Where the second place is lacking, the test is contradicted.
second_lacking : (a : ℕ) (x : Outcome) → runs_outcome a 0 x ≡ contradicted
second_lacking a x = sym (one_lacking a 0 x (inr refl))

-- The test at two runs is the test at what they are the runs of, where x is how two terms with these runs compare.
runs_agree
    : (f g : Found) (x : ℕ → ℕ → Outcome)
    → ((t u : Term) → f ≡ found t → g ≡ found u → x (term_run t) (term_run u) ≡ compare t u)
    → runs_outcome (found_run f) (found_run g) (x (found_run f) (found_run g)) ≡ at_places f g
runs_agree lacking g x compared = refl
runs_agree (found t) lacking x compared = second_lacking (term_run t) _
runs_agree (found t) (found u) x compared =
    both_there (term_run t) (term_run u) _ (run_some t) (ne_eqb (term_run u) 0 (run_some u)) ∙ compared t u refl refl

-- A term that is found and hides nothing is stored.
shown_stored : {f s : Found} → Stores f s → (t : Term) → f ≡ found t → (Hides t → ⊥) → s ≡ found t
shown_stored (shown f) t is shows = is
shown_stored (hidden u h) t is shows = let same : u ≡ t = cc in absurd (shows (subst Hides same h))

module _ (arity : ℕ) (piece : Terms) (accepted : AcceptedPiece arity piece) (few : arity ≤ 8) where
  module _ (p : ℕ) (inside : p < 680) (t : Term) (at_p : term_at piece p ≡ found t) where
    -- The levels of a place are one more than those below it.
    levels : levels_at p ≡ suc (pred (levels_at p))
    levels = omega (arith, levels_range 4 p (omega arith))

    -- A term that hides nothing is held by the cells from its place on.
    held : HeldShown (piece_cells piece) t (suc (pred (levels_at p))) p
    held shows m near =
        let stored = shown_stored (stores_row piece 4 p) t (sym (finds_is piece 4 p) ∙ at_p) shows in
        let near_p : m < stride (levels_at p) = omega (arith, ap stride levels) in
        cell_stored arity piece accepted few (p + m) (omega (arith, levels_fit_row 4 p 8 inside))
        ∙ ap found_run
        (row_composes nothing nothing_stays piece 4 p m near_p
        ∙ ap (go_on (λ u. find_with nothing u (levels_at p) m)) stored
        ∙ ap (λ l. find_with nothing t l m) levels)

    -- It is shallow enough for its levels.
    shallow : Shallow t (suc (pred (levels_at p)))
    shallow =
        subst (Shallow t) levels
        (subst (λ f. ShallowFound f (levels_at p)) at_p (finds_shallow piece 4 p accepted.shallow))

    -- It is well-formed.
    well_formed_lem : WellFormed t
    well_formed_lem = subst (IfFound WellFormed) at_p (finds_well_formed piece accepted.well_formed 4 p)

  -- An equality test on the cells of an accepted piece is the equality test of the piece.
  pub pair_test_agrees
      : (p q : ℕ) → p < 680 → q < 680 → pair_cells (piece_cells piece) p q ≡ pair_outcome piece (both p q)
  pair_test_agrees p q inside inside-q =
      let cells = piece_cells piece in
      let below = pred (levels_at p) in
      let other = pred (levels_at q) in
      let compared = compare_at cells below other p q in
      ap₂ (λ a b. runs_outcome a b (compared a b)) (look_finds arity piece accepted few p inside)
      (look_finds arity piece accepted few q inside-q)
      ∙ runs_agree (term_at piece p) (term_at piece q) compared
      (λ t u at_p at-q.
      terms_compare cells t u below other p q (well_formed_lem p inside t at_p) (well_formed_lem q inside-q u at-q)
      (shallow p inside t at_p) (shallow q inside-q u at-q) (held p inside t at_p) (held q inside-q u at-q))
