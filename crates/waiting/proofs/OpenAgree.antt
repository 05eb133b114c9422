-- In the cells of an accepted piece, which tests are not known is what the piece says.
use Prim.Native.Nat.{ℕ, ◌≤◌}
use mathlib.Core.Path.{◌≡◌, refl, ap, ◌∙◌}
use lib.Dec.{eqb}
use Rattle.terms.specs.Term.{Terms, unknown, never, symbol, numbers, compound}
use Rattle.terms.specs.Lookup.{Found, lacking, found, term_at}
use Rattle.terms.specs.Accepted.{AcceptedPiece}
use Rattle.terms.proofs.WellFormed.{finds_well_formed}
use Rattle.sheet_tests.specs.SheetTests.{Test, place, pair}
use Rattle.codes.specs.views.Codes.{unknown_run}
use Rattle.piece.specs.views.LaidOut.{piece_cells}
use Rattle.outcomes.proofs.HiddenPlaces as hidden
use Rattle.outcomes.proofs.FoundRuns.{run_unknown}
use Rattle.outcomes.proofs.LookFinds.{look_finds}
use Rattle.outcomes.proofs.PairTestsAgree.{pair_test_agrees}
use Rattle.decision.specs.Walk.{is_unknown, is_not_known, test_not_known}
use Rattle.waiting.specs.views.OpenTests.{open_cells}
use Rattle.rule_masks.specs.views.TestNumbers.{NearTest}

-- An unknown is found.
same_unknown : (f : Found) → hidden.is_unknown f ≡ is_unknown f
same_unknown lacking = refl
same_unknown (found unknown) = refl
same_unknown (found never) = refl
same_unknown (found (symbol a)) = refl
same_unknown (found (numbers a b)) = refl
same_unknown (found (compound a ts)) = refl

module _ (arity : ℕ) (piece : Terms) (accepted : AcceptedPiece arity piece) (few : arity ≤ 8) where
  pub open_agrees : (t : Test) → NearTest t → open_cells (piece_cells piece) t ≡ test_not_known piece t
  open_agrees (place n) near =
      ap (λ (k : ℕ). eqb k unknown_run) (look_finds arity piece accepted few n near)
      ∙ run_unknown (term_at piece n) (finds_well_formed piece accepted.well_formed 4 n)
      ∙ same_unknown (term_at piece n)
  open_agrees (pair p q) near = ap is_not_known (pair_test_agrees arity piece accepted few p q near.0 near.1)
