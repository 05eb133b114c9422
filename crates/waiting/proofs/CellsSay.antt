-- What the cells of a piece say: which tests are not known, what each rule's tests come to, and where spans of several numbers
-- stand. Those of an accepted piece say so; no law here asks that its numbers are known exactly.
use Prim.Native.Nat.{ℕ, suc, ◌≤◌, ◌<◌}
use mathlib.Core.Path.{◌≡◌, refl, sym, ap, subst, ◌∙◌}
use mathlib.Core.Bool.{Bool, true, false, ◌||◌, cond}
use mathlib.Core.List.{List}
use native.Mathlib.Omega.{arith}
use borrow.Author.Tests.{le-leb}
use lib.Dec.{eqb, leb}
use lib.ListN.{length, get_or}
use Rattle.places.specs.Numbering.{parent_at}
use Rattle.basics.specs.Lists.{All, Mem}
use Rattle.basics.proofs.Booleans.{cond_true, cond_by}
use Rattle.terms.specs.Term.{Terms, numbers}
use Rattle.terms.specs.Pattern.{Patterns}
use Rattle.terms.specs.Lookup.{found, term_at}
use Rattle.terms.specs.Filling.{WellFormed}
use Rattle.terms.specs.Accepted.{AcceptedRule, AcceptedPiece}
use Rattle.terms.specs.Answer.{rule_at}
use Rattle.terms.proofs.TermPlaces.{IfFound}
use Rattle.terms.proofs.WellFormed.{finds_well_formed}
use Rattle.sheet.specs.views.Noted.{rule_notes}
use Rattle.sheet_tests.specs.SheetTests.{Test, place, sheet_tests}
use Rattle.codes.specs.views.Codes.{term_run, unknown_run, never_code}
use Rattle.codes.proofs.TermRuns.{run_some}
use Rattle.piece.specs.views.Cells.{found_run}
use Rattle.piece.specs.views.LaidOut.{piece_cells}
use Rattle.outcomes.specs.views.Look.{nearest_cell, hidden_below, look}
use Rattle.outcomes.proofs.FoundRuns.{run_unknown, run_hidden}
use Rattle.outcomes.proofs.LookFinds.{look_finds}
use Rattle.decision.specs.Walk.{is_not_known, is_contradicted, test_not_known, rule_tests_where}
use Rattle.rule_masks.specs.declared.Masks.{Masks}
use Rattle.rule_masks.specs.views.TestNumbers.{NearTest}
use Rattle.rule_masks.specs.views.RuleMasks.{notes_masks}
use Rattle.rule_masks.proofs.MasksRight.{masks_right}
use Rattle.waiting.specs.views.OpenTests.{open_cells}
use Rattle.waiting.specs.views.SpanTests.{is_span}
use Rattle.waiting.proofs.OpenAgree.{open_agrees}

module _ (rules : List Patterns) (piece : Terms) where
  -- The tests of rule i that are not known, and those that are contradicted.
  abbrev pub rule_masks : ℕ → Masks
  rule_masks i = record {
    unknown = rule_tests_where rules piece i is_not_known;
    contradicted = rule_tests_where rules piece i is_contradicted;
  }

  pub record CellsSay (cells : List ℕ) : Type 0 where
    pub unknowns : (t : Test) → Mem t (sheet_tests rules) → open_cells cells t ≡ test_not_known piece t
    pub outcomes : (i : ℕ) → i < length rules → notes_masks (sheet_tests rules) cells (rule_notes (rule_at rules (suc i))) ≡ rule_masks i
    pub spans : (n low high : ℕ) → Mem (place n) (sheet_tests rules) → term_at piece n ≡ found (numbers low high)
        → (low ≡ high → ⊥) → is_span (get_or cells n 0) ≡ true

-- What is hidden hides the same below it.
hidden_again : (run : ℕ) → hidden_below (hidden_below run) ≡ hidden_below run
hidden_again run =
    let hides = eqb run unknown_run || eqb run never_code in
    cond_by (λ x. hidden_below x ≡ x) hides (λ h. cond_true hides run 0 h) (λ h. refl)

-- What stands at a place and hides nothing is in its own cell.
own_cell
    : (cells : List ℕ) (n : ℕ) {run : ℕ} → look cells n ≡ run → (run ≡ 0 → ⊥) → hidden_below run ≡ 0 → get_or cells n 0 ≡ run
own_cell cells n {run} e some shows = go (eqb (get_or cells n 0) 0) e
  where
    above : ℕ
    above = nearest_cell 3 cells (parent_at n)

    go : (b : Bool) → cond b (hidden_below above) (get_or cells n 0) ≡ run → get_or cells n 0 ≡ run
    go true k = absurd (some (sym k ∙ sym (hidden_again above) ∙ ap hidden_below k ∙ shows))
    go false k = k

-- The run of several numbers is a span.
several : (a b : ℕ) → WellFormed (numbers a b) → (a ≡ b → ⊥) → is_span (term_run (numbers a b)) ≡ true
several a b formed apart =
    ap (λ (c : Bool). cond c false (leb 0x100000000 (term_run (numbers a b)))) (run_unknown (found (numbers a b)) formed)
    ∙ le-leb 0x100000000 (term_run (numbers a b)) (omega (arith, formed.0))

module _ (arity : ℕ) (rules : List Patterns) (few : arity ≤ 8) (accepted : All (AcceptedRule arity) rules)
    (few_tests : length (sheet_tests rules) ≤ 64) (near : (t : Test) → Mem t (sheet_tests rules) → NearTest t) (piece : Terms)
    (ok : AcceptedPiece arity piece) where
  abbrev cells : List ℕ
  cells = piece_cells piece

  -- The cell of a place with a span of several numbers.
  span_cell
      : (n low high : ℕ) → n < 680 → term_at piece n ≡ found (numbers low high) → (low ≡ high → ⊥)
      → is_span (get_or cells n 0) ≡ true
  span_cell n low high inside stands apart =
      let formed : WellFormed (numbers low high) =
      subst (IfFound WellFormed) stands (finds_well_formed piece ok.well_formed 4 n) in
      let span = several low high formed apart in
      ap is_span
      (own_cell cells n (look_finds arity piece ok few n inside ∙ ap found_run stands) (run_some (numbers low high))
      (run_hidden (found (numbers low high)) formed))
      ∙ span

  pub cells_say : CellsSay rules piece cells
  cells_say = record {
    unknowns = λ t m. open_agrees arity piece ok few t (near t m);
    outcomes = λ i inside. masks_right arity rules few accepted few_tests piece ok i inside;
    spans = λ n low high m stands apart. span_cell n low high (near (place n) m) stands apart;
  }
