-- In the cells of an accepted piece, what happens at a node is what the piece says.
use Prim.Native.Nat.{ℕ, ◌≤◌}
use mathlib.Core.Path.{◌≡◌, refl, ap, ◌∙◌}
use mathlib.Core.Bool.{Bool, true, false, ◌||◌, cond}
use mathlib.Core.List.{List}
use lib.Dec.{eqb}
use borrow.Author.Tests.{ne_eqb}
use Rattle.basics.specs.Lists.{All}
use Rattle.terms.specs.Term.{Term, Terms, unknown, never, symbol, numbers, compound}
use Rattle.terms.specs.Lookup.{Found, lacking, found, term_at}
use Rattle.terms.specs.Outcome.{at_places}
use Rattle.terms.specs.Filling.{WellFormed}
use Rattle.terms.specs.Accepted.{AcceptedPiece}
use Rattle.terms.proofs.TermPlaces.{IfFound}
use Rattle.terms.proofs.WellFormed.{finds_well_formed}
use Rattle.codes.specs.views.Codes.{low_of, high_of, term_run, unknown_run}
use Rattle.codes.proofs.TermRuns.{term_low_lem, term_high_lem, run_some}
use Rattle.piece.specs.views.Cells.{found_run}
use Rattle.piece.specs.views.LaidOut.{piece_cells}
use Rattle.outcomes.proofs.HiddenPlaces.{is_unknown}
use Rattle.outcomes.proofs.FoundRuns.{run_unknown}
use Rattle.outcomes.proofs.LookFinds.{look_finds}
use Rattle.outcomes.proofs.PairTestsAgree.{pair_test_agrees}
use Rattle.decision.specs.Node.{Node, CaseEdge, end, switch, pair_node, follow}
use Rattle.decision.specs.AcceptedGraph.{CaseFields}
use Rattle.decision.specs.Path.{go_to, no_way, switch_step, by_comparison, pair_step, step_at}
use Rattle.number_search.specs.views.CodeCases.{follow_code}
use Rattle.steps.specs.views.CodeSteps.{run_step, step_cells, NearNode}
use Rattle.steps.proofs.CodeCases.{follow_codes}

-- The fields of a switch's cases are those of records.
abbrev pub FieldsFit : Node ℕ → Type 0
FieldsFit (end l) = Unit
FieldsFit (switch n cs x y) = All (λ (c : CaseEdge ℕ). CaseFields c.case) cs
FieldsFit (pair_node p q x y) = Unit

module _ (cs : List (CaseEdge ℕ)) (x y : ℕ) where
  -- A run that is there leads on: by unknown where it is an unknown's, else by the cases.
  leads_on
      : {n : ℕ} (run : ℕ) (b : Bool) → (run ≡ 0 → ⊥) → eqb run unknown_run ≡ b
      → cond b y (follow_code cs x (low_of run) (high_of run)) ≡ n → run_step cs x y run ≡ go_to n
  leads_on run b some is leads =
      (λ i. cond (ne_eqb run 0 some i) no_way (go_to (cond (is i) y (follow_code cs x (low_of run) (high_of run))))) ∙ ap go_to leads

  -- A known term leads where its codes do.
  known_leads
      : (t : Term) → All (λ (c : CaseEdge ℕ). CaseFields c.case) cs → WellFormed t → is_unknown (found t) ≡ false
      → run_step cs x y (term_run t) ≡ go_to (follow cs x t)
  known_leads t h ok known =
      leads_on (term_run t) false (run_some t) (run_unknown (found t) ok ∙ known)
      ((λ i. follow_code cs x (term_low_lem t ok i) (term_high_lem t ok i)) ∙ follow_codes cs x t h ok)

  -- So at a switch the run of what is found leads where the found does.
  switch_agrees
      : (f : Found) → All (λ (c : CaseEdge ℕ). CaseFields c.case) cs → IfFound WellFormed f
      → run_step cs x y (found_run f) ≡ switch_step cs x y f
  switch_agrees lacking h ok = refl
  switch_agrees (found unknown) h ok = refl
  switch_agrees (found never) h ok = known_leads never h ok refl
  switch_agrees (found (symbol a)) h ok = known_leads (symbol a) h ok refl
  switch_agrees (found (numbers a b)) h ok = known_leads (numbers a b) h ok refl
  switch_agrees (found (compound a ts)) h ok = known_leads (compound a ts) h ok refl

-- A run is 0 exactly where nothing is found.
abbrev is_lacking : Found → Bool
is_lacking lacking = true
is_lacking (found t) = false

run_lacking : (f : Found) → eqb (found_run f) 0 ≡ is_lacking f
run_lacking lacking = refl
run_lacking (found t) = ne_eqb (term_run t) 0 (run_some t)

pair_steps
    : (x y : ℕ) (f g : Found) → cond (is_lacking f || is_lacking g) no_way (by_comparison x y (at_places f g)) ≡ pair_step x y f g
pair_steps x y lacking g = refl
pair_steps x y (found t) lacking = refl
pair_steps x y (found t) (found u) = refl

module _ (arity : ℕ) (piece : Terms) (accepted : AcceptedPiece arity piece) (few : arity ≤ 8) where
  -- The step at a node.
  pub step_agrees : (node : Node ℕ) → NearNode node → FieldsFit node → step_cells (piece_cells piece) node ≡ step_at piece node
  step_agrees (end l) near fit = refl
  step_agrees (switch n cs x y) near fit =
      ap (run_step cs x y) (look_finds arity piece accepted few n near)
      ∙ switch_agrees cs x y (term_at piece n) fit (finds_well_formed piece accepted.well_formed 4 n)
  step_agrees (pair_node p q x y) near fit =
      let outcome = pair_test_agrees arity piece accepted few p q near.0 near.1 in
      let left = ap (λ (k : ℕ). eqb k 0) (look_finds arity piece accepted few p near.0) ∙ run_lacking (term_at piece p) in
      let right = ap (λ (k : ℕ). eqb k 0) (look_finds arity piece accepted few q near.1) ∙ run_lacking (term_at piece q) in
      (λ i. cond (left i || right i) no_way (by_comparison x y (outcome i))) ∙ pair_steps x y (term_at piece p) (term_at piece q)
