-- In the cells of an accepted piece, looking at a place gives the run of what stands there.
use Prim.Native.Nat.{ℕ, zero, suc, pred, ◌+◌, ◌-◌, ◌*◌, ◌≤◌, ◌<◌}
use mathlib.Core.Path.{◌≡◌, refl, ap, sym, subst, ◌∙◌}
use mathlib.Core.Bool.{cond}
use native.Mathlib.Nat.{mul_comm, zero-add}
use native.Mathlib.Decide.{ℕ_discrete, dec_lt}
use native.Mathlib.Omega.{arith}
use lib.ListN.{length, get_or, replicate, length-replicate, get_or-replicate, get_or-eq_default}
use lib.Dec.{eqb}
use borrow.Author.Tests.{eq-eqb, ne_eqb}
use Rattle.places.specs.Numbering.{stride, levels_at, parent_at}
use Rattle.places.proofs.Rows.{child_fit, stride_grows}
use Rattle.places.proofs.Levels.{levels_range}
use Rattle.places.proofs.Parents.{child_of_parent, parent_before, argument_without_parent}
use Rattle.terms.specs.Term.{Term, Terms, count}
use Rattle.terms.specs.Lookup.{Found, lacking, found, term_at}
use Rattle.terms.specs.Accepted.{AcceptedPiece}
use Rattle.terms.specs.Filling.{WellFormed}
use Rattle.terms.proofs.TermPlaces.{extent, extent_le, IfFound}
use Rattle.basics.proofs.Booleans.{cond_holds}
use Rattle.terms.proofs.WellFormed.{finds_well_formed}
use Rattle.codes.proofs.TermRuns.{run_some}
use Rattle.piece.specs.views.Cells.{found_run}
use Rattle.piece.specs.views.LaidOut.{empty_cells, piece_cells}
use Rattle.outcomes.specs.views.Look.{nearest_cell, hidden_below, look}
use Rattle.outcomes.specs.views.CompareCells.{Narrow}
use Rattle.outcomes.proofs.Climbing.{no_parent, has_cell, has_none}
use Rattle.outcomes.proofs.FindWith.{find_with, finds_with, nothing, finds_is, row_composes, hiding_stays, nothing_stays, go_on}
use Rattle.piece.proofs.StoredCells.{terms_length}
use Rattle.outcomes.proofs.Stored.{Empty, terms_stored}
use Rattle.outcomes.proofs.HiddenPlaces.{stores_row, first_same, hidden_under, under_hidden, or_else, or_nothing, child_found}
use Rattle.outcomes.proofs.FoundRuns.{run_hidden, narrow_found}

-- Nothing stands in the empty cells.
all_empty : Empty empty_cells 0 680
unfolding empty_cells
all_empty = record {
  there = omega (arith, length-replicate {A = ℕ} 680 0);
  none = λ n h. ap (λ (i : ℕ). get_or (replicate 680 0) i 0) (zero-add n) ∙ get_or-replicate 680 n 0 0 h;
}

module _ (piece : Terms) where
  -- What is stored at a place.
  abbrev pub stored_at : ℕ → Found
  stored_at n = finds_with nothing piece 4 n

  -- What the place above place n hides.
  abbrev hidden_at : ℕ → Found
  hidden_at n = cond (eqb (parent_at n) 680) lacking (hidden_under (term_at piece (parent_at n)))

  -- Nothing stands above an argument.
  above_none : (n : ℕ) → parent_at n ≡ 680 → hidden_at n ≡ lacking
  above_none n none = rw (eq-eqb (parent_at n) 680 none)

  -- Else the parent decides.
  above_some : (n : ℕ) → (parent_at n ≡ 680 → ⊥) → hidden_at n ≡ hidden_under (term_at piece (parent_at n))
  above_some n has = rw (ne_eqb (parent_at n) 680 has)

  -- What is hidden hides the same below it.
  hidden_again : (n : ℕ) → hidden_under (hidden_at n) ≡ hidden_at n
  hidden_again n =
      cond_holds (λ f. hidden_under f ≡ f) (eqb (parent_at n) 680) lacking (hidden_under (term_at piece (parent_at n))) refl
      (under_hidden (term_at piece (parent_at n)))

  -- At an argument is found what is stored there.
  argument_found : (n k : ℕ) → n ≡ k * stride 4 → term_at piece n ≡ stored_at n
  argument_found n k place =
      finds_is piece 4 n ∙ ap (finds_with found piece 4) place ∙ first_same found nothing piece 4 k (omega arith)
      ∙ ap (finds_with nothing piece 4) (sym place)

  -- At child j of place q is found what is stored there, or else what q hides.
  child_place_found
      : (n q l j : ℕ) → 1 ≤ l → levels_at q ≡ suc l → 1 ≤ j → j ≤ 4 → n ≡ q + suc ((j - 1) * stride l)
      → term_at piece n ≡ or_else (stored_at n) (hidden_under (term_at piece q))
  child_place_found n q l j some levels from to place =
      let m = suc ((j - 1) * stride l) in
      let near : m < stride (levels_at q) =
      omega (arith, ap stride levels, child_fit j (stride l) from to, stride_grows 1 l some) in
      let above = finds_with found piece 4 q in
      ap (term_at piece) place ∙ finds_is piece 4 (q + m) ∙ row_composes found hiding_stays piece 4 q m near
      ∙ ap (λ k. go_on (λ u. find_with found u k m) above) levels ∙ child_found (stores_row piece 4 q) l (j - 1) some
      ∙ ap (λ k. or_else (go_on (λ u. find_with nothing u k m) (stored_at q)) (hidden_under above)) (sym levels)
      ∙ ap (λ s. or_else s (hidden_under above)) (sym (row_composes nothing nothing_stays piece 4 q m near))
      ∙ ap (λ i. or_else (stored_at i) (hidden_under above)) (sym place)
      ∙ ap (λ f. or_else (stored_at n) (hidden_under f)) (sym (finds_is piece 4 q))

  -- At a place is found what is stored there, or else what the place above hides.
  place_found : (n : ℕ) → n < 680 → term_at piece n ≡ or_else (stored_at n) (hidden_at n)
  place_found n inside =
      elim (ℕ_discrete (parent_at n) 680) [
        | yes none ↦
            let argument = argument_without_parent n inside none in
            argument_found n (argument.0 - 1) (argument.3 ∙ mul_comm (stride 4) (argument.0 - 1))
            ∙ sym (or_nothing (stored_at n))
            ∙ ap (or_else (stored_at n)) (sym (above_none n none))
        | no has ↦
            let child = child_of_parent n has in
            let some = (levels_range 4 n (omega arith)).0 in
            let steps = ap (λ k. (child.j - 1) * stride (pred k)) child.levels in
            child_place_found n (parent_at n) (levels_at n) child.j some child.levels child.from child.to
            (omega (arith, child.place, steps))
            ∙ ap (or_else (stored_at n)) (sym (above_some n has))
      ]

module _ (arity : ℕ) (piece : Terms) (accepted : AcceptedPiece arity piece) (few : arity ≤ 8) where
  -- Each cell is the run of what is stored at its place.
  pub cell_stored : (n : ℕ) → n < 680 → get_or (piece_cells piece) n 0 ≡ found_run (stored_at piece n)
  cell_stored n inside =
      let counted = accepted.arguments in
      let room : extent (count piece) 4 ≤ 680 = omega (arith, extent_le (count piece) 8 4 (omega arith)) in
      ap (λ (i : ℕ). get_or (piece_cells piece) i 0) (sym (zero-add n))
      ∙ terms_stored piece 3 0 empty_cells 680 n accepted.well_formed accepted.shallow all_empty room inside

  -- What is found at a place is well-formed.
  found_well_formed : (n : ℕ) → IfFound WellFormed (term_at piece n)
  found_well_formed n = finds_well_formed piece accepted.well_formed 4 n

  module _ (n : ℕ) (inside : n < 680) where
    -- A term that is stored is found.
    stored_found : (t : Term) → stored_at piece n ≡ found t → term_at piece n ≡ found t
    stored_found t stored = place_found piece n inside ∙ (rw stored)

    -- Its cell is its run,
    stored_cell : (t : Term) → stored_at piece n ≡ found t → get_or (piece_cells piece) n 0 ≡ found_run (term_at piece n)
    stored_cell t stored = cell_stored n inside ∙ ap found_run (stored ∙ sym (stored_found t stored))

    -- which is not 0.
    has_run : (t : Term) → stored_at piece n ≡ found t → get_or (piece_cells piece) n 0 ≡ 0 → ⊥
    has_run t stored none = run_some t (ap found_run (sym stored) ∙ sym (cell_stored n inside) ∙ none)

    -- Where nothing is stored, the cell is 0,
    no_run : stored_at piece n ≡ lacking → get_or (piece_cells piece) n 0 ≡ 0
    no_run stored = cell_stored n inside ∙ ap found_run stored

    -- and what the place above hides is found.
    hidden_found : stored_at piece n ≡ lacking → term_at piece n ≡ hidden_at piece n
    hidden_found stored = place_found piece n inside ∙ (rw stored)

  -- What the nearest cell above hides is what the place above does.
  above_found
      : (k n : ℕ) → n < 680
      →
      ((q : ℕ) → q < 680 → levels_at q ≡ suc (levels_at n)
      → hidden_below (nearest_cell k (piece_cells piece) q) ≡ found_run (hidden_under (term_at piece q)))
      → hidden_below (nearest_cell k (piece_cells piece) (parent_at n)) ≡ found_run (hidden_at piece n)
  above_found k n inside up =
      elim (ℕ_discrete (parent_at n) 680) [
        | yes none ↦
            ap hidden_below (no_parent k (piece_cells piece) (parent_at n) none) ∙ ap found_run (sym (above_none piece n none))
        | no has ↦
            up (parent_at n) (omega (arith, parent_before n has)) (child_of_parent n has).levels
            ∙ ap found_run (sym (above_some piece n has))
      ]

  -- From a place, climbing far enough, the nearest cell hides what the place does.
  nearest_found
      : (k n : ℕ) → n < 680 → 5 ≤ levels_at n + k
      → hidden_below (nearest_cell k (piece_cells piece) n) ≡ found_run (hidden_under (term_at piece n))
  nearest_found zero n inside enough = absurd (omega (arith, levels_range 4 n (omega arith)))
  nearest_found (suc k) n inside enough =
      go (stored_at piece n) refl (above_found k n inside (λ q below levels. nearest_found k q below (omega arith)))
    where
      go
          : (s : Found) → stored_at piece n ≡ s
          → hidden_below (nearest_cell k (piece_cells piece) (parent_at n)) ≡ found_run (hidden_at piece n)
          → hidden_below (nearest_cell (suc k) (piece_cells piece) n) ≡ found_run (hidden_under (term_at piece n))
      go (found t) stored above =
          ap hidden_below
          (has_cell (suc k) (piece_cells piece) n (omega arith) (λ e. omega arith) (has_run n inside t stored)
          ∙ stored_cell n inside t stored)
          ∙ run_hidden (term_at piece n) (found_well_formed n)
      go lacking stored above =
          let less : suc k - 1 ≡ k = omega arith in
          ap hidden_below
          (has_none (suc k) (piece_cells piece) n (omega arith) (λ e. omega arith) (no_run n inside stored)
          ∙ ap (λ (j : ℕ). nearest_cell j (piece_cells piece) (parent_at n)) less)
          ∙ above ∙ ap found_run (sym (ap hidden_under (hidden_found n inside stored) ∙ hidden_again piece n))

  -- Looking at a place gives the run of what stands there.
  pub look_finds : (n : ℕ) → n < 680 → look (piece_cells piece) n ≡ found_run (term_at piece n)
  look_finds n inside =
      go (stored_at piece n) refl
      (above_found 3 n inside (λ q below levels. nearest_found 3 q below (omega (arith, levels_range 4 n (omega arith)))))
    where
      go
          : (s : Found) → stored_at piece n ≡ s
          → hidden_below (nearest_cell 3 (piece_cells piece) (parent_at n)) ≡ found_run (hidden_at piece n)
          → look (piece_cells piece) n ≡ found_run (term_at piece n)
      go (found t) stored above = rw (ne_eqb _ _ (has_run n inside t stored)) (stored_cell n inside t stored)
      go lacking stored above =
          rw (eq-eqb _ _ (no_run n inside stored)) (above ∙ ap found_run (sym (hidden_found n inside stored)))

  -- What is stored at a place is well-formed.
  stored_well_formed : (n : ℕ) → n < 680 → IfFound WellFormed (stored_at piece n)
  stored_well_formed n inside =
      go (stored_at piece n) (λ t stored. subst (IfFound WellFormed) (stored_found n inside t stored) (found_well_formed n))
    where
      go : (s : Found) → ((t : Term) → s ≡ found t → IfFound WellFormed (found t)) → IfFound WellFormed s
      go lacking known = tt
      go (found t) known = known t refl

  -- No compound in the cells has more than 4 arguments.
  pub narrow : Narrow (piece_cells piece)
  unfolding empty_cells
  narrow i =
      elim (dec_lt i 680) [
        | yes inside ↦ rw (cell_stored i inside) (narrow_found (stored_at piece i) (stored_well_formed i inside))
        | no outside ↦
            let size = terms_length piece 3 0 empty_cells ∙ length-replicate {A = ℕ} 680 0 in
            let beyond : length (piece_cells piece) ≤ i = omega arith in
            rw (get_or-eq_default (piece_cells piece) 0 beyond) (λ h. omega arith)
      ]
