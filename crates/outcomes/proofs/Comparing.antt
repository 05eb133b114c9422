-- Laws of comparing two terms by their cells, for any number of levels below them and of arguments.
use Prim.Native.Nat.{ℕ, zero, suc, ◌+◌, ◌-◌, ◌≤◌, ◌<◌}
use mathlib.Core.Path.{◌≡◌, refl, ap, ap₂, sym, ◌∙◌}
use mathlib.Core.Bool.{true, false, not, cond}
use mathlib.Core.List.{List}
use mathlib.Core.Logic.{◌⊎◌, inl, inr, ⊎_elim}
use native.Mathlib.Omega.{arith}
use lib.Dec.{leb, ltb, eqb}
use borrow.Author.Tests.{le-ltb, eq-eqb, ltb-true, ltb-false, eqb-true, eqb-false}
use Rattle.places.specs.Numbering.{stride}
use Rattle.terms.specs.Outcome.{Outcome, holds, not_known, contradicted, known, ◌and◌}
use Rattle.codes.specs.views.Codes.{compound_code, number_code, never_code, low_of}
use Rattle.outcomes.specs.views.CompareCells.{is_compound, arity_of, same_code, left_open}
use Rattle.outcomes.specs.views.CompareCells.{compare_runs, compare_row, compare_by, compare_at, compare_cells}
use Rattle.basics.proofs.Booleans.{cond_true}
use Rattle.outcomes.proofs.FoundRuns.{a_leaf, a_compound_lem}
use Rattle.outcomes.proofs.RunsCompare.{runs_differ, runs_overlap}

module _ (x y u v : ℕ) (arguments unsure : Outcome) where
  abbrev compared : Outcome
  compared = compare_runs x y u v arguments unsure

  -- Runs with no code in common differ.
  pub none_common : (y < u) ⊎ (ltb v x ≡ true) → contradicted ≡ compared
  none_common h = sym (runs_differ x y u v arguments unsure (⊎_elim (λ l. inl l) (λ l. inr (ltb-true v x l)) h))

  module _ (common : u ≤ y) (common-other : ltb v x ≡ false) where
    -- Where one of them has several, it is unsure whether they are equal.
    pub several_codes : (x ≡ y → ⊥) ⊎ (eqb u v ≡ false) → compared ≡ unsure
    several_codes h =
        runs_overlap x y u v arguments unsure common (ltb-false v x common-other)
        (⊎_elim (λ l. inl l) (λ l. inr (eqb-false u v l)) h)

    module _ (single : x ≡ y) (single-other : eqb u v ≡ true) where
      -- Two single codes with one in common are the same, and the arguments of compounds decide.
      one_code : compared ≡ same_code x arguments
      one_code = rw (le-ltb y u common, common-other, eq-eqb x y single, single-other)

      -- The same code of symbols or numbers is equal, and record 35 is not.
      pub same_leaf_lem : (x < compound_code 0 0) ⊎ (leb (number_code 0) x ≡ true) → compared ≡ known (not (eqb x never_code))
      same_leaf_lem h = one_code ∙ ap (λ b. cond b arguments (known (not (eqb x never_code)))) (a_leaf x h)

      -- The same code of compounds is as the arguments are.
      pub same_compound : compound_code 0 0 ≤ x → leb (number_code 0) x ≡ false → compared ≡ arguments
      same_compound low high = one_code ∙ cond_true (is_compound x) arguments _ (a_compound_lem x low high)

-- What the n arguments of two compounds say, with so many levels below the one and the other.
abbrev pub compare_below : List ℕ → ℕ → ℕ → ℕ → ℕ → ℕ → Outcome
compare_below cells n zero other p q = not_known
compare_below cells n (suc below) zero p q = not_known
compare_below cells n (suc below) (suc other) p q =
    compare_row (compare_cells cells below other) (stride (suc below)) (stride (suc other)) n (p + 1) (q + 1)

-- Two terms compare by their runs.
pub by_runs_lem
    : (cells : List ℕ) (below other p q a b : ℕ)
    → compare_at cells below other p q a b
    ≡ compare_by a b (compare_below cells (arity_of (low_of a)) below other p q) (left_open cells below other p q (low_of a) (low_of b))
by_runs_lem cells zero other p q a b = refl
by_runs_lem cells (suc below) zero p q a b = refl
by_runs_lem cells (suc below) (suc other) p q a b = refl

module _ (cells : List ℕ) (n below other p q : ℕ) where
  -- No arguments stand where there is no level below.
  pub no_level : (below ≡ 0) ⊎ (eqb other 0 ≡ true) → compare_below cells n below other p q ≡ not_known
  no_level h = go below other h
    where
      go : (k l : ℕ) → (k ≡ 0) ⊎ (eqb l 0 ≡ true) → compare_below cells n k l p q ≡ not_known
      go zero l none = refl
      go (suc k) zero none = refl
      go (suc k) (suc l) (inl none) = absurd (omega arith)
      go (suc k) (suc l) (inr none) = absurd (omega (arith, eqb-true (suc l) 0 none))

  -- Where there is one below both, the arguments are compared.
  pub some_level
      : (below ≡ 0 → ⊥) → eqb other 0 ≡ false
      → compare_below cells n below other p q
      ≡ compare_row (compare_cells cells (below - 1) (other - 1)) (stride (suc (below - 1))) (stride (suc (other - 1))) n (p + 1)
      (q + 1)
  some_level some more =
      let more-is = eqb-false other 0 more in
      let counted : below ≡ suc (below - 1) = omega arith in
      let counted-other : other ≡ suc (other - 1) = omega (arith, more-is) in
      ap₂ (λ (k l : ℕ). compare_below cells n k l p q) counted counted-other

module _ (one : ℕ → ℕ → Outcome) (i j n p q : ℕ) where
  -- No pairs are equal.
  pub no_pairs : n ≡ 0 → holds ≡ compare_row one i j n p q
  no_pairs none = rw none

  -- One pair is compared, and then the others.
  pub first_pair
      : (n ≡ 0 → ⊥) → {x y z : Outcome} {i' j' : ℕ} → z ≡ ◌and◌ x y → x ≡ one p q → i' ≡ i → j' ≡ j
      → y ≡ compare_row one i j (n - 1) (p + i') (q + j') → z ≡ compare_row one i j n p q
  first_pair some together first step other others =
      let counted : n ≡ suc (n - 1) = omega arith in
      let rest = others ∙ ap₂ (compare_row one i j (n - 1)) (ap (λ k. p + k) step) (ap (λ k. q + k) other) in
      together ∙ ap₂ ◌and◌ first rest ∙ sym (ap (λ (k : ℕ). compare_row one i j k p q) counted)
