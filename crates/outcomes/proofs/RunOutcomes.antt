-- The outcome of a test where what stands at the place has one of a run of codes, told by how the two runs lie.
use Prim.Native.Nat.{ℕ, ◌≤◌, ◌<◌}
use mathlib.Core.Path.{◌≡◌, ap, ◌∙◌}
use mathlib.Core.Bool.{Bool, ◌||◌, cond}
use mathlib.Core.Logic.{◌⊎◌, inl, inr, ⊎_elim}
use lib.Dec.{leb, ltb}
use borrow.Author.Tests.{le-leb, lt-leb, lt-ltb, le-ltb}
use Rattle.terms.specs.Outcome.{holds, not_known, contradicted}
use Rattle.outcomes.specs.views.CellOutcome.{run_outcome}
use Rattle.outcomes.proofs.TwoTests.{not_both, one_of}

module _ (low high x y : ℕ) where
  -- A test holds at codes that are all inside its run,
  pub inside_holds : low ≤ x → y ≤ high → run_outcome low high x y ≡ holds
  inside_holds above below = rw (le-leb low x above, le-leb y high below)

  module _ (out : (x < low) ⊎ (high < y)) where
    -- Some code is outside.
    beyond : run_outcome low high x y ≡ cond (ltb y low || ltb high x) contradicted not_known
    beyond =
        ap (λ (b : Bool). cond b holds (cond (ltb y low || ltb high x) contradicted not_known))
        (not_both (leb low x) (leb y high) (⊎_elim (λ h. inl (lt-leb low x h)) (λ h. inr (lt-leb y high h)) out))

    -- is contradicted at codes that are all outside,
    pub outside_contradicted : (y < low) ⊎ (high < x) → run_outcome low high x y ≡ contradicted
    outside_contradicted d =
        beyond
        ∙ ap (λ (b : Bool). cond b contradicted not_known)
        (one_of (ltb y low) (ltb high x) (⊎_elim (λ h. inl (lt-ltb y low h)) (λ h. inr (lt-ltb high x h)) d))

    -- and is not known where some are inside and some outside.
    pub partly_not_known : low ≤ y → x ≤ high → run_outcome low high x y ≡ not_known
    partly_not_known above below = beyond ∙ rw (le-ltb y low above, le-ltb high x below)
