-- "Graphs of older sheets gain a gauge of 0 in each number case" (document 02, request 7): where all wanted ranges are on gauge 0,
-- the pairs of runs are those of request 4.
use Prim.Native.Nat.{ℕ}
use mathlib.Core.Path.{◌≡◌, refl, ap, ◌∙◌}
use mathlib.Core.List.{List, [], ◌∷◌, append-nil}
use native.Mathlib.Omega.{arith}
use lib.Dec.{ltb}
use Rattle.basics.specs.Lists.{All, filter}
use Rattle.basics.specs.Order.{insert_by}
use Rattle.basics.proofs.Booleans.{cond_by}
use Rattle.basics.proofs.Numbers.{eq_true}
use Rattle.terms.specs.Term.{Wide, gauge_of}
use Rattle.terms.specs.RuleTests.{Range}
use Rattle.decision.specs.Runs.{framed, run_pairs, gauges_of, is_on, runs_on, pairs_on, number_pairs}
use Rattle.decision.specs.OlderGraph.{older_pairs}

-- The range is on gauge 0.
abbrev pub OnGauge0 : Range → Type 0
OnGauge0 w = Wide w.low

zero_gauge : (w : Range) → OnGauge0 w → gauge_of w.low ≡ 0
zero_gauge w h = omega arith

all_on_0 : (ws : List Range) → All OnGauge0 ws → filter (is_on 0) ws ≡ ws
all_on_0 [] h = refl
all_on_0 (w ∷ ws) h =
    cond_by (λ (l : List Range). l ≡ w ∷ ws) (is_on 0 w) (λ t. ap (λ (l : List Range). w ∷ l) (all_on_0 ws h.1))
    (λ t. absurd (t (eq_true (gauge_of w.low) 0 (zero_gauge w h.0))))

gauge_0_only : (w : Range) (ws : List Range) → All OnGauge0 (w ∷ ws) → gauges_of (w ∷ ws) ≡ 0 ∷ []
gauge_0_only w [] h = ap (λ (g : ℕ). insert_by ltb g []) (zero_gauge w h.0)
gauge_0_only w (v ∷ vs) h =
    let rest = gauge_0_only v vs h.1 in
    let own = zero_gauge w h.0 in
    λ i. insert_by ltb (own i) (rest i)

pub older_cases_lem : (ws : List Range) → All OnGauge0 ws → number_pairs ws ≡ older_pairs ws
older_cases_lem [] h = refl
older_cases_lem (w ∷ ws) h =
    ap (λ (gs : List ℕ). pairs_on gs (w ∷ ws)) (gauge_0_only w ws h)
    ∙ append-nil (run_pairs (runs_on 0 (w ∷ ws)))
    ∙ ap (λ (vs : List Range). run_pairs (framed 0 65536 vs)) (all_on_0 (w ∷ ws) h)
