-- Which case a number or span follows, of any cases (document 02, request 4): "Of the cases that contain it, .. the one with the
-- highest low, then the lowest high; else neither."
use Prim.Native.Nat.{ℕ, ◌≤◌}
use mathlib.Core.Path.{◌≡◌, refl, ap, sym, subst, ◌∙◌}
use mathlib.Core.Logic.{◌⊎◌, inl, inr}
use mathlib.Core.List.{List}
use lib.Dec.{T}
use Rattle.basics.specs.Lists.{Mem}
use Rattle.basics.proofs.Filters.{mem_map, map_mem}
use Rattle.basics.proofs.Numbers.{le_or_lt, both_le}
use Rattle.basics.proofs.Sorted.{before_pair}
use Rattle.terms.specs.Term.{numbers}
use Rattle.decision.specs.Cases.{Case, symbols_case, compound_case, numbers_case, takes}
use Rattle.decision.specs.Narrowest.{narrower}
use Rattle.decision.specs.Node.{CaseEdge, follow}
use Rattle.decision.proofs.cases.Narrowest.{follow_narrowest}
use Rattle.decision.proofs.cases.SwitchEdges.{edges_to}

-- The case contains the numbers from a to b, has the highest low of those that do, and of those with that low the lowest high.
pub record NarrowestOf (cs : List Case) (a b x y : ℕ) : Type 0 where
  pub is_case : Mem (numbers_case x y) cs
  pub contains : (x ≤ a) × (b ≤ y)
  pub highest_low : (z u : ℕ) → Mem (numbers_case z u) cs → z ≤ a → b ≤ u → z ≤ x
  pub lowest_high : (u : ℕ) → Mem (numbers_case x u) cs → b ≤ u → y ≤ u

module _ {A : Type 0} (f : Case → A) (neither : A) (a b : ℕ) where
  -- A number or span follows the edge of such a case, or neither, where no case contains it.
  abbrev pub SpanFollows : List Case → Type 0
  SpanFollows cs =
      ((x y : ℕ) × NarrowestOf cs a b x y × (follow (edges_to f cs) neither (numbers a b) ≡ f (numbers_case x y)))
      ⊎ (((x y : ℕ) → Mem (numbers_case x y) cs → x ≤ a → b ≤ y → ⊥) × (follow (edges_to f cs) neither (numbers a b) ≡ neither))

  pub span_follows : (cs : List Case) → SpanFollows cs
  span_follows cs =
      elim (follow_narrowest (numbers a b) (edges_to f cs) neither) [
        | inl r ↦
            let c = map_mem edge_to cs r.1.listed in
            go c.0 c.1 (subst (λ (e : CaseEdge A). T (takes e.case (numbers a b))) c.2 r.1.is_taken)
            (λ d m t narrow. r.1.first (edge_to d) (mem_map edge_to m) t
            (subst (λ (e : CaseEdge A). T (narrower d e.case)) (sym c.2) narrow))
            (r.2 ∙ ap (λ (e : CaseEdge A). e.target) c.2)
        | inr r ↦
            inr (λ x y m low high. r.0 (edge_to (numbers_case x y)) (mem_map edge_to m) ((both_le x a b y).1 (low, high)), r.1)
      ]
    where
      edge_to : Case → CaseEdge A
      edge_to c = record { case = c; target = f c }

      go
          : (c : Case) → Mem c cs → T (takes c (numbers a b))
          → ((d : Case) → Mem d cs → T (takes d (numbers a b)) → T (narrower d c) → ⊥)
          → follow (edges_to f cs) neither (numbers a b) ≡ f c → SpanFollows cs
      go (symbols_case x y) m t first e = absurd t
      go (compound_case x n) m t first e = absurd t
      go (numbers_case x y) m t first e = inl (
        x,
        y,
        record {
          is_case = m;
          contains = (both_le x a b y).0 t;
          highest_low = λ z u k low high. elim (le_or_lt z x) [
            | inl p ↦ p
            | inr p ↦ absurd (first (numbers_case z u) k ((both_le z a b u).1 (low, high)) (before_pair x u z y (inl p)))
          ];
          lowest_high = λ u k high. elim (le_or_lt y u) [
            | inl p ↦ p
            | inr p ↦
                absurd (first (numbers_case x u) k ((both_le x a b u).1 (((both_le x a b y).0 t).0, high))
                (before_pair x u x y (inr (refl, p))))
          ];
        },
        e,
      )
