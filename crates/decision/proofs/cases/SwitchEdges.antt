-- What the edges of a switch owe to the walk, whatever its cases are: the edge that a known term takes keeps exactly the rules
-- which the term does not contradict.
use Prim.Native.Nat.{ℕ}
use mathlib.Core.Path.{◌≡◌, refl, ap, sym, subst, ◌∙◌}
use mathlib.Core.Bool.{Bool, true, false}
use mathlib.Core.Logic.{◌⊎◌, inl, inr}
use mathlib.Core.List.{List, [], ◌∷◌, ◌++◌, map}
use mathlib.Core.Option.{Option, some, none}
use lib.Dec.{T}
use Rattle.basics.specs.Lists.{Mem, All}
use Rattle.basics.proofs.ListLaws.{all_from}
use Rattle.basics.proofs.Filters.{mem_map, map_mem, map_join, all_mapped}
use Rattle.basics.proofs.Sorted.{AscendingBy}
use Rattle.terms.specs.Term.{Term}
use Rattle.terms.specs.RuleTests.{Want}
use Rattle.terms.specs.Outcome.{contradicted, fits}
use Rattle.terms.specs.Answer.{is_open}
use Rattle.decision.specs.Cases.{Case, takes}
use Rattle.decision.specs.Node.{CaseEdge, leads_or, follow}
use Rattle.decision.specs.Edges.{gather_wants}
use Rattle.decision.specs.AcceptedGraph.{CaseBefore, Ascend}
use Rattle.decision.proofs.cases.Best.{best_join}
use Rattle.decision.proofs.cases.Narrowest.{takes_edge, narrower_edge, follow_narrowest}
use Rattle.decision.proofs.rules.LiveWants.{mem_gather}

-- The edges of the cases, of which case c leads to f c.
abbrev pub edges_to : {A : Type 0} → (Case → A) → List Case → List (CaseEdge A)
edges_to f cs = map (λ (c : Case). record { case = c; target = f c }) cs

-- Those of ascending cases ascend.
pub edges_ascend : (f : Case → ℕ) (cs : List Case) → AscendingBy CaseBefore cs → Ascend (edges_to f cs)
edges_ascend f [] a = tt
edges_ascend f (c ∷ cs) a =
    let edge : Case → CaseEdge ℕ = λ d. record { case = d; target = f d } in
    (all_mapped (λ (d : CaseEdge ℕ). CaseBefore c d.case) edge cs a.0, edges_ascend f cs a.1)

module _ {A : Type 0} (f : Case → A) (neither : A) (t : Term) where
  abbrev edge_to : Case → CaseEdge A
  edge_to c = record { case = c; target = f c }

  -- A term follows the edge of a case that takes it, or neither, where no case does.
  pub follow_case
      : (cs : List Case)
      → ((c : Case) × Mem c cs × T (takes c t) × (follow (edges_to f cs) neither t ≡ f c))
      ⊎ (All (λ (c : Case). T (takes c t) → ⊥) cs × (follow (edges_to f cs) neither t ≡ neither))
  follow_case cs =
      elim (follow_narrowest t (edges_to f cs) neither) [
        | inl r ↦
            let c = map_mem edge_to cs r.1.listed in
            inl (
              c.0,
              c.1,
              subst (λ (e : CaseEdge A). T (takes e.case t)) c.2 r.1.is_taken,
              r.2 ∙ ap (λ (e : CaseEdge A). e.target) c.2,
            )
        | inr r ↦
            inr (all_from (λ (c : Case). T (takes c t) → ⊥) cs (λ c m. r.0 (edge_to c) (mem_map edge_to m)), r.1)
      ]

  -- Cases that do not take it may be left out before the others.
  pub follow_past
      : (others cs : List Case) → All (λ (c : Case). T (takes c t) → ⊥) others
      → follow (edges_to f (others ++ cs)) neither t ≡ follow (edges_to f cs) neither t
  follow_past others cs untaken =
      ap (λ (es : List (CaseEdge A)). follow es neither t) (map_join edge_to others cs)
      ∙ ap (leads_or neither)
      (best_join (takes_edge t) narrower_edge (edges_to f others) (edges_to f cs)
      (all_mapped (λ (e : CaseEdge A). T (takes e.case t) → ⊥) edge_to others untaken))

-- What a rule wants at a place, if anything, is not contradicted by the term there.
abbrev pub open_at : Term → Option Want → Bool
open_at t none = true
open_at t (some w) = is_open (fits w t)

abbrev pub wants_nothing : Option Want → Bool
wants_nothing none = true
wants_nothing (some w) = false

-- Where a case keeps the rules of which `keeps` is true, and the live rules want xs, each something or nothing, the term takes an
-- edge that keeps exactly those which it does not contradict: the edge of a case, or neither, which keeps those that want nothing.
abbrev pub KeepsOpen
    : {A : Type 0} → (Case → Option Want → Bool) → List Case → (Case → A) → A → List (Option Want) → Term → Type 0
KeepsOpen keeps cs f neither xs t =
    ((c : Case) × (follow (edges_to f cs) neither t ≡ f c) × ((x : Option Want) → Mem x xs → keeps c x ≡ open_at t x))
    ⊎ ((follow (edges_to f cs) neither t ≡ neither) × ((x : Option Want) → Mem x xs → wants_nothing x ≡ open_at t x))

-- It does so where the edge is that of a case which keeps a want exactly if it is open, or neither, and all wants are contradicted.
abbrev pub TakesOpen : {A : Type 0} → (Case → Want → Bool) → List Case → (Case → A) → A → List Want → Term → Type 0
TakesOpen wanted cs f neither ws t =
    ((c : Case) × Mem c cs × (follow (edges_to f cs) neither t ≡ f c) × ((w : Want) → Mem w ws → is_open (fits w t) ≡ wanted c w))
    ⊎ ((follow (edges_to f cs) neither t ≡ neither) × ((w : Want) → Mem w ws → fits w t ≡ contradicted))

module _ {A : Type 0} (keeps : Case → Option Want → Bool) (always : (c : Case) → keeps c none ≡ true)
    (cs : List Case) (f : Case → A) (neither : A) (xs : List (Option Want)) (t : Term) where
  -- A case that keeps the open wants keeps the rules that are open.
  case_keeps_lem
      : (c : Case) → ((w : Want) → Mem w (gather_wants xs) → is_open (fits w t) ≡ keeps c (some w))
      → (x : Option Want) → Mem x xs → keeps c x ≡ open_at t x
  case_keeps_lem c h none m = always c
  case_keeps_lem c h (some w) m = sym (h w (mem_gather m))

  -- Where all wants are contradicted, the rules that want nothing are open.
  neither_keeps
      : ((w : Want) → Mem w (gather_wants xs) → fits w t ≡ contradicted)
      → (x : Option Want) → Mem x xs → wants_nothing x ≡ open_at t x
  neither_keeps h none m = refl
  neither_keeps h (some w) m = rw (h w (mem_gather m))

  pub takes_keeps
      : TakesOpen (λ c w. keeps c (some w)) cs f neither (gather_wants xs) t → KeepsOpen keeps cs f neither xs t
  takes_keeps (inl r) = inl (r.0, r.2, case_keeps_lem r.0 r.3)
  takes_keeps (inr r) = inr (r.0, neither_keeps r.1)
