-- The edges of a switch are right: that of an unknown, which drops no rule, and that of a known term, which keeps
-- exactly the rules that the term does not contradict.
use Prim.Native.Nat.{ℕ, suc}
use mathlib.Core.Path.{◌≡◌, refl, sym, subst}
use mathlib.Core.Bool.{Bool, ◌&&◌, not}
use mathlib.Core.Logic.{inl, inr}
use mathlib.Core.List.{List}
use mathlib.Core.Option.{Option, some, none}
use lib.Dec.{T, not_T}
use Rattle.masks.specs.Mask.{has}
use Rattle.terms.specs.Term.{Term, Terms}
use Rattle.terms.specs.Pattern.{Patterns}
use Rattle.terms.specs.RuleTests.{Want}
use Rattle.terms.specs.Lookup.{found, term_at}
use Rattle.terms.specs.Outcome.{Outcome, holds, not_known, contradicted, Contradicted, fits}
use Rattle.terms.specs.Answer.{rule_at, is_open}
use Rattle.terms.proofs.Unknown.{IsUnknown}
use Rattle.basics.proofs.Booleans.{true_both}
use Rattle.terms.proofs.Outcomes.{is_not_open}
use Rattle.sheet_tests.specs.SheetTests.{place}
use Rattle.decision.specs.Rules.{test_at, want_at}
use Rattle.decision.specs.Key.{Key}
use Rattle.decision.specs.Edges.{settled_by_unknown, by_unknown}
use Rattle.decision.proofs.cases.SwitchEdges.{open_at}
use Rattle.decision.proofs.elimination.LocalFacts.{Firm, firm_dead, settled_not_firm}
use Rattle.decision.proofs.elimination.FirmTests.{DeadRule, FirmTest}
use Rattle.decision.proofs.keys.Vertices.{Live}
use Rattle.decision.proofs.elimination.SwitchOwes.{Switches, staying, term_edge, SwitchOwes}
use Rattle.decision.proofs.elimination.RightKeys.{true_or_not, RightKey, RightVertex, drop_right, keep_right}

-- What is open is not contradicted.
open-not : (o : Outcome) → T (is_open o) → Contradicted o → ⊥
open-not holds h c = c
open-not not_known h c = c
open-not contradicted h c = h

module _ (rules : List Patterns) (piece : Terms) {Seen : ℕ → Type 0} (key : Key) (right : RightKey rules piece Seen key)
    (t n : ℕ) (at : test_at rules t ≡ place n) (seen : Seen t) where
  -- The edge of an unknown is right.
  pub unknown_right : IsUnknown (term_at piece n) → RightVertex rules piece Seen (by_unknown rules key n)
  unknown_right unknown =
      keep_right rules piece key right (λ u. has key.pending u && not (is_settled u)) (λ i u f p.
      let soft : T (is_settled u) → ⊥ =
      λ s. settled_not_firm (rule_at rules (suc i)) piece n (test_at rules u) unknown s f.1 in
      true_both (has key.pending u) (not (is_settled u)) p (not_T (is_settled u) soft))
      (λ u p. elim (true_or_not (is_settled u)) [
        | inl s ↦
            inr (inr (record { above = t; spot = n; seen = seen; asks = at; unknown = unknown; settles = s }))
        | inr s ↦ inl (true_both (has key.pending u) (not (is_settled u)) p (not_T (is_settled u) s))
      ])
    where
      is_settled : ℕ → Bool
      is_settled u = settled_by_unknown n (test_at rules u)

  module _ (u : Term) (there-is : term_at piece n ≡ found u) where
    -- A rule is dead if the term contradicts what it wants there,
    closed_dead : (i : ℕ) → (T (open_at u (want_at rules i n)) → ⊥) → DeadRule rules piece i
    closed_dead i closed = go (want_at rules i n) refl closed
      where
        go : (x : Option Want) → want_at rules i n ≡ x → (T (open_at u x) → ⊥) → DeadRule rules piece i
        go none e k = absurd (k tt)
        go (some w) e k =
            firm_dead (rule_at rules (suc i)) piece (place n) (w, e, rw there-is (is_not_open (fits w u) k))

    -- and the test is not firm for it if not.
    open-soft : (i : ℕ) → T (open_at u (want_at rules i n)) → FirmTest rules piece i t → ⊥
    open-soft i o f =
        let g : Firm (rule_at rules (suc i)) piece (place n) = subst (Firm (rule_at rules (suc i)) piece) at f.1 in
        let may : T (is_open (fits g.0 u)) = subst (λ (x : Option Want). T (open_at u x)) g.1 o in
        open-not (fits g.0 u) may (rw there-is at g.2)

    -- So an edge is right that keeps the rules of which the term does not contradict what they want there.
    open-right
        : (stays : ℕ → Bool) → ((i : ℕ) → Live key i → stays i ≡ open_at u (want_at rules i n))
        → RightVertex rules piece Seen (staying rules key t stays)
    open-right stays same =
        drop_right rules piece key right t stays seen
        (λ i m dropped. closed_dead i (λ o. dropped (rw (same i m) o)))
        (λ i m stayed f. open-soft i (subst T (same i m) stayed) f)

    -- Where a known term leads is right, at a switch that keeps the rules which are open at it.
    pub known_right
        : {switches : Switches} → SwitchOwes rules piece switches → (IsUnknown (found u) → ⊥)
        → RightVertex rules piece Seen (term_edge rules switches key t n u)
    known_right owes known =
        let r = owes.edge key t n at u there-is known in
        subst (RightVertex rules piece Seen) (sym r.leads)
        (open-right r.stays (λ i m. r.opens i (right.invariant.inside i m) m))
