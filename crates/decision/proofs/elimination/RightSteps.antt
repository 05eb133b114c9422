-- From a right vertex that asks, the piece takes an edge, is never refused, and comes to a vertex with fewer edges left
-- that is right with the test asked seen, in every asking order.
use Prim.Native.Nat.{ℕ, suc, ◌<◌}
use mathlib.Core.Path.{◌≡◌, refl, ap, sym, subst, ◌∙◌}
use mathlib.Core.Logic.{◌⊎◌, inl, inr}
use mathlib.Core.List.{List}
use mathlib.Core.Option.{Option, some}
use lib.Dec.{T}
use lib.ListN.{length}
use Rattle.basics.specs.Lists.{All}
use Rattle.terms.specs.Term.{Term, Terms, unknown, never, symbol, numbers, compound}
use Rattle.terms.specs.Pattern.{Patterns}
use Rattle.terms.specs.Lookup.{Found, lacking, found, term_at}
use Rattle.terms.specs.Outcome.{Outcome, holds, not_known, contradicted, Contradicted, compare}
use Rattle.terms.specs.Accepted.{AcceptedRule, AcceptedPiece}
use Rattle.terms.specs.Answer.{rule_at}
use Rattle.basics.proofs.ListLaws.{all_at}
use Rattle.sheet_tests.specs.SheetTests.{Test, place, pair, sheet_tests}
use Rattle.decision.specs.Rules.{test_at, has_test}
use Rattle.decision.specs.Key.{Key, Vertex, asking}
use Rattle.decision.specs.Edges.{first_in, by_none, by_unknown, by_other, ask_node, ask_first, node_of}
use Rattle.decision.specs.AskingOrder.{MustPrecede, AskingOrder}
use Rattle.decision.specs.Path.{Step, go_to, switch_step, by_comparison, pair_step, step_at}
use Rattle.decision.proofs.elimination.Elimination.{present}
use Rattle.decision.proofs.elimination.LocalFacts.{Firm, Missing, firm_dead}
use Rattle.decision.proofs.elimination.FirmTests.{IsIndex, DeadRule, FirmTest, missing_test}
use Rattle.decision.proofs.keys.Vertices.{Pending, held_by, asking_pending}
use Rattle.decision.proofs.keys.AskedFirst.{First, first_found}
use Rattle.decision.proofs.keys.EdgesLeft.{edges_left, pending_count, edges_fewer}
use Rattle.decision.proofs.elimination.RightKeys.{RightKey, RightVertex, key_more, none_right, settle_right}
use Rattle.decision.proofs.elimination.SwitchOwes.{graph_switches, case_edges, SwitchOwes, switch_owes}
use Rattle.decision.proofs.elimination.RightSwitch.{unknown_right, known_right}
use Rattle.decision.proofs.walking.StepEdges.{step_edge}

module _ (arity : ℕ) (rules : List Patterns) (piece : Terms)
    (accepted : All (AcceptedRule arity) rules) (ok : AcceptedPiece arity piece)
    (order : List ℕ) (asks : AskingOrder rules order) where
  -- The step goes on to a right vertex.
  abbrev GoesRight : (ℕ → Type 0) → Step Vertex → Type 0
  GoesRight Seen s = (v : Vertex) × (s ≡ go_to v) × RightVertex rules piece Seen v

  module _ {Seen : ℕ → Type 0} (key : Key) (right : RightKey rules piece Seen key)
      (t : ℕ) (first : First rules key.pending order t) (seen : Seen t) where
    -- No place of the test that is asked is missing.
    asked_present : Missing piece (test_at rules t) → ⊥
    asked_present =
        let holder = held_by rules key.live t (right.held t first.0).1 in
        present (IsIndex rules) (FirmTest rules piece) (DeadRule rules piece) right.invariant
        (λ i u. T (has_test rules i u)) (λ u v. MustPrecede (test_at rules u) (test_at rules v))
        (λ u. Missing piece (test_at rules u)) (missing_test arity rules piece accepted ok) t
        (λ u p. first.1 u (asks.whole u (right.held u p).0) p) holder.0 holder.2 holder.3

    -- The step at a switch goes on to a right vertex,
    at_place : (n : ℕ) → test_at rules t ≡ place n → GoesRight Seen (step_at piece (ask_node rules key t (place n)))
    at_place n at = go (term_at piece n) refl
      where
        owes : SwitchOwes rules piece graph_switches
        owes = switch_owes rules arity accepted piece ok.well_formed

        go
            : (x : Found) → term_at piece n ≡ x
            → GoesRight Seen
            (switch_step (case_edges rules graph_switches key t n) (by_none rules key t) (by_unknown rules key n) x)
        go lacking e = absurd (asked_present (rw (at, e) tt))
        go (found unknown) e =
            (_, refl, unknown_right rules piece key right t n at seen (rw e tt))
        go (found never) e =
            (_, refl, known_right rules piece key right t n at seen never e owes (λ k. k))
        go (found (symbol a)) e =
            (_, refl, known_right rules piece key right t n at seen (symbol a) e owes (λ k. k))
        go (found (numbers a b)) e =
            (_, refl, known_right rules piece key right t n at seen (numbers a b) e owes (λ k. k))
        go (found (compound a ts)) e =
            (_, refl, known_right rules piece key right t n at seen (compound a ts) e owes (λ k. k))

    -- so does the step at a pair,
    at_pair : (p q : ℕ) → test_at rules t ≡ pair p q → GoesRight Seen (step_at piece (ask_node rules key t (pair p q)))
    at_pair p q at = go (term_at piece p) (term_at piece q) refl refl
      where
        -- Where the terms do not differ, the test is not firm.
        soft
            : (x y : Term) → term_at piece p ≡ found x → term_at piece q ≡ found y → (Contradicted (compare x y) → ⊥)
            → (i : ℕ) → FirmTest rules piece i t → ⊥
        soft x y d e same i f =
            let rule = rule_at rules (suc i) in
            let firm : Firm rule piece (pair p q) = subst (Firm rule piece) at f.1 in
            same (rw (d, e) at firm.1)

        compared
            : (x y : Term) → term_at piece p ≡ found x → term_at piece q ≡ found y → (o : Outcome) → compare x y ≡ o
            → GoesRight Seen (by_comparison (by_none rules key t) (by_other rules key t) o)
        compared x y d e holds c =
            (_, refl, settle_right rules piece key right t seen (soft x y d e (λ k. subst Contradicted c k)))
        compared x y d e not_known c =
            (_, refl, settle_right rules piece key right t seen (soft x y d e (λ k. subst Contradicted c k)))
        compared x y d e contradicted c = (
          _,
          refl,
          none_right rules piece key right t seen (λ i m h.
              firm_dead (rule_at rules (suc i)) piece (pair p q) (rw at at h, rw (d, e, c) tt)),
        )

        go
            : (x y : Found) → term_at piece p ≡ x → term_at piece q ≡ y
            → GoesRight Seen (pair_step (by_none rules key t) (by_other rules key t) x y)
        go lacking y d e = absurd (asked_present (rw at (inl (rw d tt))))
        go (found x) lacking d e = absurd (asked_present (rw at (inr (rw e tt))))
        go (found x) (found y) d e = compared x y d e (compare x y) refl

    -- and so the step at the node that asks the test.
    at_test : GoesRight Seen (step_at piece (ask_node rules key t (test_at rules t)))
    at_test = go (test_at rules t) refl
      where
        go : (x : Test) → test_at rules t ≡ x → GoesRight Seen (step_at piece (ask_node rules key t x))
        go (place n) e = at_place n e
        go (pair p q) e = at_pair p q e

    -- It leads to a vertex with fewer edges left.
    test_fewer
        : (v : Vertex) → step_at piece (ask_node rules key t (test_at rules t)) ≡ go_to v
        → edges_left rules v < pending_count rules key
    test_fewer v e =
        all_at (λ (w : Vertex). edges_left rules w < pending_count rules key)
        (step_edge piece (ask_node rules key t (test_at rules t)) e)
        (edges_fewer rules key t (right.held t first.0).0 first.0)

  -- What a vertex that asks, where so many tests are seen, leads the piece to: a vertex with fewer edges left that is
  -- right with the test asked seen too.
  pub record StepsRight (Seen : ℕ → Type 0) (key : Key) : Type 0 where
    pub next : Vertex
    pub goes : step_at piece (node_of rules order (asking key)) ≡ go_to next
    pub test : ℕ
    pub asked : first_in key.pending order ≡ some test
    pub numbered : test < length (sheet_tests rules)
    pub right : RightVertex rules piece (λ u. Seen u ⊎ (u ≡ test)) next
    pub fewer : edges_left rules next < edges_left rules (asking key)

  -- From a right vertex that asks, the piece takes an edge to such a vertex.
  pub right_step : {Seen : ℕ → Type 0} (key : Key) → RightVertex rules piece Seen (asking key) → StepsRight Seen key
  right_step {Seen} key v =
      let same : key ≡ v.key = v.means.0 in
      let before : RightKey rules piece Seen key = subst (RightKey rules piece Seen) (sym same) v.right in
      let u = asking_pending rules v.key v.means in
      let pending : Pending key u.0 = subst (λ (k : Key). Pending k u.0) (sym same) u.2 in
      let t = first_found rules key.pending order asks.ordered u.0 (asks.whole u.0 u.1) pending in
      let Now : ℕ → Type 0 = λ u. Seen u ⊎ (u ≡ t.0) in
      let after : RightKey rules piece Now key = key_more rules piece (λ u h. inl h) before in
      let on = at_test key after t.0 t.2 (inr refl) in
      record {
        next = on.0;
        goes = ap (λ (o : Option ℕ). step_at piece (ask_first rules key o)) t.1 ∙ on.1;
        test = t.0;
        asked = t.1;
        numbered = (before.held t.0 t.2.0).0;
        right = on.2;
        fewer = test_fewer key after t.0 t.2 (inr refl) on.0 on.1;
      }
