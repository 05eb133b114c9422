-- What an edge keeps: of the live rules of a key that asks a test, the step that a piece takes keeps exactly those for which
-- the test, if they have it, is not contradicted. For every well-formed piece.
use Prim.Native.Nat.{ℕ, suc, ◌<◌}
use mathlib.Core.Path.{◌≡◌, refl, sym, subst}
use mathlib.Core.Bool.{Bool, ◌&&◌, not}
use mathlib.Core.Logic.{◌↔◌}
use mathlib.Core.List.{List}
use mathlib.Core.Option.{Option, some, none}
use lib.Dec.{T, T_not, not_T}
use lib.ListN.{length}
use Rattle.masks.specs.Mask.{has}
use Rattle.basics.specs.Lists.{All}
use Rattle.basics.proofs.Booleans.{both_true, true_both}
use Rattle.basics.proofs.Clash.{clash}
use Rattle.terms.specs.Term.{Term, Terms, unknown, never, symbol, numbers, compound}
use Rattle.terms.specs.Pattern.{Patterns}
use Rattle.terms.specs.RuleTests.{Want}
use Rattle.terms.specs.Lookup.{Found, lacking, found, term_at}
use Rattle.terms.specs.Outcome.{Outcome, holds, not_known, contradicted, fits, compare}
use Rattle.terms.specs.Filling.{WellFormeds}
use Rattle.terms.specs.Accepted.{AcceptedRule}
use Rattle.terms.specs.Answer.{rule_at, is_open}
use Rattle.terms.proofs.Unknown.{IsUnknown}
use Rattle.sheet_tests.specs.SheetTests.{Test, place, pair, sheet_tests}
use Rattle.decision.specs.Rules.{test_at, has_test, want_at, rules_where}
use Rattle.decision.specs.Key.{Key, Vertex, key_of, vertex_of}
use Rattle.decision.specs.Node.{Node}
use Rattle.decision.specs.Edges.{settled_by_unknown, leads_to, but_test}
use Rattle.decision.specs.Edges.{by_none, by_unknown, by_other, ask_node}
use Rattle.decision.specs.Path.{go_to, switch_step, by_comparison, pair_step, step_at}
use Rattle.decision.specs.Walk.{test_outcome, is_contradicted}
use Rattle.decision.proofs.keys.Sets.{in_where, where_in}
use Rattle.decision.proofs.cases.SwitchEdges.{open_at}
use Rattle.decision.proofs.elimination.SwitchOwes.{Switches, graph_switches, case_edges, term_edge, SwitchOwes, switch_owes}
use Rattle.decision.proofs.rules.TestsOfRules.{HasTest, want_has}
use Rattle.decision.proofs.keys.Vertices.{pending_in}

module _ (arity : ℕ) (rules : List Patterns) (accepted : All (AcceptedRule arity) rules) (piece : Terms) where
  module _ (nodes : List (Node ℕ)) where
    -- The test of rule i is contradicted.
    abbrev pub Against : ℕ → Test → Type 0
    Against i x = T (is_contradicted (test_outcome rules piece i x))

    -- The key that an edge leads to: of the live rules of the key it keeps those for which the test asked, if they have
    -- it, is not contradicted.
    pub record KeptRules (key : Key) (t : ℕ) (w : Vertex) : Type 0 where
      pub next : Key
      pub leads : w ≡ vertex_of rules next
      pub inside : (u : ℕ) → T (has next.pending u) → u < length (sheet_tests rules)
      pub stays
          : (i : ℕ) → i < length rules
          → T (has next.live i) ↔ (T (has key.live i) × (T (has_test rules i t) → Against i (test_at rules t) → ⊥))

    module _ (key : Key) (t : ℕ) where
      -- What stays, for the test's own outcome.
      abbrev StaysLive : (ℕ → Bool) → Test → Type 0
      StaysLive kept x =
          (i : ℕ) → i < length rules
          → T (kept i) ↔ (T (has key.live i) × (HasTest (rule_at rules (suc i)) x → Against i x → ⊥))

      -- An edge that keeps some of the rules,
      drops
          : (x : Test) → test_at rules t ≡ x → (kept is_left : ℕ → Bool) → StaysLive kept x
          → KeptRules key t (leads_to rules (rules_where rules kept) is_left)
      drops x at kept is_left same = record {
        next = key_of rules (rules_where rules kept) is_left;
        leads = refl;
        inside = λ u h. (pending_in rules (rules_where rules kept) is_left u h).0;
        stays = λ i l. rw at (
          λ m. (same i l).0 (where_in (length rules) kept i m).1,
          λ m. in_where (length rules) kept i l ((same i l).1 m),
        );
      }

      -- and one that drops none.
      drops_none
          : (x : Test) → test_at rules t ≡ x → (is_left : ℕ → Bool) → ((i : ℕ) → i < length rules → Against i x → ⊥)
          → KeptRules key t (leads_to rules key.live is_left)
      drops_none x at is_left free = record {
        next = key_of rules key.live is_left;
        leads = refl;
        inside = λ u h. (pending_in rules key.live is_left u h).0;
        stays = λ i l. rw at (λ m. (m, λ h. free i l), λ m. m.0);
      }

      -- At a known term a want is open, or it is contradicted.
      open-against : (o : Outcome) → T (is_open o) → T (is_contradicted o) → ⊥
      open-against holds h c = c
      open-against not_known h c = c
      open-against contradicted h c = h

      closed_against : (o : Outcome) → (T (is_contradicted o) → ⊥) → T (is_open o)
      closed_against holds h = tt
      closed_against not_known h = tt
      closed_against contradicted h = h tt

      module _ (n : ℕ) (at : test_at rules t ≡ place n) where
        -- A rule is open at a term exactly when its place test, if it has one, is not contradicted there.
        Open-Stays
            : (u : Term) → term_at piece n ≡ found u → (i : ℕ)
            → T (open_at u (want_at rules i n)) ↔ (HasTest (rule_at rules (suc i)) (place n) → Against i (place n) → ⊥)
        Open-Stays u there-is i = go (want_at rules i n) refl
          where
            go
                : (x : Option Want) → want_at rules i n ≡ x
                → T (open_at u x) ↔ (HasTest (rule_at rules (suc i)) (place n) → Against i (place n) → ⊥)
            go none e = (λ o h. rw (there-is, e) (λ c. c), λ f. tt)
            go (some w) e = (
              λ o h. rw (there-is, e) (λ c. open-against (fits w u) o c),
              λ f. closed_against (fits w u) (λ c. f (want_has (rule_at rules (suc i)) n w e) (rw (there-is, e) c)),
            )

        -- Where a known term leads, the rules that are open at it are kept.
        Known-kept
            : {switches : Switches} → SwitchOwes rules piece switches → (u : Term) → term_at piece n ≡ found u
            → (IsUnknown (found u) → ⊥)
            → KeptRules key t (term_edge rules switches key t n u)
        Known-kept owes u there-is known =
            let r = owes.edge key t n at u there-is known in
            subst (KeptRules key t) (sym r.leads)
            (drops (place n) at (λ i. has key.live i && r.stays i) (but_test key t) (λ i l. (
              λ k.
                  let s = both_true (has key.live i) (r.stays i) k in
                  (s.0, (Open-Stays u there-is i).0 (subst T (r.opens i l s.0) s.1)),
              λ x.
                  true_both (has key.live i) (r.stays i) x.0
                  (subst T (sym (r.opens i l x.0)) ((Open-Stays u there-is i).1 x.1)),
            )))

        -- An unknown contradicts no rule,
        unknown_free : term_at piece n ≡ found unknown → (i : ℕ) → Against i (place n) → ⊥
        unknown_free there-is i = go (want_at rules i n) refl
          where
            go : (x : Option Want) → want_at rules i n ≡ x → Against i (place n) → ⊥
            go none e = rw (there-is, e) (λ c. c)
            go (some w) e = rw (there-is, e) (λ c. c)

        -- and so the step at a switch keeps what it should,
        Place-kept
            : WellFormeds piece → (w : Vertex) → step_at piece (ask_node rules key t (place n)) ≡ go_to w → KeptRules key t w
        Place-kept ok w = go (term_at piece n) refl
          where
            owes : SwitchOwes rules piece graph_switches
            owes = switch_owes rules arity accepted piece ok

            go
                : (x : Found) → term_at piece n ≡ x
                → switch_step (case_edges rules graph_switches key t n) (by_none rules key t) (by_unknown rules key n) x ≡ go_to w
                → KeptRules key t w
            go lacking e s = clash (cc)
            go (found unknown) e s =
                let same : by_unknown rules key n ≡ w = cc in
                let is_left : ℕ → Bool = λ u. has key.pending u && not (settled_by_unknown n (test_at rules u)) in
                subst (KeptRules key t) same (drops_none (place n) at is_left (λ i l. unknown_free e i))
            go (found never) e s = subst (KeptRules key t) (cc) (Known-kept owes never e (λ k. k))
            go (found (symbol a)) e s = subst (KeptRules key t) (cc) (Known-kept owes (symbol a) e (λ k. k))
            go (found (numbers a b)) e s = subst (KeptRules key t) (cc) (Known-kept owes (numbers a b) e (λ k. k))
            go (found (compound a ts)) e s = subst (KeptRules key t) (cc) (Known-kept owes (compound a ts) e (λ k. k))

      -- and so does the step at a pair.
      pair_kept
          : (p q : ℕ) → test_at rules t ≡ pair p q → (w : Vertex) → step_at piece (ask_node rules key t (pair p q)) ≡ go_to w
          → KeptRules key t w
      pair_kept p q at w = go (term_at piece p) (term_at piece q) refl refl
        where
          compared
              : (x y : Term) → term_at piece p ≡ found x → term_at piece q ≡ found y → (o : Outcome) → compare x y ≡ o
              → by_comparison (by_none rules key t) (by_other rules key t) o ≡ go_to w → KeptRules key t w
          compared x y d e holds c s =
              let same : by_other rules key t ≡ w = cc in
              subst (KeptRules key t) same (drops_none (pair p q) at (but_test key t) (λ i l. rw (d, e, c) (λ k. k)))
          compared x y d e not_known c s =
              let same : by_other rules key t ≡ w = cc in
              subst (KeptRules key t) same (drops_none (pair p q) at (but_test key t) (λ i l. rw (d, e, c) (λ k. k)))
          compared x y d e contradicted c s =
              let same : by_none rules key t ≡ w = cc in
              let differ : (i : ℕ) → Against i (pair p q) = λ i. rw (d, e, c) tt in
              subst (KeptRules key t) same
              (drops (pair p q) at (λ i. has key.live i && not (has_test rules i t)) (but_test key t) (λ i l. (
                λ k.
                    let b = both_true (has key.live i) (not (has_test rules i t)) k in
                    (b.0, λ h z. T_not (has_test rules i t) b.1 (subst (HasTest (rule_at rules (suc i))) (sym at) h)),
                λ x.
                    let none : T (has_test rules i t) → ⊥ =
                    λ h. x.1 (subst (HasTest (rule_at rules (suc i))) at h) (differ i) in
                    true_both (has key.live i) (not (has_test rules i t)) x.0 (not_T (has_test rules i t) none),
              )))

          go
              : (x y : Found) → term_at piece p ≡ x → term_at piece q ≡ y
              → pair_step (by_none rules key t) (by_other rules key t) x y ≡ go_to w → KeptRules key t w
          go lacking y d e s = clash (cc)
          go (found x) lacking d e s = clash (cc)
          go (found x) (found y) d e s = compared x y d e (compare x y) refl s

      -- Hence the step at the node that asks the test.
      pub asked_kept
          : WellFormeds piece → (w : Vertex) → step_at piece (ask_node rules key t (test_at rules t)) ≡ go_to w → KeptRules key t w
      asked_kept ok w = go (test_at rules t) refl
        where
          go : (x : Test) → test_at rules t ≡ x → step_at piece (ask_node rules key t x) ≡ go_to w → KeptRules key t w
          go (place n) e s = Place-kept n e ok w s
          go (pair p q) e s = pair_kept p q e w s
