-- What a switch owes to the walk, whatever its cases are and whichever rules a case keeps: where a known term leads keeps, of the
-- live rules, exactly those of which the term does not contradict what they want there. The switches of a built graph owe it to
-- every well-formed piece.
use Prim.Native.Nat.{ℕ, ◌<◌}
use mathlib.Core.Path.{◌≡◌, subst, ◌∙◌}
use mathlib.Core.Bool.{Bool, ◌&&◌, not}
use mathlib.Core.Logic.{inl, inr}
use mathlib.Core.List.{List}
use mathlib.Core.Option.{Option}
use lib.Dec.{T}
use lib.ListN.{length}
use Rattle.masks.specs.Mask.{has}
use Rattle.basics.specs.Lists.{All}
use Rattle.terms.specs.Term.{Term, Terms}
use Rattle.terms.specs.Pattern.{Patterns}
use Rattle.terms.specs.RuleTests.{Want}
use Rattle.terms.specs.Lookup.{found, term_at}
use Rattle.terms.specs.Filling.{WellFormed, WellFormeds}
use Rattle.terms.specs.Accepted.{AcceptedRule}
use Rattle.terms.proofs.Unknown.{IsUnknown}
use Rattle.terms.proofs.TermPlaces.{IfFound}
use Rattle.terms.proofs.WellFormed.{finds_well_formed}
use Rattle.sheet_tests.specs.SheetTests.{place}
use Rattle.decision.specs.Rules.{test_at, has_test, want_at, rules_where}
use Rattle.decision.specs.Key.{Key, Vertex}
use Rattle.decision.specs.Cases.{Case, cases_of}
use Rattle.decision.specs.Node.{CaseEdge, follow}
use Rattle.decision.specs.Edges.{case_keeps, live_wants, leads_to, but_test, by_none}
use Rattle.decision.proofs.cases.SwitchEdges.{edges_to, open_at, KeepsOpen}
use Rattle.decision.proofs.cases.CasesLaws.{edge_keeps}
use Rattle.decision.proofs.rules.LiveWants.{each_want, each_there}
use Rattle.decision.proofs.rules.SoundWants.{wants_sound}
use Rattle.decision.proofs.rules.TheWant.{without_want}

-- Which cases there are for what is wanted, and which wants a case keeps.
pub record Switches : Type 0 where
  pub cases : List Want → List Case
  pub keeps : Case → Option Want → Bool

-- Those of a graph.
abbrev pub graph_switches : Switches
graph_switches = record { cases = cases_of; keeps = case_keeps }

module _ (rules : List Patterns) where
  -- The key's live rules that stay, with the test settled.
  abbrev pub staying : Key → ℕ → (ℕ → Bool) → Vertex
  staying key t stays = leads_to rules (rules_where rules (λ i. has key.live i && stays i)) (but_test key t)

  -- Where a case leads, the edges of all cases, and where a known term leads.
  abbrev pub case_edge : Switches → Key → ℕ → ℕ → Case → Vertex
  case_edge switches key t n c = staying key t (λ i. switches.keeps c (want_at rules i n))

  abbrev pub case_edges : Switches → Key → ℕ → ℕ → List (CaseEdge Vertex)
  case_edges switches key t n = edges_to (case_edge switches key t n) (switches.cases (live_wants rules key.live n))

  abbrev pub term_edge : Switches → Key → ℕ → ℕ → Term → Vertex
  term_edge switches key t n u = follow (case_edges switches key t n) (by_none rules key t) u

  -- The rules that stay are those of which the term does not contradict what they want at the place.
  pub record StaysOpen (key : Key) (t n : ℕ) (u : Term) (v : Vertex) : Type 0 where
    pub stays : ℕ → Bool
    pub leads : v ≡ staying key t stays
    pub opens : (i : ℕ) → i < length rules → T (has key.live i) → stays i ≡ open_at u (want_at rules i n)

  pub record SwitchOwes (piece : Terms) (switches : Switches) : Type 0 where
    pub edge
        : (key : Key) (t n : ℕ) → test_at rules t ≡ place n → (u : Term) → term_at piece n ≡ found u → (IsUnknown (found u) → ⊥)
        → StaysOpen key t n u (term_edge switches key t n u)

  module _ (arity : ℕ) (accepted : All (AcceptedRule arity) rules) (piece : Terms) where
    -- It is owed where the edge taken keeps exactly what is open of all that the live rules want.
    keeps_owes
        : (switches : Switches)
        → ((live n : ℕ) (u : Term) → term_at piece n ≡ found u → (IsUnknown (found u) → ⊥) → (f : Case → Vertex) (neither : Vertex)
        → KeepsOpen switches.keeps (switches.cases (live_wants rules live n)) f neither (each_want rules live n) u)
        → SwitchOwes piece switches
    keeps_owes switches keeps = record {
      edge = λ key t n at u there-is known.
          elim (keeps key.live n u there-is known (case_edge switches key t n) (by_none rules key t)) [
            | inl r ↦ record {
              stays = λ i. switches.keeps r.0 (want_at rules i n);
              leads = r.1;
              opens = λ i l m. r.2 (want_at rules i n) (each_there rules key.live n i l m);
            }
            | inr r ↦ record {
              stays = λ i. not (has_test rules i t);
              leads = r.0;
              opens = λ i l m.
                  without_want arity rules accepted t n at i l
                  ∙ r.1 (want_at rules i n) (each_there rules key.live n i l m);
            }
          ];
    }

    -- The switches of a graph owe it to every well-formed piece.
    pub switch_owes : WellFormeds piece → SwitchOwes piece graph_switches
    switch_owes ok =
        keeps_owes graph_switches (λ live n u there-is known f neither.
        let own : WellFormed u = subst (IfFound WellFormed) there-is (finds_well_formed piece ok 4 n) in
        edge_keeps (each_want rules live n) u f neither (wants_sound arity rules accepted live n) own known)
