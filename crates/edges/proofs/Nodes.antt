-- The node of a key, off the tables and cuts of a sheet, is the node of the key's vertex.
use Prim.Native.Nat.{ℕ, ◌/◌, ◌%◌, ◌^◌, ◌<◌}
use mathlib.Core.Path.{◌≡◌, refl, sym, ap, subst, ◌∙◌}
use mathlib.Core.Bool.{Bool, true, cond}
use mathlib.Core.List.{List, [], ◌∷◌, map}
use mathlib.Core.Logic.{by_cases}
use mathlib.Core.Option.{Option, some, none}
use native.Mathlib.Decide.{ℕ_discrete}
use native.Mathlib.Omega.{arith}
use lib.ListN.{length}
use borrow.Author.Tests.{eq-eqb, ne_eqb}
use Rattle.basics.specs.Lists.{All}
use Rattle.basics.proofs.Booleans.{by_test}
use Rattle.basics.proofs.Clash.{clash}
use Rattle.masks.specs.Mask.{has, members}
use Rattle.masks.proofs.Membership.{has_empty, has_lt}
use Rattle.masks.proofs.Members.{members_none}
use Rattle.terms.specs.Pattern.{Patterns}
use Rattle.terms.specs.RuleTests.{Want}
use Rattle.sheet_tests.specs.SheetTests.{Test, place, pair, sheet_tests}
use Rattle.decision.specs.Rules.{test_at, want_at}
use Rattle.decision.specs.Key.{Key}
use Rattle.decision.specs.Cases.{Case, cases_of}
use Rattle.decision.specs.Node.{switch, pair_node, map_case, map_node}
use Rattle.decision.specs.Edges.{first_in, live_wants, by_case, ask_node, ask_first, node_of}
use Rattle.tables.specs.views.Planes.{test_in, first_asked_in}
use Rattle.tables.specs.views.TablesOf.{TablesOf, is_place, test_code, Near}
use Rattle.codes.specs.views.Codes.{SoundWant}
use Rattle.decision.specs.views.CaseCodes.{case_low, case_high}
use Rattle.cuts.specs.views.Cuts.{part_at, cuts_in}
use Rattle.cuts.specs.views.Runs.{run_case}
use Rattle.cuts.specs.views.CaseRuns.{switch_runs}
use Rattle.cuts.specs.views.CutsOf.{CutsOf, case_run}
use Rattle.cuts.proofs.ListedWants.{wants_sound}
use Rattle.cuts.proofs.CaseCodes.{case_of_run}
use Rattle.cuts.proofs.PairSwitch.{runs_make_pairs}
use Rattle.edges.specs.views.VertexKey.{vertex_key, vertex_by, vertex_in, Fits}
use Rattle.edges.specs.views.KeysBehind.{asked_in}
use Rattle.edges.specs.views.NodeIn.{run_edge, switch_edges, ask_in, node_with, node_in}
use Rattle.edges.proofs.EdgeKeys.{none_is, other_is, run_is, unknown_is}

-- The codes of a case say which it is.
abbrev Told : Case → Type 0
Told c = run_case (case_low c) (case_high c) ≡ c

-- Edges are the same where each is.
edges_same
    : {A B C D : Type 0} (Q : A → Type 0) (f : B → D) (g : A → B) (h : C → D) (k : A → C)
    → ((x : A) → Q x → f (g x) ≡ h (k x)) → (xs : List A) → All Q xs → map f (map g xs) ≡ map h (map k xs)
edges_same Q f g h k same [] all = refl
edges_same Q f g h k same (x ∷ xs) all = λ i. same x all.0 i ∷ edges_same Q f g h k same xs all.1 i

-- The first of a list that is in a set is in the set,
first_in_lem : (set t : ℕ) (l : List ℕ) → first_in set l ≡ some t → has set t ≡ true
first_in_lem set t [] e = clash (cc)
first_in_lem set t (u ∷ l) e =
    by_test (has set u)
    (λ y.
    let found : some u ≡ some t = sym (ap (λ (b : Bool). cond b (some u) (first_in set l)) y) ∙ e in
    let same : u ≡ t = cc in
    ap (has set) (sym same) ∙ y)
    (λ n. first_in_lem set t l (sym (ap (λ (b : Bool). cond b (some u) (first_in set l)) n) ∙ e))

-- and no number is in the empty set.
first_none : (l : List ℕ) → first_in 0 l ≡ none
first_none [] = refl
first_none (t ∷ l) = ap (λ (b : Bool). cond b (some t) (first_in 0 l)) (has_empty t) ∙ first_none l

module _ (rules : List Patterns) (order s c : List ℕ) (tables : TablesOf rules order s) (cuts : CutsOf rules c)
    (sound : (i n : ℕ) (w : Want) → want_at rules i n ≡ some w → SoundWant w) (key : Key) where
  module _ (t : ℕ) (lives : key.live < 2 ^ length rules) (pends : key.pending < 2 ^ length (sheet_tests rules))
      (below : t < length (sheet_tests rules)) where
    -- The cases of the switch, each with the key behind it.
    edges_are_lem
        : (n : ℕ) → test_at rules t ≡ place n
        → switch_edges s c (asked_in s key t)
        ≡ map (map_case vertex_key)
        (map (λ (d : Case). record { case = d; target = by_case rules key t n d }) (cases_of (live_wants rules key.live n)))
    edges_are_lem n at =
        let a = asked_in s key t in
        let wants = live_wants rules key.live n in
        ap (λ (r : ℕ). map (run_edge s a) (switch_runs key.live (cuts_in c (part_at r t)))) tables.rules_are
        ∙ ap (λ l. map (run_edge s a) (switch_runs key.live l)) (cuts t n below at)
        ∙ ap (map (run_edge s a)) (sym (runs_make_pairs rules n key.live lives (λ i w. sound i n w)))
        ∙ edges_same Told (run_edge s a) (case_run rules n key.live) (map_case vertex_key) _
        (λ d e. λ i. record { case = e i; target = run_is rules order s tables key t lives pends below n at d i })
        (cases_of wants) (case_of_run wants (wants_sound rules key.live n (λ i w. sound i n w)))

    -- The node that asks test t.
    ask_is : ask_in s c (asked_in s key t) ≡ map_node vertex_key (ask_node rules key t (test_at rules t))
    ask_is = go (test_at rules t) refl
      where
        go : (x : Test) → test_at rules t ≡ x → ask_in s c (asked_in s key t) ≡ map_node vertex_key (ask_node rules key t x)
        go (place n) e =
            let near = subst Near e (tables.near t below) in
            let number : test_in s t % 0x1_0000 ≡ n = omega (arith, tables.test t below ∙ ap test_code e) in
            rw (sym (tables.split t below) ∙ ap is_place e)
            (λ i. switch (number i) (edges_are_lem n e i) (none_is rules order s tables key t lives pends below i)
            (unknown_is rules order s tables key t lives pends below n e i))
        go (pair p q) e =
            let near = subst Near e (tables.near t below) in
            let code = tables.test t below ∙ ap test_code e in
            let first : test_in s t / 0x1_0000 % 0x1_0000 ≡ p = omega (arith, code, near.0, near.1) in
            let second : test_in s t % 0x1_0000 ≡ q = omega (arith, code, near.0, near.1) in
            rw (sym (tables.split t below) ∙ ap is_place e)
            (λ i. pair_node (first i) (second i) (none_is rules order s tables key t lives pends below i)
            (other_is rules order s tables key t lives pends below i))

  -- The node of a key is that of its vertex, with the keys of the vertices to which its edges lead.
  pub node_is : Fits rules key → node_in s c key ≡ map_node vertex_key (node_of rules order (vertex_in key))
  node_is fits = go (members 64 key.live) refl
    where
      go : (l : List ℕ) → members 64 key.live ≡ l
          → node_with s c l key ≡ map_node vertex_key (node_of rules order (vertex_by l key))
      go [] e = refl
      go (i ∷ []) e = refl
      go (i ∷ (j ∷ l)) e =
          let pends = fits.pends (λ (z : key.live ≡ 0). let empty = members_none 64 key.live z in clash (cc)) in
          by_cases (ℕ_discrete key.pending 0)
          (λ (z : key.pending ≡ 0).
          rw (eq-eqb key.pending 0 z)
          (sym
          (ap (λ (set : ℕ). map_node vertex_key (ask_first rules key (first_in set order))) z
          ∙ ap (λ (o : Option ℕ). map_node vertex_key (ask_first rules key o)) (first_none order))))
          (λ (z : ¬ (key.pending ≡ 0)).
          let t = first_asked_in s key.pending in
          let asked = tables.first key.pending pends z in
          rw (ne_eqb key.pending 0 z)
          (ask_is t fits.lives pends
          (has_lt (length (sheet_tests rules)) key.pending t pends (first_in_lem key.pending t order asked))
          ∙ sym (ap (λ (o : Option ℕ). map_node vertex_key (ask_first rules key o)) asked)))
