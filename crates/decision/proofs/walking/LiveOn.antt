-- "On it a rule is live until a test of it met there is contradicted": on a built graph the live rules of each walked node's
-- key are those that `live_on` says, of the nodes walked before it. In every asking order, and for every well-formed
-- piece.
use Prim.Native.Nat.{ℕ, zero, suc, ◌<◌}
use mathlib.Core.Path.{◌≡◌, refl, ap, sym, subst, ◌∙◌}
use mathlib.Core.Bool.{Bool, true, false, ◌&&◌, ◌||◌, cond}
use mathlib.Core.Logic.{◌↔◌, inl, inr}
use mathlib.Core.List.{List, [], ◌∷◌, ◌++◌, append_assoc, append-nil}
use mathlib.Core.Option.{Option, some, none}
use lib.Dec.{T, T_not, not_T}
use lib.ListN.{length}
use Rattle.masks.specs.Mask.{has}
use Rattle.basics.specs.Lists.{Mem, All, any_below}
use Rattle.basics.proofs.Booleans.{both_true, true_both, either_true, true_left, true_right, same_truth}
use Rattle.basics.proofs.Clash.{clash}
use Rattle.basics.proofs.Filters.{any_join}
use Rattle.terms.specs.Term.{Terms}
use Rattle.terms.specs.Pattern.{Patterns}
use Rattle.terms.specs.Filling.{WellFormeds}
use Rattle.terms.specs.Accepted.{AcceptedRule}
use Rattle.terms.specs.Answer.{rule_at}
use Rattle.sheet_tests.specs.SheetTests.{sheet_tests}
use Rattle.decision.specs.Rules.{same_test, test_at, has_test, rules_where}
use Rattle.decision.specs.Key.{Key, Leaf, Vertex, leaf, asking, root_key, vertex_of}
use Rattle.decision.specs.Node.{Node}
use Rattle.decision.specs.Edges.{first_in, ask_first, node_of}
use Rattle.decision.specs.Graph.{vertices, numbered}
use Rattle.records.specs.Reading.{took, refused}
use Rattle.decision.specs.Path.{Step, stop, go_to, no_way, step_at}
use Rattle.decision.specs.Path.{Path, ends, through, node_at, last_step, next_step, path_from, path, most_edges}
use Rattle.decision.specs.Walk.{asks_test, is_met, test_outcome, is_contradicted, live_on}
use Rattle.decision.proofs.keys.Sets.{in_where, in_any, any_in}
use Rattle.decision.proofs.rules.TestsOfRules.{HasTest, same_test_lem, test_same}
use Rattle.decision.proofs.keys.Vertices.{Means, pending_in, vertex_means}
use Rattle.decision.proofs.walking.StepEdges.{map_step, step_edge}
use Rattle.decision.proofs.built.BuiltNodes.{root_vertex, number_of, edges_met, root_met, root_number}
use Rattle.decision.proofs.walking.BuiltSteps.{step_at_lem, asked_is}
use Rattle.decision.proofs.walking.LiveEdges.{Against, KeptRules, asked_kept}

-- The nodes walked on a path, and the bytes that it takes as a reading.
abbrev nodes_on : Path → List ℕ
nodes_on (took a way) = way.walked
nodes_on (refused q) = []

abbrev bytes_on : Path → ℕ
bytes_on (took a way) = a
bytes_on (refused q) = 0

-- The first of a list that is in the set is in the set.
first_in_lem : (set : ℕ) (ts : List ℕ) {t : ℕ} → first_in set ts ≡ some t → T (has set t)
first_in_lem set [] e = clash (cc)
first_in_lem set (x ∷ xs) {t} e = go (has set x) refl (λ d. first_in_lem set xs d) e
  where
    go
        : (b : Bool) → has set x ≡ b → (first_in set xs ≡ some t → T (has set t))
        → cond b (some x) (first_in set xs) ≡ some t → T (has set t)
    go true d rest k =
        let same : x ≡ t = cc in subst (λ (y : ℕ). T (has set y)) same (subst T (sym d) tt)
    go false d rest k = rest k

module _ (arity : ℕ) (rules : List Patterns) (accepted : All (AcceptedRule arity) rules) (piece : Terms) where
  module _ (nodes : List (Node ℕ)) where
    -- A rule is live on a walk exactly when no test of it met there is contradicted.
    pub live_says
        : (walked : List ℕ) (i : ℕ)
        → T (live_on rules nodes piece walked i)
        ↔ ((u : ℕ) → u < length (sheet_tests rules) → T (is_met rules nodes walked u) → T (has_test rules i u)
        → Against arity rules accepted piece nodes i (test_at rules u) → ⊥)
    live_says walked i = (
      λ h u l met own c.
          let both = true_both (is_met rules nodes walked u) (has_test rules i u) met own in
          T_not (any_below tests bad) h (in_any tests u bad l (true_both (mine u) (against u) both c)),
      λ free. not_T (any_below tests bad) (λ h.
          let r = any_in tests bad h in
          let s = both_true (mine r.0) (against r.0) r.2 in
          let z = both_true (is_met rules nodes walked r.0) (has_test rules i r.0) s.0 in
          free r.0 r.1 z.0 z.1 s.1),
    )
      where
        tests : ℕ
        tests = length (sheet_tests rules)

        mine : ℕ → Bool
        mine u = is_met rules nodes walked u && has_test rules i u

        against : ℕ → Bool
        against u = is_contradicted (test_outcome rules piece i (test_at rules u))

        bad : ℕ → Bool
        bad u = mine u && against u

  module _ (order : List ℕ) (vs : List Vertex) (built : vertices rules order ≡ some vs) where
    -- The nodes, and the numbers of the vertices.
    abbrev nodes : List (Node ℕ)
    nodes = numbered rules order vs

    abbrev number_at : Vertex → ℕ
    number_at v = number_of rules order vs v

    -- A vertex is that of a key whose live rules are those that are live on the nodes walked before it.
    pub record LiveAt (before : List ℕ) (v : Vertex) : Type 0 where
      pub key : Key
      pub is : v ≡ vertex_of rules key
      pub inside : (u : ℕ) → T (has key.pending u) → u < length (sheet_tests rules)
      pub live : (i : ℕ) → i < length rules → has key.live i ≡ live_on rules nodes piece before i

    -- It is so of the root,
    root_live : LiveAt [] (root_vertex rules order)
    root_live = record {
      key = root_key rules;
      is = refl;
      inside = λ u h. (pending_in rules (rules_where rules (λ i. true)) (λ t. true) u h).0;
      live = λ i l.
          same_truth (has (root_key rules).live i) (live_on rules nodes piece [] i)
          (λ h. (live_says nodes [] i).1 (λ u k met. absurd met))
          (λ h. in_where (length rules) (λ j. true) i l tt);
    }

    -- A node that asks is known by its key,
    same_key_lem : {before : List ℕ} {k : Key} (here : LiveAt before (asking k)) → k ≡ here.key
    same_key_lem here = (subst (Means rules here.key) (sym here.is) (vertex_means rules here.key)).0

    -- whose live rules are then those that are live on the nodes walked before it.
    pub asking_live
        : {before : List ℕ} {k : Key} → LiveAt before (asking k) → (i : ℕ) → i < length rules
        → has k.live i ≡ live_on rules nodes piece before i
    asking_live here i l = ap (λ (key : Key). has key.live i) (same_key_lem here) ∙ here.live i l

    module _ (before : List ℕ) (k : Key) (m : Mem (asking k) vs) (t : ℕ) (first : first_in k.pending order ≡ some t) where
      abbrev after : List ℕ
      after = before ++ number_at (asking k) ∷ []

      -- The node asks test t, so what is met with it is what was met before, and test t.
      met_is
          : (u : ℕ)
          → is_met rules nodes after u
          ≡ is_met rules nodes before u || (same_test (test_at rules u) (test_at rules t) || false)
      met_is u =
          any_join (λ (n : ℕ). asks_test (test_at rules u) (node_at nodes n)) before (number_at (asking k) ∷ [])
          ∙ ap (λ (b : Bool). is_met rules nodes before u || (b || false))
          (asked_is rules order vs built piece k m t first (test_at rules u))

      -- A step keeps the live rules right.
      step_live : LiveAt before (asking k) → (w : Vertex) → KeptRules arity rules accepted piece nodes k t w → LiveAt after w
      step_live here w kept = record { key = kept.next; is = kept.leads; inside = kept.inside; live = λ i l. live i l }
        where
          -- The test asked has a number.
          numbered_test : t < length (sheet_tests rules)
          numbered_test =
              here.inside t
              (subst (λ (key : Key). T (has key.pending t)) (same_key_lem here) (first_in_lem k.pending order first))

          forth : (i : ℕ) → i < length rules → T (has kept.next.live i) → T (live_on rules nodes piece after i)
          forth i l h =
              let x = (kept.stays i l).0 h in
              let old = (live_says nodes before i).0 (subst T (asking_live here i l) x.0) in
              (live_says nodes after i).1 (λ u inside met own c.
              elim (either_true (is_met rules nodes before u) _ (subst T (met_is u) met)) [
                | inl k ↦ old u inside k own c
                | inr k ↦
                    elim (either_true (same_test (test_at rules u) (test_at rules t)) false k) [
                      | inl s ↦
                          let e = same_test_lem (test_at rules u) (test_at rules t) s in
                          x.1 (subst (HasTest (rule_at rules (suc i))) e own)
                          (subst (Against arity rules accepted piece nodes i) e c)
                      | inr s ↦ absurd s
                    ]
              ])

          back : (i : ℕ) → i < length rules → T (live_on rules nodes piece after i) → T (has kept.next.live i)
          back i l h =
              let new = (live_says nodes after i).0 h in
              let old = (live_says nodes before i).1 (λ u inside met own c.
              new u inside (subst T (sym (met_is u)) (true_left (is_met rules nodes before u) _ met)) own c) in
              let now : T (is_met rules nodes after t) =
              subst T (sym (met_is t)) (true_right (is_met rules nodes before t) _
              (true_left (same_test (test_at rules t) (test_at rules t)) false (test_same (test_at rules t)))) in
              (kept.stays i l).1 (subst T (sym (asking_live here i l)) old, λ own c. new t numbered_test now own c)

          live : (i : ℕ) → i < length rules → has kept.next.live i ≡ live_on rules nodes piece after i
          live i l = same_truth (has kept.next.live i) (live_on rules nodes piece after i) (forth i l) (back i l)

    -- A step from a vertex keeps the live rules right.
    next_live
        : WellFormeds piece → (before : List ℕ) (v : Vertex) → Mem v vs → LiveAt before v → (w : Vertex)
        → step_at piece (node_of rules order v) ≡ go_to w → LiveAt (before ++ number_at v ∷ []) w
    next_live ok before (leaf l) m here w e = clash (cc)
    next_live ok before (asking k) m here w e = go (first_in k.pending order) refl e
      where
        go
            : (o : Option ℕ) → first_in k.pending order ≡ o → step_at piece (ask_first rules k o) ≡ go_to w
            → LiveAt (before ++ number_at (asking k) ∷ []) w
        go none d s = clash (cc)
        go (some t) d s = step_live before k m t d here w (asked_kept arity rules accepted piece nodes k t ok w s)

    -- The node of that number is a vertex with such a key.
    abbrev pub LiveNode : List ℕ → ℕ → Type 0
    LiveNode before n = (v : Vertex) × Mem v vs × (n ≡ number_at v) × LiveAt before v

    -- It is so of each node of a path that begins at v, where it is so of v: of those after it if it is so of them,
    through_live
        : (before : List ℕ) (v : Vertex) → Mem v vs → LiveAt before v → (rest front : List ℕ) (n : ℕ) (back : List ℕ)
        → ((fs : List ℕ) → rest ≡ fs ++ n ∷ back → LiveNode ((before ++ number_at v ∷ []) ++ fs) n)
        → number_at v ∷ rest ≡ front ++ n ∷ back → LiveNode (before ++ front) n
    through_live before v m here rest [] n back later e =
        let none : before ++ [] ≡ before = append-nil before in
        (v, m, cc, subst (λ (l : List ℕ). LiveAt l v) (sym none) here)
    through_live before v m here rest (f ∷ fs) n back later e =
        let first : number_at v ≡ f = cc in
        let others : rest ≡ fs ++ n ∷ back = cc in
        subst (λ (l : List ℕ). LiveNode l n)
        (append_assoc before (number_at v ∷ []) fs ∙ ap (λ (x : ℕ). before ++ x ∷ fs) first) (later fs others)

    -- and of v alone where the path ends there.
    end_live
        : (before : List ℕ) (v : Vertex) → Mem v vs → LiveAt before v → (front : List ℕ) (n : ℕ) (back : List ℕ)
        → number_at v ∷ [] ≡ front ++ n ∷ back → LiveNode (before ++ front) n
    end_live before v m here front n back e = through_live before v m here [] front n back (λ fs d. none fs d) e
      where
        none : (fs : List ℕ) → [] ≡ fs ++ n ∷ back → LiveNode ((before ++ number_at v ∷ []) ++ fs) n
        none [] d = clash (cc)
        none (x ∷ fs) d = clash (cc)

    -- What is so of each node of the path.
    abbrev AllLive : ℕ → ℕ → List ℕ → Type 0
    AllLive more start before =
        (walked : List ℕ) (l : Leaf) → path_from nodes piece more start ≡ ends walked l → (front : List ℕ) (n : ℕ)
        (back : List ℕ) → walked ≡ front ++ n ∷ back → LiveNode (before ++ front) n

    path_live
        : WellFormeds piece → (more : ℕ) (v : Vertex) → Mem v vs → (before : List ℕ) → LiveAt before v
        → AllLive more (number_at v) before
    path_live ok zero v m before here walked l e front n back d =
        go (step_at piece (node_of rules order v)) (sym (ap (last_step (number_at v)) (step_at_lem rules order vs built piece v m)) ∙ e)
      where
        go
            : (s : Step Vertex) → last_step (number_at v) (map_step number_at s) ≡ ends walked l
            → LiveNode (before ++ front) n
        go (stop x) k = end_live before v m here front n back (ap nodes_on k ∙ d)
        go (go_to w) k = clash (cc)
        go no_way k = clash (cc)
    path_live ok (suc more) v m before here walked l e front n back d =
        go (step_at piece (node_of rules order v)) refl
        (sym (ap (next_step (path_from nodes piece more) (number_at v)) (step_at_lem rules order vs built piece v m)) ∙ e)
        (λ w k b h. path_live ok more w k b h)
      where
        Later : Type 0
        Later = (w : Vertex) → Mem w vs → (b : List ℕ) → LiveAt b w → AllLive more (number_at w) b

        on
            : (w : Vertex) → step_at piece (node_of rules order v) ≡ go_to w → Later → (p : Path)
            → path_from nodes piece more (number_at w) ≡ p → through (number_at v) p ≡ ends walked l → LiveNode (before ++ front) n
        on w s later (refused q) p k = clash (cc)
        on w s later (took a way) p k =
            let ns = way.walked in
            let x = way.last in
            let whole : path_from nodes piece more (number_at w) ≡ ends ns x = p ∙ ap (λ (b : ℕ). took b way) (ap bytes_on k) in
            let met = edges_met rules order vs built v m w (step_edge piece (node_of rules order v) s) in
            let next = next_live ok before v m here w s in
            through_live before v m here ns front n back
            (λ fs f. later w met (before ++ number_at v ∷ []) next ns x whole fs n back f) (ap nodes_on k ∙ d)

        go
            : (s : Step Vertex) → step_at piece (node_of rules order v) ≡ s
            → next_step (path_from nodes piece more) (number_at v) (map_step number_at s) ≡ ends walked l
            → Later → LiveNode (before ++ front) n
        go (stop x) s k later = end_live before v m here front n back (ap nodes_on k ∙ d)
        go (go_to w) s k later = on w s later (path_from nodes piece more (number_at w)) refl k
        go no_way s k later = clash (cc)

    -- On a built graph, each node that a walk comes to is that of a key whose live rules are those that are live on the
    -- nodes walked before it.
    pub walked_live
        : WellFormeds piece → (walked : List ℕ) (l : Leaf) → path nodes piece ≡ ends walked l → (front : List ℕ) (n : ℕ)
        (back : List ℕ) → walked ≡ front ++ n ∷ back → LiveNode front n
    walked_live ok walked l e front n back d =
        let met = root_met rules order vs built in
        let zero = root_number rules order vs built in
        path_live ok most_edges (root_vertex rules order) met [] root_live walked l
        (ap (path_from nodes piece most_edges) zero ∙ e) front n back d
