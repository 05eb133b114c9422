-- What the list of a walk that suspends holds: "the tests met not known on the walk" (document 01, "The
-- walk"), and "a place met is also listed if its span lies partly inside and partly outside the range of a rule live there"
-- (document 02, request 4). Live there is live at that node on the walk: on the nodes walked before it.
use Prim.Native.Nat.{ℕ, suc, ◌<◌}
use mathlib.Core.Path.{◌≡◌, refl, ap, sym, subst, ◌∙◌}
use mathlib.Core.Bool.{◌&&◌}
use mathlib.Core.Logic.{◌↔◌, ◌⊎◌, inl, inr}
use mathlib.Core.List.{List, [], ◌∷◌, ◌++◌, append_assoc, append-nil}
use mathlib.Core.Option.{Option, some, none}
use lib.Dec.{T, leb, eqb}
use lib.ListN.{length}
use Rattle.masks.specs.Mask.{has}
use Rattle.basics.specs.Lists.{any_below}
use Rattle.basics.proofs.Booleans.{both_true, true_both, either_true, true_left, true_right}
use Rattle.terms.specs.Term.{Terms, count, unknown, never, symbol, numbers, compound}
use Rattle.terms.specs.Pattern.{Patterns}
use Rattle.terms.specs.RuleTests.{Want, a_symbol, a_number, a_compound}
use Rattle.terms.specs.Lookup.{Found, lacking, found, term_at}
use Rattle.terms.specs.Outcome.{NotKnown, inside, fits, at_place}
use Rattle.terms.specs.Answer.{rule_at}
use Rattle.terms.proofs.Outcomes.{known_decided}
use Rattle.sheet_tests.specs.SheetTests.{Test, place, pair, sheet_tests}
use Rattle.decision.specs.Rules.{test_at, has_test, want_at}
use Rattle.decision.specs.Node.{Node}
use Rattle.decision.specs.Path.{node_at}
use Rattle.decision.specs.Walk.{is_not_known, is_unknown, test_not_known, asks_test, is_met, want_outcome, test_outcome, live_on}
use Rattle.decision.specs.Walk.{waits_for, is_listed, listed_from, suspend_waits}
use Rattle.decision.specs.Waiting.{IsTest}
use Rattle.decision.proofs.keys.Sets.{in_where, where_in, in_any, any_in}
use Rattle.decision.proofs.rules.TestsOfRules.{HasTest, want_has}
use Rattle.decision.proofs.waiting.SpanWaits.{met_listed, is_not_known_lem, not_known_is}

-- A want is not known only at an unknown, and at a span that lies partly inside its range.
abbrev Partly : Found → Want → Type 0
Partly x w = (l h a b : ℕ) × (w ≡ a_number l h) × (x ≡ found (numbers a b)) × NotKnown (inside l h a b)

partly : (w : Want) (x : Found) → NotKnown (at_place (fits w) x) → T (is_unknown x) ⊎ Partly x w
partly w lacking u = absurd u
partly w (found unknown) u = inl tt
partly w (found never) u = absurd u
partly (a_symbol l h) (found (symbol a)) u = absurd (known_decided (leb l a && leb a h) u)
partly (a_symbol l h) (found (numbers a b)) u = absurd u
partly (a_symbol l h) (found (compound b ts)) u = absurd u
partly (a_number l h) (found (symbol b)) u = absurd u
partly (a_number l h) (found (numbers a b)) u = inr (l, h, a, b, refl, refl, u)
partly (a_number l h) (found (compound b ts)) u = absurd u
partly (a_compound a n) (found (symbol b)) u = absurd u
partly (a_compound a n) (found (numbers b c)) u = absurd u
partly (a_compound a n) (found (compound b ts)) u = absurd (known_decided (eqb a b && eqb n (count ts)) u)

module _ (rules : List Patterns) (nodes : List (Node ℕ)) (piece : Terms) where
  -- Where rule i is live, the span at the place of test t lies partly inside and partly outside its range.
  pub record PartlyInside (before : List ℕ) (t : ℕ) : Type 0 where
    pub spot : ℕ
    pub low : ℕ
    pub high : ℕ
    pub lowest : ℕ
    pub highest : ℕ
    pub rule : ℕ
    pub asks : test_at rules t ≡ place spot
    pub span : term_at piece spot ≡ found (numbers lowest highest)
    pub is_rule : rule < length rules
    pub live : T (live_on rules nodes piece before rule)
    pub wants : want_at rules rule spot ≡ some (a_number low high)
    pub not_known : NotKnown (inside low high lowest highest)

  -- A node of the walk asks it, and it is so there.
  pub record PartlyMet (walked : List ℕ) (t : ℕ) : Type 0 where
    pub front : List ℕ
    pub node : ℕ
    pub back : List ℕ
    pub is_walked : walked ≡ front ++ node ∷ back
    pub asked : T (asks_test (test_at rules t) (node_at nodes node))
    pub partly_inside : PartlyInside front t

  -- What is listed at a node is not known, or its span lies partly inside the range of a rule live there,
  listed_is : (before : List ℕ) (t : ℕ) → T (is_listed rules nodes piece before t)
      → T (test_not_known piece (test_at rules t)) ⊎ PartlyInside before t
  listed_is before t h =
      elim (either_true (test_not_known piece (test_at rules t)) (any_below (length rules) (waits_for rules nodes piece before t)) h) [
        | inl u ↦ inl u
        | inr k ↦
            let r = any_in (length rules) (waits_for rules nodes piece before t) k in
            let outcome = test_outcome rules piece r.0 (test_at rules t) in
            let s = both_true (live_on rules nodes piece before r.0 && has_test rules r.0 t) (is_not_known outcome) r.2 in
            let live = (both_true (live_on rules nodes piece before r.0) (has_test rules r.0 t) s.0).0 in
            at_test r.0 r.1 live (test_at rules t) refl (not_known_is outcome s.1)
      ]
    where
      at_test
          : (i : ℕ) → i < length rules → T (live_on rules nodes piece before i) → (x : Test) → test_at rules t ≡ x
          → NotKnown (test_outcome rules piece i x) → T (test_not_known piece x) ⊎ PartlyInside before t
      at_test i l live (pair p q) e u = inl (is_not_known_lem (test_outcome rules piece i (pair p q)) u)
      at_test i l live (place n) e u = go (want_at rules i n) refl u
        where
          go
              : (o : Option Want) → want_at rules i n ≡ o → NotKnown (want_outcome o (term_at piece n))
              → T (is_unknown (term_at piece n)) ⊎ PartlyInside before t
          go none d k = absurd k
          go (some w) d k =
              elim (partly w (term_at piece n) k) [
                | inl z ↦ inl z
                | inr z ↦ inr (record {
                  spot = n;
                  low = z.0;
                  high = z.1;
                  lowest = z.2;
                  highest = z.3;
                  rule = i;
                  asks = e;
                  span = z.5;
                  is_rule = l;
                  live = live;
                  wants = d ∙ ap some z.4;
                  not_known = z.6;
                })
              ]

  -- and what is so is listed.
  is_listed_lem : (before : List ℕ) (t : ℕ) → PartlyInside before t → T (is_listed rules nodes piece before t)
  is_listed_lem before t p =
      let i = p.rule in
      let own : T (has_test rules i t) =
      subst (HasTest (rule_at rules (suc i))) (sym p.asks) (want_has (rule_at rules (suc i)) p.spot _ p.wants) in
      let outcome = test_outcome rules piece i (test_at rules t) in
      let unsure : NotKnown outcome = rw (p.asks, p.wants, p.span) p.not_known in
      true_right (test_not_known piece (test_at rules t)) (any_below (length rules) (waits_for rules nodes piece before t))
      (in_any (length rules) i (waits_for rules nodes piece before t) p.is_rule
      (true_both (live_on rules nodes piece before i && has_test rules i t) (is_not_known outcome)
      (true_both (live_on rules nodes piece before i) (has_test rules i t) p.live own) (is_not_known_lem outcome unsure)))

  -- A test is listed from some nodes on if it is at one of them.
  listed_at
      : (t : ℕ) (before front : List ℕ) (n : ℕ) (back : List ℕ) → T (asks_test (test_at rules t) (node_at nodes n))
      → T (is_listed rules nodes piece (before ++ front) t) → T (listed_from rules nodes piece before (front ++ n ∷ back) t)
  listed_at t before [] n back asked h =
      let here = subst (λ (ns : List ℕ). T (is_listed rules nodes piece ns t)) (append-nil before) h in
      let now = asks_test (test_at rules t) (node_at nodes n) in
      true_left (now && is_listed rules nodes piece before t) (listed_from rules nodes piece (before ++ n ∷ []) back t)
      (true_both now (is_listed rules nodes piece before t) asked here)
  listed_at t before (f ∷ front) n back asked h =
      let later = subst (λ (ns : List ℕ). T (is_listed rules nodes piece ns t)) (sym (append_assoc before (f ∷ []) front)) h in
      true_right (asks_test (test_at rules t) (node_at nodes f) && is_listed rules nodes piece before t)
      (listed_from rules nodes piece (before ++ f ∷ []) (front ++ n ∷ back) t)
      (listed_at t (before ++ f ∷ []) front n back asked later)

  -- A test is listed from some nodes on only if it is met there not known, or at one of them a span lies partly inside.
  listed_from_lem
      : (t : ℕ) (before ns : List ℕ) → T (listed_from rules nodes piece before ns t)
      → (T (is_met rules nodes ns t) × T (test_not_known piece (test_at rules t)))
      ⊎ ((front : List ℕ) × (n : ℕ) × (back : List ℕ) × (ns ≡ front ++ n ∷ back)
      × T (asks_test (test_at rules t) (node_at nodes n)) × PartlyInside (before ++ front) t)
  listed_from_lem t before [] h = absurd h
  listed_from_lem t before (n ∷ ns) h =
      let asked = asks_test (test_at rules t) (node_at nodes n) in
      let later = listed_from rules nodes piece (before ++ n ∷ []) ns t in
      elim (either_true (asked && is_listed rules nodes piece before t) later h) [
        | inl k ↦
            let s = both_true asked (is_listed rules nodes piece before t) k in
            elim (listed_is before t s.1) [
              | inl u ↦ inl (true_left asked (is_met rules nodes ns t) s.0, u)
              | inr p ↦ inr ([], n, ns, refl, s.0, subst (λ (l : List ℕ). PartlyInside l t) (sym (append-nil before)) p)
            ]
        | inr k ↦ elim (listed_from_lem t (before ++ n ∷ []) ns k) [
          | inl s ↦ inl (true_right asked (is_met rules nodes ns t) s.0, s.1)
          | inr s ↦
              let here = subst (λ (l : List ℕ). PartlyInside l t) (append_assoc before (n ∷ []) s.0) s.5 in
              inr (n ∷ s.0, s.1, s.2, ap (λ (l : List ℕ). n ∷ l) s.3, s.4, here)
        ]
      ]

  -- The list holds the tests met that are not known in the piece, and the places met whose span lies partly inside and partly
  -- outside the range of a rule live there.
  pub span_waits_are
      : (walked : List ℕ) (t : ℕ) → IsTest rules t
      → T (has (suspend_waits rules nodes piece walked) t)
      ↔ ((T (is_met rules nodes walked t) × T (test_not_known piece (test_at rules t))) ⊎ PartlyMet walked t)
  span_waits_are walked t l = (
    λ h. elim (listed_from_lem t [] walked (where_in (length (sheet_tests rules)) (listed_from rules nodes piece [] walked) t h).1) [
      | inl s ↦ inl s
      | inr s ↦ inr (record { front = s.0; node = s.1; back = s.2; is_walked = s.3; asked = s.4; partly_inside = s.5 })
    ],
    λ d. in_where (length (sheet_tests rules)) (listed_from rules nodes piece [] walked) t l (elim d [
      | inl s ↦ met_listed rules nodes piece t (λ before. true_left (test_not_known piece (test_at rules t)) _ s.1) [] walked s.0
      | inr p ↦
          subst (λ (ns : List ℕ). T (listed_from rules nodes piece [] ns t)) (sym p.is_walked)
          (listed_at t [] p.front p.node p.back p.asked (is_listed_lem p.front t p.partly_inside))
    ]),
  )
