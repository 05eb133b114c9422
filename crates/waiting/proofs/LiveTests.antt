-- What is listed along the nodes of a walk is what is not known whatever a rule wants, and what each rule lists along the numbers
-- of the tests met.
use Prim.Native.Nat.{ℕ, ◌<◌}
use mathlib.Core.Path.{◌≡◌, refl, sym, ap, subst, ◌∙◌}
use mathlib.Core.Bool.{Bool, true, false, not, ◌&&◌, ◌||◌, and-true, and-false, or-false}
use mathlib.Core.Logic.{inl, inr}
use mathlib.Core.List.{List, [], ◌∷◌, ◌++◌}
use lib.Dec.{T, eqb, eqb→eq}
use lib.ListN.{length}
use Rattle.basics.specs.Lists.{any_below}
use Rattle.basics.proofs.AnyBelow.{any_none, any_same}
use Rattle.basics.proofs.Booleans.{both_true, true_both, either_true, true_left, true_right, same_truth, is_true}
use Rattle.basics.proofs.Filters.{any_join}
use Rattle.basics.proofs.Numbers.{eq_true}
use Rattle.terms.specs.Term.{Terms}
use Rattle.terms.specs.Pattern.{Patterns}
use Rattle.terms.specs.Outcome.{Outcome, holds, not_known, contradicted}
use Rattle.sheet_tests.specs.SheetTests.{sheet_tests}
use Rattle.decision.specs.Rules.{test_at, has_test}
use Rattle.decision.specs.Node.{Node}
use Rattle.decision.specs.Path.{node_at}
use Rattle.decision.specs.Walk.{is_not_known, is_contradicted, test_not_known, asks_test, is_met, test_outcome, live_on}
use Rattle.decision.specs.Walk.{waits_for, listed_from}
use Rattle.decision.proofs.keys.Sets.{in_any, any_in}
use Rattle.waiting.proofs.RuleAlong.{along}

-- Of some number below n, in two parts,
any_parts
    : (n : ℕ) (a : Bool) (f g : ℕ → Bool) → any_below n (λ i. (a && f i) || g i) ≡ (a && any_below n f) || any_below n g
any_parts n a f g =
    same_truth (any_below n whole) ((a && any_below n f) || any_below n g)
    (λ h. let r = any_in n whole h in
    elim (either_true (a && f r.0) (g r.0) r.2) [
      | inl k ↦
          let s = both_true a (f r.0) k in
          true_left (a && any_below n f) (any_below n g) (true_both a (any_below n f) s.0 (in_any n r.0 f r.1 s.1))
      | inr k ↦ true_right (a && any_below n f) (any_below n g) (in_any n r.0 g r.1 k)
    ])
    (λ h. elim (either_true (a && any_below n f) (any_below n g) h) [
      | inl k ↦
          let s = both_true a (any_below n f) k in
          let r = any_in n f s.1 in
          in_any n r.0 whole r.1 (true_left (a && f r.0) (g r.0) (true_both a (f r.0) s.0 r.2))
      | inr k ↦ let r = any_in n g k in in_any n r.0 whole r.1 (true_right (a && f r.0) (g r.0) r.2)
    ])
  where
    whole : ℕ → Bool
    whole i = (a && f i) || g i

-- and with one number more.
any_with
    : (n u : ℕ) (m h c : ℕ → Bool) → u < n
    → any_below n (λ t. ((m t || (eqb u t || false)) && h t) && c t) ≡ any_below n (λ t. (m t && h t) && c t) || (h u && c u)
any_with n u m h c inside =
    same_truth (any_below n more) (any_below n old || (h u && c u))
    (λ k. let r = any_in n more k in
    let t = r.0 in
    let s = both_true ((m t || (eqb u t || false)) && h t) (c t) r.2 in
    let q = both_true (m t || (eqb u t || false)) (h t) s.0 in
    elim (either_true (m t) (eqb u t || false) q.0) [
      | inl x ↦
          true_left (any_below n old) (h u && c u)
          (in_any n t old r.1 (true_both (m t && h t) (c t) (true_both (m t) (h t) x q.1) s.1))
      | inr x ↦
          elim (either_true (eqb u t) false x) [
            | inl e ↦
                let same = eqb→eq u t e in
                true_right (any_below n old) (h u && c u)
                (subst (λ (v : ℕ). T (h v && c v)) (sym same) (true_both (h t) (c t) q.1 s.1))
            | inr e ↦ absurd e
          ]
    ])
    (λ k. elim (either_true (any_below n old) (h u && c u) k) [
      | inl x ↦
          let r = any_in n old x in
          let t = r.0 in
          let s = both_true (m t && h t) (c t) r.2 in
          let q = both_true (m t) (h t) s.0 in
          in_any n t more r.1
          (true_both ((m t || (eqb u t || false)) && h t) (c t)
          (true_both (m t || (eqb u t || false)) (h t) (true_left (m t) (eqb u t || false) q.0) q.1) s.1)
      | inr x ↦
          let s = both_true (h u) (c u) x in
          in_any n u more inside
          (true_both ((m u || (eqb u u || false)) && h u) (c u)
          (true_both (m u || (eqb u u || false)) (h u)
          (true_right (m u) (eqb u u || false) (true_left (eqb u u) false (eq_true u u refl))) s.0) s.1)
    ])
  where
    more : ℕ → Bool
    more t = ((m t || (eqb u t || false)) && h t) && c t

    old : ℕ → Bool
    old t = (m t && h t) && c t

-- Truth values.
parts : (a k x m y : Bool) → (a && (k || x)) || ((m && k) || y) ≡ ((a || m) && k) || ((a && x) || y)
parts true true x m y = refl
parts true false x true y = refl
parts true false x false y = refl
parts false k x m y = refl

not_either : (a b : Bool) → not (a || b) ≡ not a && not b
not_either true b = refl
not_either false b = refl

module _ (rules : List Patterns) (nodes : List (Node ℕ)) (piece : Terms) where
  abbrev tests : ℕ
  tests = length (sheet_tests rules)

  -- A test of a rule is contradicted, or not known, for it.
  abbrev pub against : ℕ → ℕ → Bool
  against i t = has_test rules i t && is_contradicted (test_outcome rules piece i (test_at rules t))

  abbrev pub unsure : ℕ → ℕ → Bool
  unsure i t = has_test rules i t && is_not_known (test_outcome rules piece i (test_at rules t))

  -- One of the nodes still to be walked asks the test, and a rule waits for it there.
  abbrev pub waits_on : List ℕ → List ℕ → ℕ → ℕ → Bool
  waits_on before [] t i = false
  waits_on before (n ∷ ns) t i =
      (asks_test (test_at rules t) (node_at nodes n) && waits_for rules nodes piece before t i) || waits_on (before ++ n ∷ []) ns t i

  -- What is listed is met and not known whatever a rule wants, or some rule waits for it.
  pub listed_parts
      : (before ns : List ℕ) (t : ℕ)
      → listed_from rules nodes piece before ns t
      ≡ (is_met rules nodes ns t && test_not_known piece (test_at rules t)) || any_below (length rules) (waits_on before ns t)
  listed_parts before [] t = sym (any_none (length rules) (waits_on before [] t) (λ i l. refl))
  listed_parts before (n ∷ ns) t =
      let asks = asks_test (test_at rules t) (node_at nodes n) in
      let unknown = test_not_known piece (test_at rules t) in
      let later = waits_on (before ++ n ∷ []) ns t in
      let waits = waits_for rules nodes piece before t in
      ap (λ (b : Bool). (asks && (unknown || any_below (length rules) waits)) || b) (listed_parts (before ++ n ∷ []) ns t)
      ∙ parts asks unknown (any_below (length rules) waits) (is_met rules nodes ns t) (any_below (length rules) later)
      ∙ ap (λ (b : Bool). ((asks || is_met rules nodes ns t) && unknown) || b) (sym (any_parts (length rules) asks waits later))

  -- Before any node each rule is live.
  pub live_first : (i : ℕ) → live_on rules nodes piece [] i ≡ true
  live_first i =
      ap not
      (any_none tests (λ t. (false && has_test rules i t) && is_contradicted (test_outcome rules piece i (test_at rules t)))
      (λ t l. refl))

  -- A node asks no test, or the one with a number.
  pub data Asking (n : Node ℕ) : List ℕ → Type 0 where
    none : ((t : ℕ) → asks_test (test_at rules t) n ≡ false) → Asking n []
    one : (u : ℕ) → u < tests → ((t : ℕ) → t < tests → asks_test (test_at rules t) n ≡ eqb u t) → Asking n (u ∷ [])

  module _ (before : List ℕ) (n i : ℕ) where
    abbrev after : List ℕ
    after = before ++ n ∷ []

    met_more
        : (t : ℕ) {b : Bool} → asks_test (test_at rules t) (node_at nodes n) ≡ b
        → is_met rules nodes after t ≡ is_met rules nodes before t || (b || false)
    met_more t e =
        any_join (λ (k : ℕ). asks_test (test_at rules t) (node_at nodes k)) before (n ∷ [])
        ∙ ap (λ (b : Bool). is_met rules nodes before t || (b || false)) e

    -- A rule stays live where no test is asked,
    live_none
        : ((t : ℕ) → asks_test (test_at rules t) (node_at nodes n) ≡ false)
        → live_on rules nodes piece after i ≡ live_on rules nodes piece before i
    live_none no_test =
        ap not
        (any_same tests _ _ (λ t l.
        ap (λ (b : Bool). (b && has_test rules i t) && is_contradicted (test_outcome rules piece i (test_at rules t)))
        (met_more t (no_test t) ∙ or-false (is_met rules nodes before t))))

    -- and where one is asked that is not contradicted for it.
    live_one
        : (u : ℕ) → u < tests → ((t : ℕ) → t < tests → asks_test (test_at rules t) (node_at nodes n) ≡ eqb u t)
        → live_on rules nodes piece after i ≡ live_on rules nodes piece before i && not (against i u)
    live_one u inside is =
        let c : ℕ → Bool = λ t. is_contradicted (test_outcome rules piece i (test_at rules t)) in
        ap not
        (any_same tests _ _ (λ t l. ap (λ (b : Bool). (b && has_test rules i t) && c t) (met_more t (is t l)))
        ∙ any_with tests u (is_met rules nodes before) (has_test rules i) c inside)
        ∙ not_either (any_below tests (λ t. (is_met rules nodes before t && has_test rules i t) && c t)) (against i u)

  -- No test is both.
  not_both : (i t : ℕ) → against i t ≡ true → unsure i t ≡ false
  not_both i t = go (has_test rules i t) (test_outcome rules piece i (test_at rules t))
    where
      go : (h : Bool) (o : Outcome) → h && is_contradicted o ≡ true → h && is_not_known o ≡ false
      go h holds e = and-false h
      go h not_known e = absurd (is_true (sym (and-false h) ∙ e))
      go h contradicted e = and-false h

  -- A live rule waits for the test that is asked, or, where that is not contradicted for it, for a later one.
  turn
      : (live h k a u e rest : Bool) → (e ≡ true → u ≡ h && k) → (e ≡ true → a ≡ true → h && k ≡ false)
      → (e && ((live && h) && k)) || ((live && not a) && rest) ≡ live && (not a && ((u && e) || rest))
  turn false h k a u true rest f g = refl
  turn false h k a u false rest f g = refl
  turn true h k a u false rest f g = ap (λ (b : Bool). not a && (b || rest)) (sym (and-false u))
  turn true h k true u true rest f g = ap (λ (b : Bool). b || false) (g refl refl)
  turn true h k false u true rest f g = ap (λ (b : Bool). b || rest) (sym (f refl) ∙ sym (and-true u))

  module _ (number_of : ℕ → List ℕ) (asking : (n : ℕ) → Asking (node_at nodes n) (number_of n)) where
    abbrev pub numbers_on : List ℕ → List ℕ
    numbers_on [] = []
    numbers_on (n ∷ ns) = number_of n ++ numbers_on ns

    -- What a rule waits for on the nodes is, while it is live, what it lists along their numbers.
    pub waits_along
        : (i t : ℕ) → t < tests → (before ns : List ℕ)
        → waits_on before ns t i ≡ live_on rules nodes piece before i && along (against i) (unsure i) (numbers_on ns) t
    waits_along i t l before [] = sym (and-false (live_on rules nodes piece before i))
    waits_along i t l before (n ∷ ns) = step (asking n) (waits_along i t l (before ++ n ∷ []) ns)
      where
        live : Bool
        live = live_on rules nodes piece before i

        rest : Bool
        rest = along (against i) (unsure i) (numbers_on ns) t

        asked : Bool → Bool
        asked b = b && waits_for rules nodes piece before t i

        step
            : {us : List ℕ} → Asking (node_at nodes n) us
            → waits_on (before ++ n ∷ []) ns t i ≡ live_on rules nodes piece (before ++ n ∷ []) i && rest
            → waits_on before (n ∷ ns) t i ≡ live && along (against i) (unsure i) (us ++ numbers_on ns) t
        step (none no_test) e =
            (λ j. asked (no_test t j) || e j) ∙ ap (λ (b : Bool). b && rest) (live_none before n i no_test)
        step (one u inside is) e =
            (λ j. asked (is t l j) || (e ∙ ap (λ (b : Bool). b && rest) (live_one before n i u inside is)) j)
            ∙ turn live (has_test rules i t) (is_not_known (test_outcome rules piece i (test_at rules t))) (against i u) (unsure i u)
            (eqb u t) rest (λ same. ap (unsure i) (eqb→eq u t (is_true same)))
            (λ same bad. not_both i t (subst (λ (v : ℕ). against i v ≡ true) (eqb→eq u t (is_true same)) bad))
