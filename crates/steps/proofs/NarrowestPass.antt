-- One pass over cases that ascend finds the narrowest: each case that takes the codes and begins after the best so far is better,
-- and none behind the first that begins above the lowest code takes them.
use Prim.Native.Nat.{ℕ, ◌<◌, ◌≤◌}
use mathlib.Core.Path.{◌≡◌, refl, sym, ap, subst, ◌∙◌}
use mathlib.Core.Bool.{Bool, true, false, ◌&&◌, cond}
use mathlib.Core.Logic.{◌⊎◌, inl, inr}
use mathlib.Core.List.{List, [], ◌∷◌}
use mathlib.Core.Option.{Option, some, none}
use native.Mathlib.Omega.{arith}
use lib.Dec.{T, leb, ltb, ltb→lt, lt→ltb, le→leb}
use borrow.Author.Tests.{ltb-true, ltb-false}
use Rattle.basics.specs.Lists.{All}
use Rattle.basics.specs.Order.{pair_before}
use Rattle.basics.proofs.Booleans.{not_so, by_test, is_true, true_is, both_true, true_both}
use Rattle.basics.proofs.ListLaws.{all_map}
use Rattle.basics.proofs.Numbers.{both_le}
use Rattle.basics.proofs.Sorted.{pair_before_lem, before_pair}
use Rattle.decision.specs.Narrowest.{better, best}
use Rattle.decision.specs.Node.{CaseEdge, leads_or}
use Rattle.decision.specs.views.CaseCodes.{case_low, case_high}
use Rattle.decision.proofs.cases.Best.{IfSome, best_holds}
use Rattle.node_check.proofs.CodeOrder.{first_positive}
use Rattle.number_search.proofs.FirstOfRow.{best_of_none}
use Rattle.number_search.specs.views.CodeCases.{takes_codes, narrower_codes, follow_code, CodesAscend}

-- The best of two more things: where the second comes before the first, and so do those behind it, the first is passed over; where
-- it does not, and what does not come before it does not come before the first either, the second is.
module _ {A : Type 0} (before : A → A → Bool) (c d : A) where
  passed_over
      : T (before d c) → (o : Option A) → IfSome (λ (y : A). T (before y c)) o
      → better before true c (better before true d o) ≡ better before true d o
  passed_over h none k = ap (λ (b : Bool). some (cond b d c)) (true_is (before d c) h)
  passed_over h (some y) k = go (before y d)
    where
      go : (b : Bool) → some (cond (before (cond b y d) c) (cond b y d) c) ≡ some (cond b y d)
      go true = ap (λ (b : Bool). some (cond b y c)) (true_is (before y c) k)
      go false = ap (λ (b : Bool). some (cond b d c)) (true_is (before d c) h)

  kept
      : (T (before d c) → ⊥) → (o : Option A) → IfSome (λ (y : A). (T (before y d) → ⊥) → T (before y c) → ⊥) o
      → better before true c (better before true d o) ≡ better before true c o
  kept h none k = ap (λ (b : Bool). some (cond b d c)) (not_so (before d c) h)
  kept h (some y) k = go (before y d) (λ e. k e)
    where
      go : (b : Bool) → ((T b → ⊥) → T (before y c) → ⊥)
          → some (cond (before (cond b y d) c) (cond b y d) c) ≡ some (cond (before y c) y c)
      go true f = refl
      go false f =
          ap (λ (b : Bool). some (cond b d c)) (not_so (before d c) h)
          ∙ sym (ap (λ (b : Bool). some (cond b y c)) (not_so (before y c) (f (λ z. z))))

module _ (low high : ℕ) where
  abbrev first : CaseEdge ℕ → ℕ
  first c = case_low c.case

  abbrev last : CaseEdge ℕ → ℕ
  last c = case_high c.case

  abbrev taken : CaseEdge ℕ → Bool
  taken c = takes_codes c.case low high

  abbrev before : CaseEdge ℕ → CaseEdge ℕ → Bool
  before c d = narrower_codes c.case d.case

  abbrev best_of : List (CaseEdge ℕ) → Option (CaseEdge ℕ)
  best_of cs = best taken before cs

  -- The pass: where the best so far begins and leads, and the cases that are left.
  abbrev pub pass_from : ℕ → ℕ → List (CaseEdge ℕ) → ℕ
  pass_from begun node [] = node
  pass_from begun node (c ∷ cs) =
      cond (ltb low (case_low c.case)) node
      (cond (ltb begun (case_low c.case) && leb high (case_high c.case)) (pass_from (case_low c.case) c.target cs)
      (pass_from begun node cs))

  abbrev Turn : CaseEdge ℕ → CaseEdge ℕ → Type 0
  Turn c d = T (pair_before (first c) (last c) (first d) (last d))

  in_turn_lem : (c d : CaseEdge ℕ) → Turn c d → (first c < first d) ⊎ ((first c ≡ first d) × (last c < last d))
  in_turn_lem c d h = pair_before_lem (first c) (last c) (first d) (last d) h

  not_below : (c d : CaseEdge ℕ) → Turn c d → first c ≤ first d
  not_below c d h = elim (in_turn_lem c d h) [ inl l ↦ omega arith | inr r ↦ omega (arith, r.0) ]

  -- Cases that begin above the lowest code take nothing.
  none_above : (cs : List (CaseEdge ℕ)) → All (λ (d : CaseEdge ℕ). low < first d) cs → best_of cs ≡ none
  none_above cs h =
      best_of_none taken before cs
      (all_map (λ (d : CaseEdge ℕ). low < first d) (λ (d : CaseEdge ℕ). T (taken d) → ⊥)
      (λ d l t. omega (arith, ((both_le (first d) low high (last d)).0 t).0, l)) cs h)

  all_above : (d : CaseEdge ℕ) (ds : List (CaseEdge ℕ)) → CodesAscend (d ∷ ds) → ltb low (first d) ≡ true → best_of (d ∷ ds) ≡ none
  all_above d ds a e =
      let above = ltb-true low (first d) e in
      none_above (d ∷ ds)
      (above, all_map (Turn d) (λ (x : CaseEdge ℕ). low < first x) (λ x t. omega (arith, above, not_below d x t)) ds a.0)

  -- A case that begins after another, like those behind it, is narrower than that one,
  module _ (c d : CaseEdge ℕ) (ds : List (CaseEdge ℕ)) (a : CodesAscend (c ∷ d ∷ ds)) where
    behind : (Q : CaseEdge ℕ → Type 0) → ((x : CaseEdge ℕ) → Turn d x → Q x) → IfSome Q (best_of ds)
    behind Q f =
        best_holds taken before Q ds (all_map (Turn d) (λ (x : CaseEdge ℕ). T (taken x) → Q x) (λ x t k. f x t) ds a.1.0)

    better_next : first c < first d → better before true c (better before true d (best_of ds)) ≡ better before true d (best_of ds)
    better_next l =
        passed_over before c d (before_pair (first c) (last d) (first d) (last c) (inl l)) (best_of ds)
        (behind (λ (x : CaseEdge ℕ). T (before x c))
        (λ x t. before_pair (first c) (last x) (first x) (last c) (inl (omega (arith, l, not_below d x t)))))

    -- and one that begins where the other does is not.
    better_still
        : (first c < first d → ⊥) → better before true c (better before true d (best_of ds)) ≡ better before true c (best_of ds)
    better_still n =
        let same : (first c ≡ first d) × (last c < last d) = elim (in_turn_lem c d a.0.0) [ inl l ↦ absurd (n l) | inr r ↦ r ] in
        kept before c d (λ h. wider same (pair_before_lem (first c) (last d) (first d) (last c) h)) (best_of ds)
        (behind (λ (x : CaseEdge ℕ). (T (before x d) → ⊥) → T (before x c) → ⊥)
        (λ x t n-before is-before.
        elim (in_turn_lem d x t) [
          | inl l ↦ n-before (before_pair (first d) (last x) (first x) (last d) (inl l))
          | inr r ↦ beyond x same r (pair_before_lem (first c) (last x) (first x) (last c) is-before)
        ]))
      where
        wider : (first c ≡ first d) × (last c < last d) → (first c < first d) ⊎ ((first c ≡ first d) × (last d < last c)) → ⊥
        wider same (inl l) = omega (arith, same.0)
        wider same (inr r) = omega (arith, same.1, r.1)

        beyond
            : (x : CaseEdge ℕ) → (first c ≡ first d) × (last c < last d) → (first d ≡ first x) × (last d < last x)
            → (first c < first x) ⊎ ((first c ≡ first x) × (last x < last c)) → ⊥
        beyond x same r (inl l) = omega (arith, same.0, r.0)
        beyond x same r (inr k) = omega (arith, same.1, r.1, k.1)

  module _ (neither : ℕ) where
    abbrev leads : Option (CaseEdge ℕ) → ℕ
    leads o = leads_or neither o

    -- Where the best so far takes the codes, the pass finds the best of it and those behind it.
    pass_on
        : (c : CaseEdge ℕ) (cs : List (CaseEdge ℕ)) → CodesAscend (c ∷ cs)
        → pass_from (first c) c.target cs ≡ leads (better before true c (best_of cs))
    pass_on c [] a = refl
    pass_on c (d ∷ ds) a =
        let narrowed = ltb (first c) (first d) && leb high (last d) in
        let on = pass_from (first d) d.target ds in
        let still = pass_from (first c) c.target ds in
        by_test (ltb low (first d))
        (λ e.
        ap (λ (b : Bool). cond b c.target (cond narrowed on still)) e
        ∙ ap (λ (o : Option (CaseEdge ℕ)). leads (better before true c o)) (sym (all_above d ds a.1 e)))
        (λ e.
        ap (λ (b : Bool). cond b c.target (cond narrowed on still)) e
        ∙ by_test narrowed
        (λ t.
        let k = both_true (ltb (first c) (first d)) (leb high (last d)) (is_true t) in
        ap (λ (b : Bool). cond b on still) t
        ∙ pass_on d ds a.1
        ∙ ap leads (sym (better_next c d ds a (ltb→lt (first c) (first d) k.0)))
        ∙ ap (λ (b : Bool). leads (better before true c (better before b d (best_of ds)))) (sym (is_taken_lem d e k.1)))
        (λ f.
        ap (λ (b : Bool). cond b on still) f
        ∙ pass_on c ds ((a.0.1, a.1.1))
        ∙ by_test (taken d)
        (λ t.
        ap leads (sym (better_still c d ds a (λ l. not_both d t f l)))
        ∙ ap (λ (b : Bool). leads (better before true c (better before b d (best_of ds)))) (sym t))
        (λ t. ap (λ (b : Bool). leads (better before true c (better before b d (best_of ds)))) (sym t))))
      where
        is_taken_lem : (d : CaseEdge ℕ) → ltb low (first d) ≡ false → T (leb high (last d)) → taken d ≡ true
        is_taken_lem d e h =
            true_is (taken d)
            (true_both (leb (first d) low) (leb high (last d)) (le→leb (first d) low (ltb-false low (first d) e)) h)

        not_both
            : (d : CaseEdge ℕ) → taken d ≡ true → ltb (first c) (first d) && leb high (last d) ≡ false → first c < first d → ⊥
        not_both d t f l =
            let h = (both_true (leb (first d) low) (leb high (last d)) (is_true t)).1 in
            subst T f (true_both (ltb (first c) (first d)) (leb high (last d)) (lt→ltb (first c) (first d) l) h)

    -- Before anything is found, the pass finds the best of all.
    pass_first : (cs : List (CaseEdge ℕ)) → CodesAscend cs → pass_from 0 neither cs ≡ leads (best_of cs)
    pass_first [] a = refl
    pass_first (c ∷ cs) a =
        let found = ltb 0 (first c) && leb high (last c) in
        let on = pass_from (first c) c.target cs in
        let still = pass_from 0 neither cs in
        by_test (ltb low (first c))
        (λ e. ap (λ (b : Bool). cond b neither (cond found on still)) e ∙ ap leads (sym (all_above c cs a e)))
        (λ e.
        ap (λ (b : Bool). cond b neither (cond found on still)) e
        ∙ by_test (taken c)
        (λ t.
        ap (λ (b : Bool). cond b on still) (is_found t)
        ∙ pass_on c cs a
        ∙ ap (λ (b : Bool). leads (better before b c (best_of cs))) (sym t))
        (λ t.
        ap (λ (b : Bool). cond b on still) (not_found e t)
        ∙ pass_first cs a.1
        ∙ ap (λ (b : Bool). leads (better before b c (best_of cs))) (sym t)))
      where
        is_found : taken c ≡ true → ltb 0 (first c) && leb high (last c) ≡ true
        is_found t =
            true_is (ltb 0 (first c) && leb high (last c))
            (true_both (ltb 0 (first c)) (leb high (last c)) (lt→ltb 0 (first c) (first_positive c.case))
            (both_true (leb (first c) low) (leb high (last c)) (is_true t)).1)

        not_found : ltb low (first c) ≡ false → taken c ≡ false → ltb 0 (first c) && leb high (last c) ≡ false
        not_found e t =
            not_so (ltb 0 (first c) && leb high (last c))
            (λ h.
            subst T t
            (true_both (leb (first c) low) (leb high (last c)) (le→leb (first c) low (ltb-false low (first c) e))
            (both_true (ltb 0 (first c)) (leb high (last c)) h).1))

    pub pass_follows : (cs : List (CaseEdge ℕ)) → CodesAscend cs → pass_from 0 neither cs ≡ follow_code cs neither low high
    pass_follows cs a = pass_first cs a
