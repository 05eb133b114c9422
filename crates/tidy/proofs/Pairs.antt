-- What is known of a rule's variables from its equality tests alone: where a repeated one stands, where it appears first, and
-- which places have one variable.
use Prim.Native.Nat.{ℕ, ◌<◌}
use mathlib.Core.Path.{◌≡◌, refl, sym, ap, subst, ◌∙◌}
use mathlib.Core.Bool.{Bool, ◌&&◌, ◌||◌, not}
use mathlib.Core.Logic.{inl, inr}
use mathlib.Core.List.{List}
use native.Mathlib.Decide.{dec_lt}
use native.Mathlib.Omega.{arith}
use lib.Dec.{T, eqb, eqb→eq, eqb_refl, T_not}
use Rattle.basics.specs.Lists.{Mem, any_of}
use Rattle.basics.proofs.Booleans.{both_true, true_both, either_true, true_left, true_right, same_truth}
use Rattle.basics.proofs.Numbers.{eq_true}
use Rattle.basics.proofs.Filters.{mem_any, any_mem}
use Rattle.terms.specs.RuleTests.{PairTest, both, Occurrence}
use Rattle.terms.specs.RuleTests.{pairs_of}
use Rattle.terms.proofs.Ascending.{Ascends}
use Rattle.terms.proofs.PairTests.{variable_place}
use Rattle.terms.proofs.VariableSentences.{standing, pairs_of_are}
use Rattle.tidy.specs.TidyRule.{is_named, is_later, is_earlier, stands_again, stood_before, is_again, is_repeated}
use Rattle.tidy.specs.TidyRule.{appears_first}
use Rattle.tidy.proofs.Occurrences.{later, is_later_lem, earlier, is_earlier_lem, one_occurrence}

-- Place n is the first place of the pair, or the second; and the pair is that of places p and q.
abbrev pub is_first : ℕ → PairTest → Bool
is_first n x = eqb x.first n

abbrev pub is_second : ℕ → PairTest → Bool
is_second n x = eqb x.second n

abbrev pub is_pair_of : ℕ → ℕ → PairTest → Bool
is_pair_of p q x = eqb x.first p && eqb x.second q

module _ (pairs : List PairTest) where
  -- Place n is in a pair.
  abbrev pub paired : ℕ → Bool
  paired n = any_of (is_first n) pairs || any_of (is_second n) pairs

  -- It is the first of some pair and the second of none: there a repeated variable appears first.
  abbrev pub leads : ℕ → Bool
  leads n = any_of (is_first n) pairs && not (any_of (is_second n) pairs)

  -- Two places are the same, or a pair.
  abbrev pub alike : ℕ → ℕ → Bool
  alike p q = eqb p q || any_of (is_pair_of p q) pairs

module _ (b e : ℕ) (os : List Occurrence) (up : Ascends variable_place b e os) where
  -- A pair of which one place is that of o has the variable of o at the other.
  first_at_lem
      : (o : Occurrence) → Mem o os → (x : PairTest) → Mem x (pairs_of os) → x.first ≡ o.place
      → Mem (standing x.second o.name) os × (o.place < x.second)
  first_at_lem o m x k s =
      let (v, one, two, before) = (pairs_of_are b e os up x.first x.second).0 k in
      let same : standing x.first v ≡ o = one_occurrence b e os up one m s in (
        subst (λ (u : ℕ). Mem (standing x.second u) os) (ap (λ (z : Occurrence). z.name) same) two,
        omega (arith, before, s),
      )

  second_at
      : (o : Occurrence) → Mem o os → (x : PairTest) → Mem x (pairs_of os) → x.second ≡ o.place
      → Mem (standing x.first o.name) os × (x.first < o.place)
  second_at o m x k s =
      let (v, one, two, before) = (pairs_of_are b e os up x.first x.second).0 k in
      let same : standing x.second v ≡ o = one_occurrence b e os up two m s in (
        subst (λ (u : ℕ). Mem (standing x.first u) os) (ap (λ (z : Occurrence). z.name) same) one,
        omega (arith, before, s),
      )

  -- Two occurrences of one variable make a pair.
  pair_there
      : (f : PairTest → Bool) (o x : Occurrence) → Mem o os → Mem x os → o.place < x.place → o.name ≡ x.name
      → T (f (both o.place x.place)) → T (any_of f (pairs_of os))
  pair_there f o x m k l s t =
      let second = subst (λ (v : ℕ). Mem (standing x.place v) os) (sym s) k in
      mem_any f ((pairs_of_are b e os up o.place x.place).1 (o.name, m, second, l)) t

  -- The variable stands again exactly where its place is the first of a pair,
  again_is : (o : Occurrence) → Mem o os → stands_again os o ≡ any_of (is_first o.place) (pairs_of os)
  again_is o m = same_truth (stands_again os o) (any_of (is_first o.place) (pairs_of os)) forth back
    where
      forth : T (stands_again os o) → T (any_of (is_first o.place) (pairs_of os))
      forth h =
          let (x, k, t) = any_mem (is_later o) os h in
          let (s, l) = is_later_lem o x t in
          pair_there (is_first o.place) o x m k l (sym s) (eqb_refl o.place)

      back : T (any_of (is_first o.place) (pairs_of os)) → T (stands_again os o)
      back h =
          let (x, k, t) = any_mem (is_first o.place) (pairs_of os) h in
          let (j, l) = first_at_lem o m x k (eqb→eq x.first o.place t) in
          mem_any (is_later o) j (later o (standing x.second o.name) refl l)

  -- and stood before exactly where it is the second of one.
  before_is : (o : Occurrence) → Mem o os → stood_before os o ≡ any_of (is_second o.place) (pairs_of os)
  before_is o m = same_truth (stood_before os o) (any_of (is_second o.place) (pairs_of os)) forth back
    where
      forth : T (stood_before os o) → T (any_of (is_second o.place) (pairs_of os))
      forth h =
          let (x, k, t) = any_mem (is_earlier o) os h in
          let (s, l) = is_earlier_lem o x t in
          pair_there (is_second o.place) x o k m l s (eqb_refl o.place)

      back : T (any_of (is_second o.place) (pairs_of os)) → T (stood_before os o)
      back h =
          let (x, k, t) = any_mem (is_second o.place) (pairs_of os) h in
          let (j, l) = second_at o m x k (eqb→eq x.second o.place t) in
          mem_any (is_earlier o) j (earlier o (standing x.first o.name) refl l)

  -- So a repeated variable appears first where the place leads.
  pub first_is : (o : Occurrence) → Mem o os → appears_first os o ≡ leads (pairs_of os) o.place
  first_is o m = λ i. again_is o m i && not (before_is o m i)

  -- A variable that stands at two places is repeated.
  pub repeats
      : (o x : Occurrence) → Mem o os → Mem x os → o.place < x.place → o.name ≡ x.name → T (is_repeated os o.name)
  repeats o x m k l s =
      mem_any (is_again os o.name) m
      (true_both (is_named o.name o) (stands_again os o) (eqb_refl o.name) (mem_any (is_later o) k (later o x (sym s) l)))

  -- A variable is repeated exactly where its place is in a pair.
  pub repeated_is : (o : Occurrence) → Mem o os → is_repeated os o.name ≡ paired (pairs_of os) o.place
  repeated_is o m = same_truth (is_repeated os o.name) (paired (pairs_of os) o.place) forth back
    where
      fst : Bool
      fst = any_of (is_first o.place) (pairs_of os)

      snd : Bool
      snd = any_of (is_second o.place) (pairs_of os)

      forth : T (is_repeated os o.name) → T (paired (pairs_of os) o.place)
      forth h =
          let (x, k, t) = any_mem (is_again os o.name) os h in
          let (s, again) = both_true (eqb x.name o.name) (stands_again os x) t in
          let same : x.name ≡ o.name = eqb→eq x.name o.name s in
          elim (dec_lt x.place o.place) [
            | yes l ↦ true_right fst snd (pair_there (is_second o.place) x o k m l same (eqb_refl o.place))
            | no not_before ↦
                let (y, j, u) = any_mem (is_later x) os again in
                let (r, further) = is_later_lem x y u in
                elim (dec_lt o.place x.place) [
                  | yes l ↦ true_left fst snd (pair_there (is_first o.place) o x m k l (sym same) (eqb_refl o.place))
                  | no not_after ↦
                      true_left fst snd
                      (pair_there (is_first o.place) o y m j (omega arith) (sym (r ∙ same)) (eqb_refl o.place))
                ]
          ]

      back : T (paired (pairs_of os) o.place) → T (is_repeated os o.name)
      back h =
          elim (either_true fst snd h) [
            | inl t ↦ (
                let (x, k, u) = any_mem (is_first o.place) (pairs_of os) t in
                let (j, l) = first_at_lem o m x k (eqb→eq x.first o.place u) in
                repeats o (standing x.second o.name) m j l refl
                )
            | inr t ↦ (
                let (x, k, u) = any_mem (is_second o.place) (pairs_of os) t in
                let (j, l) = second_at o m x k (eqb→eq x.second o.place u) in
                repeats (standing x.first o.name) o j m l refl
                )
          ]

  -- A place without a variable is in no pair.
  pub no_variable_there : (n : ℕ) → ((o : Occurrence) → Mem o os → o.place ≡ n → ⊥) → T (paired (pairs_of os) n) → ⊥
  no_variable_there n none h =
      elim (either_true (any_of (is_first n) (pairs_of os)) (any_of (is_second n) (pairs_of os)) h) [
        | inl t ↦ (
            let (x, k, u) = any_mem (is_first n) (pairs_of os) t in
            let (v, one, two, before) = (pairs_of_are b e os up x.first x.second).0 k in
            none (standing x.first v) one (eqb→eq x.first n u)
            )
        | inr t ↦ (
            let (x, k, u) = any_mem (is_second n) (pairs_of os) t in
            let (v, one, two, before) = (pairs_of_are b e os up x.first x.second).0 k in
            none (standing x.second v) two (eqb→eq x.second n u)
            )
      ]

  -- A first appearance is of the variable of o exactly where their places are alike.
  pub alike_is
      : (f o : Occurrence) → Mem f os → Mem o os → T (appears_first os f)
      → is_named o.name f ≡ alike (pairs_of os) f.place o.place
  alike_is f o k m first = same_truth (is_named o.name f) (alike (pairs_of os) f.place o.place) forth back
    where
      is : Bool
      is = eqb f.place o.place

      makes : Bool
      makes = any_of (is_pair_of f.place o.place) (pairs_of os)

      forth : T (is_named o.name f) → T (alike (pairs_of os) f.place o.place)
      forth h =
          let same : f.name ≡ o.name = eqb→eq f.name o.name h in
          elim (dec_lt f.place o.place) [
            | yes l ↦
                true_right is makes
                (pair_there (is_pair_of f.place o.place) f o k m l same
                (true_both (eqb f.place f.place) (eqb o.place o.place) (eqb_refl f.place) (eqb_refl o.place)))
            | no n ↦
                let none = T_not (stood_before os f) (both_true (stands_again os f) (not (stood_before os f)) first).1 in
                let not_before : o.place < f.place → ⊥ = λ l. none (mem_any (is_earlier f) m (earlier f o (sym same) l)) in
                true_left is makes (eq_true f.place o.place (omega arith))
          ]

      back : T (alike (pairs_of os) f.place o.place) → T (is_named o.name f)
      back h =
          elim (either_true is makes h) [
            | inl t ↦ (
                let same = one_occurrence b e os up k m (eqb→eq f.place o.place t) in
                eq_true f.name o.name (ap (λ (z : Occurrence). z.name) same)
                )
            | inr t ↦ (
                let (x, j, u) = any_mem (is_pair_of f.place o.place) (pairs_of os) t in
                let (p, q) = both_true (eqb x.first f.place) (eqb x.second o.place) u in
                let (i, l) = first_at_lem f k x j (eqb→eq x.first f.place p) in
                let same = one_occurrence b e os up i m (eqb→eq x.second o.place q) in
                eq_true f.name o.name (ap (λ (z : Occurrence). z.name) same)
                )
          ]
