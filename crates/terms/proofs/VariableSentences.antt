-- What document 01 says of a variable: "standing at k places gives an equality test for each of its pairs p < q", all of
-- them and not a chain of neighbours only; and "the common part of those ranges" of its records.
use Prim.Native.Nat.{ℕ, suc, ◌+◌, ◌≤◌, ◌<◌}
use mathlib.Core.Path.{◌≡◌, ap, sym, subst, ◌∙◌}
use mathlib.Core.Bool.{Bool, true, false, cond}
use mathlib.Core.Logic.{◌↔◌, ◌⊎◌, inl, inr}
use mathlib.Core.List.{List, [], ◌∷◌}
use mathlib.Core.Option.{Option, some, none}
use native.Mathlib.Omega.{arith}
use lib.Dec.{T, eqb, eqb→eq, eqb_refl}
use Rattle.basics.specs.Lists.{Mem, All}
use Rattle.basics.proofs.ListLaws.{all_at, all_from, mem_cases, mem_none}
use Rattle.basics.proofs.Filters.{mem_left, mem_right}
use Rattle.terms.specs.Pattern.{Pattern, Patterns, count_patterns, anything, the_symbol, the_series, the_range, the_gauged, the_compound, variable, ranged_variable, pnil, pcons}
use Rattle.terms.specs.RuleTests.{PairTest, both, Occurrence, Range, common_part, pattern_range, patterns_range, pairs_with, pairs_of, rule_variables, pair_tests}
use Rattle.terms.specs.Accepted.{AcceptedRule}
use Rattle.terms.proofs.TermPlaces.{extent}
use Rattle.terms.proofs.Ascending.{Ascends, ascends_from}
use Rattle.terms.proofs.PairTests.{variable_place, all_variables_ascend, pairs_with_at, pairs_each}
use Rattle.terms.proofs.Matching.{EachRanged, AllRanged}

-- Variable v stands at place p.
abbrev pub standing : ℕ → ℕ → Occurrence
standing p v = record { place = p; name = v }

-- One variable stands at both places of the pair, and the first comes before the second.
abbrev OneVariable : List Occurrence → PairTest → Type 0
OneVariable os x =
    (v : ℕ) × Mem (standing x.first v) os × Mem (standing x.second v) os × (x.first < x.second)

-- Two places of one variable, of which the first comes before the second, are a pair.
pair_there
    : (b e : ℕ) (os : List Occurrence) → Ascends variable_place b e os → (p q v : ℕ) → Mem (standing p v) os
    → Mem (standing q v) os → p < q → Mem (both p q) (pairs_of os)
pair_there b e [] up p q v m n before = absurd (mem_none m)
pair_there b e (o ∷ os) up p q v m n before =
    go (mem_cases m) (mem_cases n) (λ j k. pair_there (suc o.place) e os up.1 p q v j k before)
  where
    Paired : PairTest → Type 0
    Paired x = Mem x (pairs_of (o ∷ os))

    own : All Paired (pairs_with o.place o.name os)
    own = all_from Paired (pairs_with o.place o.name os) (λ x k. mem_left (pairs_of os) k)

    later : Mem (standing p v) os → suc o.place ≤ p
    later k =
        all_at (λ (x : Occurrence). suc o.place ≤ x.place) k (ascends_from variable_place (suc o.place) e os up.1)

    go
        : (standing p v ≡ o) ⊎ Mem (standing p v) os → (standing q v ≡ o) ⊎ Mem (standing q v) os
        → (Mem (standing p v) os → Mem (standing q v) os → Mem (both p q) (pairs_of os)) → Paired (both p q)
    go (inl d) (inl f) rest =
        let same : p ≡ q = ap (λ (x : Occurrence). x.place) (d ∙ sym f) in absurd (omega arith)
    go (inl d) (inr k) rest =
        let place : o.place ≡ p = sym (ap (λ (x : Occurrence). x.place) d) in
        let name : o.name ≡ v = sym (ap (λ (x : Occurrence). x.name) d) in
        subst (λ (n : ℕ). Paired (both n q)) place
        (all_at (λ (x : Occurrence). o.name ≡ x.name → Paired (both o.place x.place)) k
        (pairs_with_at Paired o.place o.name os own) name)
    go (inr j) (inl f) rest =
        let place : q ≡ o.place = ap (λ (x : Occurrence). x.place) f in absurd (omega (arith, later j))
    go (inr j) (inr k) rest = mem_right (pairs_with o.place o.name os) (rest j k)

-- The pairs of variables that stand at ascending places are exactly the pairs p < q of places at which one variable stands,
pub pairs_of_are
    : (b e : ℕ) (os : List Occurrence) → Ascends variable_place b e os → (p q : ℕ)
    → Mem (both p q) (pairs_of os) ↔ ((v : ℕ) × Mem (standing p v) os × Mem (standing q v) os × (p < q))
pairs_of_are b e os up p q =
    let Standing : Occurrence → Type 0 = λ o. Mem o os in (
      λ m. all_at (OneVariable os) m
          (pairs_each Standing (OneVariable os)
          (λ o x before same j k. (o.name, j, subst (λ (v : ℕ). Mem (standing x.place v) os) (sym same) k, before))
          b e os up (all_from Standing os (λ o k. k))),
      λ x. pair_there b e os up p q x.0 x.1 x.2 x.3,
    )

-- and so are the equality tests of an accepted rule.
pub pairs_are_lem
    : {arity : ℕ} {rule : Patterns} → AcceptedRule arity rule → (p q : ℕ)
    → Mem (both p q) (pair_tests rule)
    ↔ ((v : ℕ) × Mem (standing p v) (rule_variables rule) × Mem (standing q v) (rule_variables rule) × (p < q))
pairs_are_lem {rule = rule} ok p q =
    pairs_of_are 0 (0 + extent (count_patterns rule) 4) (rule_variables rule) (all_variables_ascend rule 4 0 ok.sound) p q

-- The number is in the range, if there is one.
abbrev pub Inside : Option Range → ℕ → Type 0
Inside none n = Unit
Inside (some x) n = (x.low ≤ n) × (n ≤ x.high)

-- A number is in the common part of two ranges exactly when it is in both.
common_inside : (x y : Option Range) (n : ℕ) → Inside (common_part x y) n ↔ (Inside x n × Inside y n)
common_inside none y n = (λ h. (tt, h), λ h. h.1)
common_inside (some x) none n = (λ h. (h, tt), λ h. h.0)
common_inside (some x) (some y) n =
    (λ h. ((omega arith, omega arith), (omega arith, omega arith)), λ h. (omega (arith, h.0, h.1), omega (arith, h.0, h.1)))

-- What holds of no range, and of a common part exactly when it holds of both ranges, holds of the common part of a
-- variable's ranges exactly when it holds of the range of each of its records.
module _
    (v : ℕ) (P : Option Range → Type 0) (R : ℕ → ℕ → Type 0) (free : P none)
    (one : (l h : ℕ) → P (some (record { low = l; high = h })) ↔ R l h)
    (two : (x y : Option Range) → P (common_part x y) ↔ (P x × P y))
  where
    -- R holds of the ends of a ranged record of variable v.
    abbrev OfRecord : ℕ → ℕ → ℕ → Type 0
    OfRecord u l h = u ≡ v → R l h

    mutual
      record_holds : (p : Pattern) → P (pattern_range p v) ↔ EachRanged OfRecord p
      record_holds anything = (λ h. tt, λ h. free)
      record_holds (the_symbol a) = (λ h. tt, λ h. free)
      record_holds (the_series l h) = (λ k. tt, λ k. free)
      record_holds (the_range l h) = (λ k. tt, λ k. free)
      record_holds (the_gauged g l h) = (λ k. tt, λ k. free)
      record_holds (the_compound a ps) = records_hold ps
      record_holds (variable u) = (λ h. tt, λ h. free)
      record_holds (ranged_variable u l h) =
          go (eqb u v) (eqb→eq u v) (λ e. subst (λ (x : ℕ). T (eqb u x)) e (eqb_refl u))
        where
          go
              : (b : Bool) → (T b → u ≡ v) → (u ≡ v → T b)
              → P (cond b (some (record { low = l; high = h })) none) ↔ OfRecord u l h
          go true same is = (λ k e. (one l h).0 k, λ k. (one l h).1 (k (same tt)))
          go false same is = (λ k e. absurd (is e), λ k. free)

      records_hold : (ps : Patterns) → P (patterns_range ps v) ↔ AllRanged OfRecord ps
      records_hold pnil = (λ h. tt, λ h. free)
      records_hold (pcons p ps) =
          let both = two (pattern_range p v) (patterns_range ps v) in (
            λ h. let x = both.0 h in ((record_holds p).0 x.0, (records_hold ps).0 x.1),
            λ h. both.1 ((record_holds p).1 h.0, (records_hold ps).1 h.1),
          )

-- A number is in "the common part of those ranges" exactly when it is in the range of each ranged record of the variable,
pub range_is
    : (rule : Patterns) (v n : ℕ)
    → Inside (patterns_range rule v) n ↔ AllRanged (λ u l h. u ≡ v → (l ≤ n) × (n ≤ h)) rule
range_is rule v n =
    records_hold v (λ x. Inside x n) (λ l h. (l ≤ n) × (n ≤ h)) tt (λ l h. (λ k. k, λ k. k))
    (λ x y. common_inside x y n) rule

-- There is no range.
abbrev pub NoRange : Option Range → Type 0
NoRange none = Unit
NoRange (some x) = ⊥

common_none : (x y : Option Range) → NoRange (common_part x y) ↔ (NoRange x × NoRange y)
common_none none y = (λ h. (tt, h), λ h. h.1)
common_none (some x) none = (λ h. absurd h, λ h. h.0)
common_none (some x) (some y) = (λ h. absurd h, λ h. h.0)

-- and there is none exactly when none of its records is ranged.
pub no_range_is : (rule : Patterns) (v : ℕ) → NoRange (patterns_range rule v) ↔ AllRanged (λ u l h. u ≡ v → ⊥) rule
no_range_is rule v = records_hold v NoRange (λ l h. ⊥) tt (λ l h. (λ k. k, λ k. k)) common_none rule
