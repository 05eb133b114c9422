-- What the elimination asks of a rule and a piece. A test of the rule is firm when it is contradicted, and if it is a
-- pair, when both its terms are there: then the rule is dead. A dead rule has a firm test, a test whose place is
-- missing has a firm one that must be asked before it, and what an unknown settles is not firm.
use Prim.Native.Nat.{ℕ}
use mathlib.Core.Path.{◌≡◌}
use mathlib.Core.Logic.{◌⊎◌, inl, inr}
use mathlib.Core.Option.{some}
use lib.Dec.{T}
use Rattle.basics.specs.Lists.{Mem}
use Rattle.terms.specs.Term.{Terms, unknown, never, symbol, numbers, compound}
use Rattle.terms.specs.Pattern.{Patterns}
use Rattle.terms.specs.RuleTests.{Want, PlaceTest, at, both, place_tests}
use Rattle.terms.specs.Lookup.{Found, lacking, found, term_at}
use Rattle.terms.specs.Outcome.{Contradicted, fits, compare, at_place, at_places, place_outcome, rule_outcome}
use Rattle.terms.specs.Accepted.{AcceptedRule, AcceptedPiece}
use Rattle.terms.proofs.Unknown.{IsUnknown}
use Rattle.terms.proofs.Below.{below_unknown}
use Rattle.terms.proofs.RuleOutcomes.{outcome_contradicted}
use Rattle.terms.proofs.Tested.{IsFound, FoundOrContradicted, tested_place, tested_pair}
use Rattle.sheet_tests.specs.SheetTests.{Test, place, pair}
use Rattle.decision.specs.Rules.{want_in}
use Rattle.decision.specs.Edges.{settled_by_unknown}
use Rattle.decision.specs.AskingOrder.{MustPrecede}
use Rattle.decision.proofs.rules.TestsOfRules.{HasTest, want_test, want_has, has_want}
use Rattle.decision.proofs.rules.TestsOfRules.{place_wanted, pair_has, has_pair_lem}

-- The piece lacks the place.
abbrev pub Lacks : Found → Type 0
Lacks lacking = Unit
Lacks (found t) = ⊥

-- Two terms that are there and differ.
abbrev pub Differ : Found → Found → Type 0
Differ lacking y = ⊥
Differ (found t) lacking = ⊥
Differ (found t) (found u) = Contradicted (compare t u)

-- A place is not lacking where something is found.
found_lacks : (x : Found) → IsFound x → Lacks x → ⊥
found_lacks lacking f l = f
found_lacks (found t) f l = l

-- Terms that differ contradict the pair,
pub differ_contradicted : (x y : Found) → Differ x y → Contradicted (at_places x y)
differ_contradicted lacking y d = absurd d
differ_contradicted (found t) lacking d = absurd d
differ_contradicted (found t) (found u) d = d

-- and a contradicted pair of which both terms are there is of terms that differ.
contradicted_differ : (x y : Found) → IsFound x → IsFound y → Contradicted (at_places x y) → Differ x y
contradicted_differ lacking y f g c = absurd f
contradicted_differ (found t) lacking f g c = absurd g
contradicted_differ (found t) (found u) f g c = c

-- An unknown contradicts no want.
unknown_fits : (w : Want) (x : Found) → IsUnknown x → Contradicted (at_place (fits w) x) → ⊥
unknown_fits w lacking u c = u
unknown_fits w (found unknown) u c = c
unknown_fits w (found never) u c = u
unknown_fits w (found (symbol a)) u c = u
unknown_fits w (found (numbers a b)) u c = u
unknown_fits w (found (compound a ts)) u c = u

-- The walk would be refused at the test.
abbrev pub Missing : Terms → Test → Type 0
Missing piece (place n) = Lacks (term_at piece n)
Missing piece (pair p q) = Lacks (term_at piece p) ⊎ Lacks (term_at piece q)

module _ (rule : Patterns) (piece : Terms) where
  -- The rule wants something at the place that is contradicted there, or it compares two terms that are there and
  -- differ.
  abbrev pub Firm : Test → Type 0
  Firm (place n) = (w : Want) × (want_in (place_tests rule) n ≡ some w) × Contradicted (at_place (fits w) (term_at piece n))
  Firm (pair p q) = HasTest rule (pair p q) × Differ (term_at piece p) (term_at piece q)

  -- Some test of the rule is contradicted.
  abbrev pub Dead : Type 0
  Dead = Contradicted (rule_outcome rule piece)

  -- A firm test is one of the rule's,
  pub firm_has : (t : Test) → Firm t → HasTest rule t
  firm_has (place n) f = want_has rule n f.0 f.1
  firm_has (pair p q) f = f.0

  -- and the rule is dead.
  pub firm_dead : (t : Test) → Firm t → Dead
  firm_dead (place n) f =
      (outcome_contradicted rule piece).1 (inl (at n f.0, want_test (place_tests rule) n f.0 f.1, f.2))
  firm_dead (pair p q) f =
      let differ = differ_contradicted (term_at piece p) (term_at piece q) f.1 in
      (outcome_contradicted rule piece).1 (inr (both p q, has_pair_lem rule p q f.0, differ))

  -- What the unknown edge of place n settles is not firm. A pair may be, as record 35 differs from an unknown, so it settles none.
  pub settled_not_firm : (n : ℕ) (t : Test) → IsUnknown (term_at piece n) → T (settled_by_unknown n t) → Firm t → ⊥
  settled_not_firm n (place m) u h f = unknown_fits f.0 (term_at piece m) (below_unknown piece n m h u) f.2
  settled_not_firm n (pair p q) u h f = h

-- A rule of an accepted sheet and an accepted piece of its arity.
module _ (arity : ℕ) (rule : Patterns) (piece : Terms)
    (a : AcceptedRule arity rule) (c : AcceptedPiece arity piece) where
  -- A contradicted place test is firm.
  place_firm
      : (x : PlaceTest) → Mem x (place_tests rule) → Contradicted (place_outcome piece x)
      → Firm rule piece (place x.place)
  place_firm x m k = (x.want, place_wanted rule a.sound x m, k)

  -- A dead rule has a firm test.
  pub dead_firm : Dead rule piece → (t : Test) × Firm rule piece t
  dead_firm d =
      elim ((outcome_contradicted rule piece).0 d) [
        | inl r ↦ (place r.0.place, place_firm r.0 r.1 r.2)
        | inr r ↦
            let p = r.0.first in
            let q = r.0.second in
            let reached = tested_pair arity rule piece a c r.0 r.1 in
            elim reached.0 [
              | inr z ↦ (place z.0.place, place_firm z.0 z.1 z.3)
              | inl f ↦ elim reached.1 [
                | inr z ↦ (place z.0.place, place_firm z.0 z.1 z.3)
                | inl g ↦ (
                  pair p q,
                  (pair_has rule r.0 r.1, contradicted_differ (term_at piece p) (term_at piece q) f g r.2),
                )
              ]
            ]
      ]

  -- A lacking place of a rule's test is below a place with a firm test.
  lacking_firm
      : (n : ℕ) → FoundOrContradicted rule piece n → Lacks (term_at piece n)
      → (m : ℕ) × Firm rule piece (place m) × MustPrecede (place m) (place n)
  lacking_firm n (inl f) l = absurd (found_lacks (term_at piece n) f l)
  lacking_firm n (inr z) l = (z.0.place, place_firm z.0 z.1 z.3, z.2)

  -- A test whose place is missing has a firm test that must be asked before it.
  pub missing_firm
      : (t : Test) → HasTest rule t → Missing piece t → (u : Test) × Firm rule piece u × MustPrecede u t
  missing_firm (place n) h l =
      let w = has_want rule a.sound n h in
      let m = want_test (place_tests rule) n w.0 w.1 in
      let r = lacking_firm n (tested_place arity rule piece a c (at n w.0) m) l in
      (place r.0, r.1, r.2)
  missing_firm (pair p q) h l =
      let reached = tested_pair arity rule piece a c (both p q) (has_pair_lem rule p q h) in
      elim l [
        | inl k ↦ (let r = lacking_firm p reached.0 k in (place r.0, r.1, tt))
        | inr k ↦ (let r = lacking_firm q reached.1 k in (place r.0, r.1, tt))
      ]
