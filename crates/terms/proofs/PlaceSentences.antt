-- What document 01, and document 02's requests 4 and 5, say of a place test, and that `fits` says exactly this; what is said of a
-- place that the piece lacks; and that a rule has at most one test for each place.
use Prim.Native.Nat.{ℕ, suc, ◌+◌, ◌≤◌, ◌<◌}
use mathlib.Core.Path.{◌≡◌, refl, ap}
use mathlib.Core.Bool.{◌&&◌}
use mathlib.Core.Logic.{◌↔◌, ◌⊎◌, inl, inr}
use mathlib.Core.List.{List, [], ◌∷◌}
use native.Mathlib.Omega.{arith}
use lib.Dec.{leb, eqb, eqb→eq}
use Rattle.basics.specs.Lists.{Mem}
use Rattle.basics.proofs.Booleans.{both_true, true_both}
use Rattle.basics.proofs.ListLaws.{all_at, mem_cases, mem_none}
use Rattle.basics.proofs.Numbers.{eq_true}
use Rattle.terms.specs.Term.{Term, Terms, count, unknown, symbol, numbers, compound, never}
use Rattle.terms.specs.Pattern.{Patterns, count_patterns}
use Rattle.terms.specs.RuleTests.{Want, a_symbol, a_number, a_compound, PlaceTest, patterns_range, place_tests}
use Rattle.terms.specs.Lookup.{lacking, term_at}
use Rattle.terms.specs.Outcome.{Holds, NotKnown, Contradicted, fits, place_outcome}
use Rattle.terms.specs.Accepted.{AcceptedRule}
use Rattle.terms.proofs.Outcomes.{true_holds, known_decided}
use Rattle.terms.proofs.KnownTests.{holds_true, else_contradicted}
use Rattle.terms.proofs.Spans.{range_holds_at, range_not_known}
use Rattle.terms.proofs.Series.{series_holds_at}
use Rattle.terms.proofs.TermPlaces.{extent}
use Rattle.terms.proofs.Ascending.{Ascends, ascends_from}
use Rattle.terms.proofs.PreorderTests.{test_place, all_tests_ascend}

-- What is wanted: "that symbol, .. a compound of that id and arity, or .. a number in that range", "a span wholly inside it", and
-- "every symbol with an id from low to high".
pub data Wanted : Want → Term → Type 0 where
  in_series : {l h a : ℕ} → l ≤ a → a ≤ h → Wanted (a_symbol l h) (symbol a)
  that_compound : {a n : ℕ} {ts : Terms} → n ≡ count ts → Wanted (a_compound a n) (compound a ts)
  in_range : {l h a b : ℕ} → l ≤ a → b ≤ h → Wanted (a_number l h) (numbers a b)

-- "A place test holds at that symbol, at a compound of that id and arity, or at a number in that range", "a range's test holds
-- at a span wholly inside it",
pub fits_wanted : (w : Want) (t : Term) → Holds (fits w t) → Wanted w t
fits_wanted w unknown h = absurd h
fits_wanted w never h = absurd h
fits_wanted (a_symbol l k) (symbol a) h = let s = (series_holds_at l k a).0 h in in_series s.0 s.1
fits_wanted (a_symbol l k) (numbers a b) h = absurd h
fits_wanted (a_symbol l k) (compound b ts) h = absurd h
fits_wanted (a_number l k) (symbol b) h = absurd h
fits_wanted (a_number l k) (numbers a b) h = let s = (range_holds_at l k a b).0 h in in_range s.0 s.1
fits_wanted (a_number l k) (compound b ts) h = absurd h
fits_wanted (a_compound a n) (symbol b) h = absurd h
fits_wanted (a_compound a n) (numbers b c) h = absurd h
fits_wanted (a_compound a n) (compound b ts) h =
    let s = both_true (eqb a b) (eqb n (count ts)) (holds_true (eqb a b && eqb n (count ts)) h) in
    rw (eqb→eq a b s.0) (that_compound (eqb→eq n (count ts) s.1))

pub wanted_fits : {w : Want} {t : Term} → Wanted w t → Holds (fits w t)
wanted_fits (in_series {l = l} {h = h} {a = a} p q) = (series_holds_at l h a).1 (p, q)
wanted_fits (that_compound {a = a} {n = n} {ts = ts} e) =
    let m = count ts in
    true_holds (eqb a a && eqb n m) (true_both (eqb a a) (eqb n m) (eq_true a a refl) (eq_true n m e))
wanted_fits (in_range {l = l} {h = h} {a = a} {b = b} p q) = (range_holds_at l h a b).1 (p, q)

-- Where it may still turn out either way: at an unknown, and for a range at a span that lies neither wholly inside nor wholly
-- outside it.
pub data Unsure : Want → Term → Type 0 where
  at_unknown : {w : Want} → Unsure w unknown
  partly_inside : {l h a b : ℕ} → ((l ≤ a) × (b ≤ h) → ⊥) → ((b < l) ⊎ (h < a) → ⊥) → Unsure (a_number l h) (numbers a b)

-- "it is not known at an unknown", and a range's test at such a span,
fits_unsure : (w : Want) (t : Term) → NotKnown (fits w t) → Unsure w t
fits_unsure w unknown n = at_unknown
fits_unsure w never n = absurd n
fits_unsure (a_symbol l h) (symbol a) n = absurd (known_decided (leb l a && leb a h) n)
fits_unsure (a_symbol l h) (numbers a b) n = absurd n
fits_unsure (a_symbol l h) (compound b ts) n = absurd n
fits_unsure (a_number l h) (symbol b) n = absurd n
fits_unsure (a_number l h) (numbers a b) n = let s = (range_not_known l h a b).0 n in partly_inside s.0 s.1
fits_unsure (a_number l h) (compound b ts) n = absurd n
fits_unsure (a_compound a k) (symbol b) n = absurd n
fits_unsure (a_compound a k) (numbers b c) n = absurd n
fits_unsure (a_compound a k) (compound b ts) n = absurd (known_decided (eqb a b && eqb k (count ts)) n)

unsure_fits : {w : Want} {t : Term} → Unsure w t → NotKnown (fits w t)
unsure_fits at_unknown = tt
unsure_fits (partly_inside {l = l} {h = h} {a = a} {b = b} p q) = (range_not_known l h a b).1 (p, q)

-- "and contradicted at anything else".
pub record PlaceTested (w : Want) (t : Term) : Type 0 where
  pub when_holds : Holds (fits w t) ↔ Wanted w t
  pub when_not_known : NotKnown (fits w t) ↔ Unsure w t
  pub when_contradicted : Contradicted (fits w t) ↔ ((Wanted w t → ⊥) × (Unsure w t → ⊥))

pub place_tested : (w : Want) (t : Term) → PlaceTested w t
place_tested w t =
    let other = else_contradicted (fits w t) in
    record {
      when_holds = (fits_wanted w t, λ x. wanted_fits x);
      when_not_known = (fits_unsure w t, λ x. unsure_fits x);
      when_contradicted = (
        λ c. let x = other.0 c in (λ y. x.0 (wanted_fits y), λ e. x.1 (unsure_fits e)),
        λ x. other.1 (λ h. x.0 (fits_wanted w t h), λ n. x.1 (fits_unsure w t n)),
      );
    }

-- "A test at any other place that the piece lacks is contradicted."
pub lacking_contradicted
    : (piece : Terms) (x : PlaceTest) → term_at piece x.place ≡ lacking → Contradicted (place_outcome piece x)
lacking_contradicted piece x e = rw e tt

-- Things at ascending places that stand at one place are the same.
ascends_one
    : {A : Type 0} (place : A → ℕ) (b e : ℕ) (xs : List A) → Ascends place b e xs → {x y : A} → Mem x xs → Mem y xs
    → place x ≡ place y → x ≡ y
ascends_one place b e [] up m n same = absurd (mem_none m)
ascends_one {A} place b e (z ∷ xs) up {x} {y} m n same =
    go (mem_cases m) (mem_cases n) (λ p q. ascends_one place (suc (place z)) e xs up.1 p q same)
  where
    later : (u : A) → Mem u xs → suc (place z) ≤ place u
    later u k = all_at (λ (v : A). suc (place z) ≤ place v) k (ascends_from place (suc (place z)) e xs up.1)

    go : (x ≡ z) ⊎ Mem x xs → (y ≡ z) ⊎ Mem y xs → (Mem x xs → Mem y xs → x ≡ y) → x ≡ y
    go (inl p) (inl q) rest = cc
    go (inl p) (inr q) rest = absurd (omega (arith, later y q, ap place p))
    go (inr p) (inl q) rest = absurd (omega (arith, later x p, ap place q))
    go (inr p) (inr q) rest = rest p q

-- A rule of an accepted sheet has at most one place test for each place.
pub one_test
    : {arity : ℕ} {rule : Patterns} → AcceptedRule arity rule → {x y : PlaceTest} → Mem x (place_tests rule)
    → Mem y (place_tests rule) → x.place ≡ y.place → x ≡ y
one_test {rule = rule} ok m n same =
    ascends_one test_place 0 (0 + extent (count_patterns rule) 4) (place_tests rule)
    (all_tests_ascend (patterns_range rule) rule 4 0 ok.sound) m n same
