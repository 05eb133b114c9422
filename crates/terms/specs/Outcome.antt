-- The three values of a test in a piece, and of a rule's tests (document 01, "Places and tests"; document 02, requests 4 to 7).
use Rattle.std.specs.Prelude.{ℕ, Bool, true, false, ◌&&◌, ◌||◌, cond, List, [], ◌∷◌, leb, ltb, eqb}
use Rattle.basics.specs.Lists.{All}
use Rattle.terms.specs.Term.{Term, Terms, count, unknown, never, symbol, numbers, compound, nil, cons}
use Rattle.terms.specs.Pattern.{Patterns}
use Rattle.terms.specs.RuleTests.{Want, a_symbol, a_number, a_compound, PlaceTest, PairTest, place_tests, pair_tests}
use Rattle.terms.specs.Lookup.{Found, lacking, found, term_at}

pub data Outcome : Type 0 where
  holds not_known contradicted : Outcome

abbrev pub Holds : Outcome → Type 0
Holds holds = Unit
Holds _ = ⊥

abbrev pub NotKnown : Outcome → Type 0
NotKnown not_known = Unit
NotKnown _ = ⊥

abbrev pub Contradicted : Outcome → Type 0
Contradicted contradicted = Unit
Contradicted _ = ⊥

-- Where there is nothing unknown, a test holds or is contradicted.
abbrev pub known : Bool → Outcome
known true = holds
known false = contradicted

-- Two outcomes together: contradicted if one is, else not known if one is.
abbrev pub ◌and◌ : Outcome → Outcome → Outcome
◌and◌ holds y = y
◌and◌ not_known holds = not_known
◌and◌ not_known not_known = not_known
◌and◌ not_known contradicted = contradicted
◌and◌ contradicted y = contradicted

-- "A range's test holds at a span wholly inside it, is contradicted at one wholly outside, else is not known."
abbrev pub inside : ℕ → ℕ → ℕ → ℕ → Outcome
inside l h a b = cond (leb l a && leb b h) holds (cond (ltb b l || ltb h a) contradicted not_known)

-- "A place test holds at that symbol, at a compound of that id and arity, or at a number in that range; it is not known at an
-- unknown and contradicted at anything else." "Pattern 26 .. accepts every symbol with an id from low to high." "Any other place
-- test is contradicted at a span." Record 35 "contradicts every place test".
abbrev pub fits : Want → Term → Outcome
fits w unknown = not_known
fits (a_symbol l h) (symbol a) = known (leb l a && leb a h)
fits (a_number l h) (numbers a b) = inside l h a b
fits (a_compound a n) (compound b ts) = known (eqb a b && eqb n (count ts))
fits _ _ = contradicted

-- "Spans with no common number differ, .. and a span of several numbers makes a comparison otherwise not known." "Two numbers are
-- now equal only if gauge and value are both equal", and "a span and a number on another gauge differ".
abbrev pub compare_spans : ℕ → ℕ → ℕ → ℕ → Outcome
compare_spans a b c d = cond (ltb b c || ltb d a) contradicted (cond (eqb a b && eqb c d) holds not_known)

-- "A term that is or holds it", record 35.
abbrev mutual
  pub holds_never : Term → Bool
  holds_never never = true
  holds_never (compound a ts) = hold_never ts
  holds_never _ = false

  pub hold_never : Terms → Bool
  hold_never nil = false
  hold_never (cons t ts) = holds_never t || hold_never ts

-- An unknown beside a term: "a term that is or holds it differs from every term, itself and unknowns included".
abbrev pub beside_unknown : Bool → Outcome
beside_unknown true = contradicted
beside_unknown false = not_known

-- "Two terms are equal when they are the same and hold no unknown; compounds differ when id or arity differ or when some pair
-- of their arguments in turn differs; two symbols or two numbers differ when they are not the same; a symbol, a number and a
-- compound differ from one another. Anything else is not known." "A span differs from every symbol and compound as a number
-- does." Nothing is equal to record 35. Equal terms hold, terms that differ are contradicted.
abbrev mutual
  pub compare : Term → Term → Outcome
  compare unknown u = beside_unknown (holds_never u)
  compare never u = contradicted
  compare (symbol a) unknown = not_known
  compare (symbol a) (symbol b) = known (eqb a b)
  compare (numbers a b) unknown = not_known
  compare (numbers a b) (numbers c d) = compare_spans a b c d
  compare (compound a ts) unknown = beside_unknown (hold_never ts)
  compare (compound a ts) (compound b us) = ◌and◌ (known (eqb a b)) (compares ts us)
  compare _ _ = contradicted

  pub compares : Terms → Terms → Outcome
  compares nil nil = holds
  compares nil (cons u us) = contradicted
  compares (cons t ts) nil = contradicted
  compares (cons t ts) (cons u us) = ◌and◌ (compare t u) (compares ts us)

-- "A test at any other place that the piece lacks is contradicted."
abbrev pub at_place : (Term → Outcome) → Found → Outcome
at_place f lacking = contradicted
at_place f (found t) = f t

abbrev pub at_places : Found → Found → Outcome
at_places lacking y = contradicted
at_places (found t) lacking = contradicted
at_places (found t) (found u) = compare t u

-- The outcome of a place test, and of an equality test, in a piece.
abbrev pub place_outcome : Terms → PlaceTest → Outcome
place_outcome piece x = at_place (fits x.want) (term_at piece x.place)

abbrev pub pair_outcome : Terms → PairTest → Outcome
pair_outcome piece x = at_places (term_at piece x.first) (term_at piece x.second)

-- The outcome of all tests of a list together.
abbrev pub together : {A : Type 0} → (A → Outcome) → List A → Outcome
together f [] = holds
together f (x ∷ xs) = ◌and◌ (f x) (together f xs)

-- The outcome of all tests of a rule together.
abbrev pub rule_outcome : Patterns → Terms → Outcome
rule_outcome rule piece =
    ◌and◌ (together (place_outcome piece) (place_tests rule)) (together (pair_outcome piece) (pair_tests rule))

-- "A rule is met when all its tests hold."
abbrev pub Meets : Patterns → Terms → Type 0
Meets rule piece =
    All (λ (x : PlaceTest). Holds (place_outcome piece x)) (place_tests rule)
    × All (λ (x : PairTest). Holds (pair_outcome piece x)) (pair_tests rule)
