-- A test that holds, or is contradicted, in a piece does so in every filling of it and in every piece filled in
-- further. Both put terms in unknowns and narrow spans, so there is one law for both, whatever is asked of those terms.
use Prim.Native.Nat.{ℕ, zero, suc, pred, ◌-◌}
use mathlib.Core.Path.{◌≡◌, refl, ap, subst}
use mathlib.Core.Bool.{◌&&◌}
use lib.Dec.{T, leb, ltb, eqb}
use Rattle.places.specs.Numbering.{stride}
use Rattle.terms.specs.Term.{Term, Terms, count, unknown, never, symbol, numbers, compound}
use Rattle.terms.specs.Pattern.{Patterns}
use Rattle.terms.specs.RuleTests.{Want, a_symbol, a_number, a_compound, PlaceTest, PairTest, place_tests, pair_tests}
use Rattle.terms.specs.Lookup.{Found, lacking, found, find, finds}
use Rattle.terms.specs.Outcome.{Contradicted, known, fits, holds_never, hold_never, compare, compares, at_place, at_places, place_outcome, pair_outcome, together, rule_outcome}
use Rattle.terms.specs.Filling.{Puts, Putss, Filling, FilledFurther}
use Rattle.terms.specs.Filling.{put_unknown, put_never, put_symbol, put_numbers, put_compound, put_nil, put_cons}
use Rattle.basics.proofs.Booleans.{cond_related}
use Rattle.terms.proofs.Spans.{inside_stays, spans_stay}
use Rattle.terms.proofs.Never.{beside_stays, never_left, never_right, never_stays, nevers_stay}
use Rattle.terms.proofs.Outcomes.{Stays, Kept, stays_kept, known_stays, and_stays, together_stays}

-- Filling in keeps the number of terms.
pub puts_count : {P : Term → Type 0} {ts gs : Terms} → Putss P ts gs → count ts ≡ count gs
puts_count put_nil = refl
puts_count (put_cons f fs) = ap suc (puts_count fs)

-- What filling in makes of what stands at a place: an unknown there, or above it, may give way to anything.
pub data Becomes (P : Term → Type 0) : Found → Found → Type 0 where
  stays_lacking : Becomes P lacking lacking
  filled_in : {t g : Term} → Puts P t g → Becomes P (found t) (found g)
  was_unknown : {y : Found} → Becomes P (found unknown) y

-- A term that holds record 35 is never equal to what stands at another place,
never_first_lem : (t : Term) (y : Found) → T (holds_never t) → Contradicted (at_places (found t) y)
never_first_lem t lacking n = tt
never_first_lem t (found u) n = never_left t u n

-- nor is what stands there equal to it.
never_second_lem : (y : Found) (u : Term) → T (holds_never u) → Contradicted (at_places y (found u))
never_second_lem lacking u n = tt
never_second_lem (found t) u n = never_right t u n

module _ {P : Term → Type 0} where
  mutual
    -- What stands at a place of a term, and of the term filled in.
    pub find_becomes : {t g : Term} → Puts P t g → (r n : ℕ) → Becomes P (find t r n) (find g r n)
    find_becomes (put_unknown h) r n = was_unknown
    find_becomes put_never r n = filled_in put_never
    find_becomes put_symbol r zero = filled_in put_symbol
    find_becomes put_symbol r (suc n) = stays_lacking
    find_becomes (put_numbers x y z h) r zero = filled_in (put_numbers x y z h)
    find_becomes (put_numbers x y z h) r (suc n) = stays_lacking
    find_becomes (put_compound fs) r zero = filled_in (put_compound fs)
    find_becomes (put_compound fs) r (suc n) = finds_becomes fs (pred r) n

    -- The same for a row of terms.
    pub finds_becomes : {ts gs : Terms} → Putss P ts gs → (r n : ℕ) → Becomes P (finds ts r n) (finds gs r n)
    finds_becomes put_nil r n = stays_lacking
    finds_becomes (put_cons f fs) r n =
        cond_related (Becomes P) (ltb n (stride r)) (find_becomes f r n) (finds_becomes fs r (n - stride r))

  -- What a place test says of a term stays when the term is filled in.
  fits_stays : {t g : Term} (w : Want) → Puts P t g → Stays (fits w t) (fits w g)
  fits_stays w (put_unknown x) = tt
  fits_stays w put_never = tt
  fits_stays (a_symbol l h) (put_symbol {a = b}) = known_stays (leb l b && leb b h)
  fits_stays (a_number l h) put_symbol = tt
  fits_stays (a_compound a n) put_symbol = tt
  fits_stays (a_symbol l h) (put_numbers x y z p) = tt
  fits_stays (a_number l h) (put_numbers {a = a} {b = b} {c = c} {d = d} x y z p) = inside_stays l h a b c d x y z
  fits_stays (a_compound a n) (put_numbers x y z p) = tt
  fits_stays (a_symbol l h) (put_compound fs) = tt
  fits_stays (a_number l h) (put_compound fs) = tt
  fits_stays (a_compound a n) (put_compound {a = b} {ts = ts} fs) =
      subst (λ c. Stays (known (eqb a b && eqb n (count ts))) (known (eqb a b && eqb n c))) (puts_count fs)
      (known_stays (eqb a b && eqb n (count ts)))

  mutual
    -- What is said of two terms side by side stays when both are filled in.
    pub compare_stays : {t g u h : Term} → Puts P t g → Puts P u h → Stays (compare t u) (compare g h)
    compare_stays {g = g} {u = u} {h = h} (put_unknown x) e =
        beside_stays (holds_never u) (compare g h) (λ n. never_right g h (never_stays e n))
    compare_stays put_never e = tt
    compare_stays put_symbol (put_unknown y) = tt
    compare_stays put_symbol put_never = tt
    compare_stays (put_symbol {a = a}) (put_symbol {a = b}) = known_stays (eqb a b)
    compare_stays put_symbol (put_numbers x y z p) = tt
    compare_stays put_symbol (put_compound ys) = tt
    compare_stays (put_numbers x y z p) (put_unknown q) = tt
    compare_stays (put_numbers x y z p) put_never = tt
    compare_stays (put_numbers x y z p) put_symbol = tt
    compare_stays (put_numbers {a = a} {b = b} {c = e} {d = f} x y z p) (put_numbers {a = c} {b = d} {c = g} {d = h} u v w q) =
        spans_stay a b c d e f g h x y z u v w
    compare_stays (put_numbers x y z p) (put_compound ys) = tt
    compare_stays (put_compound {a = a} {ts = ts} {gs = gs} xs) (put_unknown {g = h} y) =
        beside_stays (hold_never ts) (compare (compound a gs) h) (λ n. never_left (compound a gs) h (nevers_stay xs n))
    compare_stays (put_compound xs) put_never = tt
    compare_stays (put_compound xs) put_symbol = tt
    compare_stays (put_compound xs) (put_numbers x y z p) = tt
    compare_stays (put_compound {a = a} {ts = ts} {gs = gs} xs) (put_compound {a = b} {ts = us} {gs = hs} ys) =
        and_stays (known (eqb a b)) (compares ts us) (known (eqb a b)) (compares gs hs) (known_stays (eqb a b))
        (compares_stays xs ys)

    -- The same for two rows of terms.
    pub compares_stays
        : {ts gs us hs : Terms} → Putss P ts gs → Putss P us hs → Stays (compares ts us) (compares gs hs)
    compares_stays put_nil put_nil = tt
    compares_stays put_nil (put_cons y ys) = tt
    compares_stays (put_cons x xs) put_nil = tt
    compares_stays (put_cons {t = t} {g = g} {ts = ts} {gs = gs} x xs) (put_cons {t = u} {g = h} {ts = us} {gs = hs} y ys) =
        and_stays (compare t u) (compares ts us) (compare g h) (compares gs hs) (compare_stays x y) (compares_stays xs ys)

  -- What a place test says of what stands there stays when that is filled in.
  at_place_stays : {x y : Found} (w : Want) → Becomes P x y → Stays (at_place (fits w) x) (at_place (fits w) y)
  at_place_stays w stays_lacking = tt
  at_place_stays w was_unknown = tt
  at_place_stays w (filled_in f) = fits_stays w f

  -- What is said of a term and an unknown stays when both are filled in, whatever then stands where the unknown stood.
  beside_unknown_lem : (t : Term) {g : Term} (y : Found) → Puts P t g → Stays (compare t unknown) (at_places (found g) y)
  beside_unknown_lem unknown y f = tt
  beside_unknown_lem never {g} y f = never_first_lem g y (never_stays f tt)
  beside_unknown_lem (symbol a) y f = tt
  beside_unknown_lem (numbers a b) y f = tt
  beside_unknown_lem (compound a ts) {g} y f =
      beside_stays (hold_never ts) (at_places (found g) y) (λ n. never_first_lem g y (never_stays f n))

  -- What an equality test says of what stands at two places stays when both are filled in.
  at_places_stays : {x y u v : Found} → Becomes P x y → Becomes P u v → Stays (at_places x u) (at_places y v)
  at_places_stays stays_lacking q = tt
  at_places_stays (filled_in f) stays_lacking = tt
  at_places_stays (was_unknown {y = lacking}) stays_lacking = tt
  at_places_stays (was_unknown {y = found g}) stays_lacking = tt
  at_places_stays (filled_in f) (filled_in g) = compare_stays f g
  at_places_stays (was_unknown {y = y}) (filled_in {t = u} {g = h} g) =
      beside_stays (holds_never u) (at_places y (found h)) (λ n. never_second_lem y h (never_stays g n))
  at_places_stays was_unknown was_unknown = tt
  at_places_stays (filled_in {t = t} f) (was_unknown {y = y}) = beside_unknown_lem t y f

  -- A place test stays when the piece is filled in,
  pub place_stays
      : {piece more : Terms} → Putss P piece more → (x : PlaceTest) → Stays (place_outcome piece x) (place_outcome more x)
  place_stays fill x = at_place_stays x.want (finds_becomes fill 4 x.place)

  -- an equality test does,
  pub pair_stays
      : {piece more : Terms} → Putss P piece more → (x : PairTest) → Stays (pair_outcome piece x) (pair_outcome more x)
  pair_stays fill x = at_places_stays (finds_becomes fill 4 x.first) (finds_becomes fill 4 x.second)

  -- and so do all tests of a rule together.
  pub rule_stays
      : {piece more : Terms} → Putss P piece more → (rule : Patterns) → Stays (rule_outcome rule piece) (rule_outcome rule more)
  rule_stays {piece} {more} fill rule =
      and_stays (together (place_outcome piece) (place_tests rule)) (together (pair_outcome piece) (pair_tests rule))
      (together (place_outcome more) (place_tests rule)) (together (pair_outcome more) (pair_tests rule))
      (together_stays (place_outcome piece) (place_outcome more) (place_stays fill) (place_tests rule))
      (together_stays (pair_outcome piece) (pair_outcome more) (pair_stays fill) (pair_tests rule))

-- A place test that holds (is contradicted) in a piece holds (is contradicted) in every filling of it.
pub place_in_filling
    : {piece filled : Terms} → Filling piece filled → (x : PlaceTest)
    → Kept (place_outcome piece x) (place_outcome filled x)
place_in_filling {piece} {filled} fill x = stays_kept (place_outcome piece x) (place_outcome filled x) (place_stays fill x)

-- A place test that holds (is contradicted) in a piece holds (is contradicted) in every piece filled in further.
pub place_in_further
    : {piece further : Terms} → FilledFurther piece further → (x : PlaceTest)
    → Kept (place_outcome piece x) (place_outcome further x)
place_in_further {piece} {further} more x = stays_kept (place_outcome piece x) (place_outcome further x) (place_stays more x)

-- An equality test that holds (is contradicted) in a piece holds (is contradicted) in every filling of it.
pub pair_in_filling
    : {piece filled : Terms} → Filling piece filled → (x : PairTest)
    → Kept (pair_outcome piece x) (pair_outcome filled x)
pair_in_filling {piece} {filled} fill x = stays_kept (pair_outcome piece x) (pair_outcome filled x) (pair_stays fill x)

-- An equality test that holds (is contradicted) in a piece holds (is contradicted) in every piece filled in further.
pub pair_in_further
    : {piece further : Terms} → FilledFurther piece further → (x : PairTest)
    → Kept (pair_outcome piece x) (pair_outcome further x)
pair_in_further {piece} {further} more x = stays_kept (pair_outcome piece x) (pair_outcome further x) (pair_stays more x)
