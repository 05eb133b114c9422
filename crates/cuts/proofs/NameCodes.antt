-- The cuts of what is wanted, as codes, are those of symbols and compounds, then those of the ranges.
use Prim.Native.Nat.{ℕ, suc, pred, ◌≤◌, ◌<◌}
use mathlib.Core.Path.{◌≡◌, refl, sym, ap, ◌∙◌}
use mathlib.Core.List.{List, [], ◌∷◌, ◌++◌, map}
use mathlib.Core.Logic.{inl, inr, by_cases}
use native.Mathlib.Decide.{dec_lt}
use native.Mathlib.Omega.{arith}
use lib.Dec.{ltb}
use borrow.Author.Tests.{lt-ltb, le-ltb}
use Rattle.basics.specs.Lists.{Mem, here, there, All}
use Rattle.basics.specs.Order.{insert_by}
use Rattle.basics.proofs.Booleans.{by_test}
use Rattle.basics.proofs.Filters.{all_mapped, mapped_always}
use Rattle.basics.proofs.ListLaws.{all_at, all_from, all_map}
use Rattle.basics.proofs.Sorted.{AscendingBy}
use Rattle.terms.specs.RuleTests.{Want, a_symbol, a_number, a_compound, Range}
use Rattle.codes.specs.views.Codes.{symbol_code, compound_code, number_code, SoundWant}
use Rattle.decision.specs.Cases.{ranges_of}
use Rattle.decision.specs.Runs.{cuts, between}
use Rattle.decision.proofs.cases.RangeRuns as ranges
use Rattle.cuts.proofs.CodeRanges.{want_range}

-- The series and compounds that are wanted.
abbrev pub name_wants : List Want → List Want
name_wants [] = []
name_wants (a_symbol l h ∷ ws) = a_symbol l h ∷ name_wants ws
name_wants (a_number l h ∷ ws) = name_wants ws
name_wants (a_compound a n ∷ ws) = a_compound a n ∷ name_wants ws

-- What holds of each wanted series and compound holds of these, and each is one of them.
pub name_wants_all
    : (ws : List Want) (Q : Want → Type 0) → ((l h : ℕ) → Mem (a_symbol l h) ws → Q (a_symbol l h))
    → ((a n : ℕ) → Mem (a_compound a n) ws → Q (a_compound a n)) → All Q (name_wants ws)
name_wants_all [] Q f g = tt
name_wants_all (a_symbol l h ∷ ws) Q f g = (f l h here, name_wants_all ws Q (λ x y m. f x y (there m)) (λ b n m. g b n (there m)))
name_wants_all (a_number l h ∷ ws) Q f g = name_wants_all ws Q (λ x y m. f x y (there m)) (λ b n m. g b n (there m))
name_wants_all (a_compound a n ∷ ws) Q f g = (g a n here, name_wants_all ws Q (λ x y m. f x y (there m)) (λ b k m. g b k (there m)))

pub symbol_name : {l h : ℕ} {ws : List Want} → Mem (a_symbol l h) ws → Mem (a_symbol l h) (name_wants ws)
symbol_name here = here
symbol_name (there {y = a_symbol x y} m) = there (symbol_name m)
symbol_name (there {y = a_number l h} m) = symbol_name m
symbol_name (there {y = a_compound b n} m) = there (symbol_name m)

pub compound_name : {a n : ℕ} {ws : List Want} → Mem (a_compound a n) ws → Mem (a_compound a n) (name_wants ws)
compound_name here = here
compound_name (there {y = a_symbol x y} m) = there (compound_name m)
compound_name (there {y = a_number l h} m) = compound_name m
compound_name (there {y = a_compound b n} m) = there (compound_name m)

-- The codes of a range of numbers.
abbrev pub code_range : Range → Range
code_range r = record { low = number_code r.low; high = number_code r.high }

-- What is put in below a list's end is put in before it, and what is above a list behind it.
insert_left : (z : ℕ) (xs ys : List ℕ) → All (λ (y : ℕ). z < y) ys → insert_by ltb z (xs ++ ys) ≡ insert_by ltb z xs ++ ys
insert_left z [] [] h = refl
insert_left z [] (y ∷ ys) h = rw (lt-ltb z y h.0)
insert_left z (x ∷ xs) ys h =
    by_test (ltb z x) (λ e. rw e)
    (λ e. rw e (by_test (ltb x z) (λ d. rw d (ap (λ (l : List ℕ). x ∷ l) (insert_left z xs ys h))) (λ d. rw d)))

insert_right : (z : ℕ) (xs ys : List ℕ) → All (λ (x : ℕ). x < z) xs → insert_by ltb z (xs ++ ys) ≡ xs ++ insert_by ltb z ys
insert_right z [] ys h = refl
insert_right z (x ∷ xs) ys h =
    rw (le-ltb z x (omega (arith, h.0)), lt-ltb x z h.0) (ap (λ (l : List ℕ). x ∷ l) (insert_right z xs ys h.1))

-- The codes of numbers are in order as the numbers are.
pub code_before : (a b : ℕ) → ltb (number_code a) (number_code b) ≡ ltb a b
code_before a b =
    by_cases (dec_lt a b) (λ (h : a < b). lt-ltb (number_code a) (number_code b) (omega arith) ∙ sym (lt-ltb a b h))
    (λ (h : ¬ (a < b)). le-ltb (number_code a) (number_code b) (omega arith) ∙ sym (le-ltb a b (omega arith)))

pub insert_code : (a : ℕ) (xs : List ℕ) → insert_by ltb (number_code a) (map number_code xs) ≡ map number_code (insert_by ltb a xs)
insert_code a [] = refl
insert_code a (x ∷ xs) =
    rw (code_before a x, code_before x a)
    (by_test (ltb a x) (λ e. rw e)
    (λ e. rw e (by_test (ltb x a) (λ d. rw d (ap (λ (l : List ℕ). number_code x ∷ l) (insert_code a xs))) (λ d. rw d))))

pub between_codes : (zs : List ℕ) → AscendingBy ◌<◌ zs → between (map number_code zs) ≡ map code_range (between zs)
between_codes [] a = refl
between_codes (x ∷ []) a = refl
between_codes (x ∷ (y ∷ ys)) a =
    let last : pred (number_code y) ≡ number_code (pred y) = omega (arith, a.0.0) in
    λ i. record { low = number_code x; high = last i } ∷ between_codes (y ∷ ys) a.1 i

-- The codes of symbols and compounds, and those after them, are above 0 and below those of numbers.
abbrev NameRange : Range → Type 0
NameRange r = (0 < r.low) × (r.low ≤ r.high) × (suc r.high < 0x300_0000)

name_wants_sound : (ws : List Want) → All SoundWant ws → All (λ (w : Want). NameRange (want_range w)) (name_wants ws)
name_wants_sound ws s =
    name_wants_all ws (λ (w : Want). NameRange (want_range w))
    (λ l h m. let k = all_at SoundWant m s in (omega arith, omega (arith, k.0), omega (arith, k.1)))
    (λ a n m. let k = all_at SoundWant m s in (omega arith, omega arith, omega (arith, k.0, k.1)))

abbrev pub Below : ℕ → Type 0
Below z = (0 < z) × (z < 0x300_0000)

pub name_cuts_below : (ws : List Want) → All SoundWant ws
    → All Below (cuts (map want_range (name_wants ws)))
name_cuts_below ws s =
    all_from Below (cuts (map want_range (name_wants ws)))
    (λ z m.
    let c = ranges.cut_wanted (map want_range (name_wants ws)) z m in
    let r = all_at NameRange c.1 (all_mapped NameRange want_range (name_wants ws) (name_wants_sound ws s)) in
    elim c.2 [
      | inl e ↦ (omega (arith, r.0), omega (arith, r.1, r.2))
      | inr e ↦ (omega arith, omega (arith, r.2))
    ])

module _ (zs ps ns : List ℕ) (e : zs ≡ ps ++ map number_code ns) where
  name_step : (low high : ℕ) → low ≤ high → suc high < 0x300_0000
      → insert_by ltb low (insert_by ltb (suc high) zs) ≡ insert_by ltb low (insert_by ltb (suc high) ps) ++ map number_code ns
  name_step low high o h =
      let above : (z : ℕ) → z ≤ suc high → All (λ (y : ℕ). z < y) (map number_code ns) =
      λ z k. mapped_always (λ (y : ℕ). z < y) number_code (λ x. omega arith) ns in
      ap (λ (l : List ℕ). insert_by ltb low (insert_by ltb (suc high) l)) e
      ∙ ap (insert_by ltb low) (insert_left (suc high) ps (map number_code ns) (above (suc high) (omega arith)))
      ∙ insert_left low (insert_by ltb (suc high) ps) (map number_code ns) (above low (omega arith))

  number_step : (l h : ℕ) → All Below ps
      → insert_by ltb (number_code l) (insert_by ltb (suc (number_code h)) zs)
      ≡ ps ++ map number_code (insert_by ltb l (insert_by ltb (suc h) ns))
  number_step l h below =
      let under : (z : ℕ) → All (λ (x : ℕ). x < number_code z) ps =
      λ z. all_map Below (λ (x : ℕ). x < number_code z) (λ x k. omega (arith, k.1)) ps below in
      let next : suc (number_code h) ≡ number_code (suc h) = omega arith in
      let behind : (z : ℕ) (xs : List ℕ)
      → insert_by ltb (number_code z) (ps ++ map number_code xs) ≡ ps ++ map number_code (insert_by ltb z xs) =
      λ z xs. insert_right (number_code z) ps (map number_code xs) (under z) ∙ ap (λ (l : List ℕ). ps ++ l) (insert_code z xs) in
      (λ i. insert_by ltb (number_code l) (insert_by ltb (next i) (e i)))
      ∙ ap (insert_by ltb (number_code l)) (behind (suc h) ns)
      ∙ behind l (insert_by ltb (suc h) ns)

pub cuts_parted : (ws : List Want) → All SoundWant ws
    → cuts (map want_range ws) ≡ cuts (map want_range (name_wants ws)) ++ map number_code (cuts (ranges_of ws))
cuts_parted [] s = refl
cuts_parted (a_symbol l h ∷ ws) s =
    name_step (cuts (map want_range ws)) (cuts (map want_range (name_wants ws))) (cuts (ranges_of ws)) (cuts_parted ws s.1)
    (symbol_code l) (symbol_code h) (omega (arith, s.0.0)) (omega (arith, s.0.1))
cuts_parted (a_number l h ∷ ws) s =
    number_step (cuts (map want_range ws)) (cuts (map want_range (name_wants ws))) (cuts (ranges_of ws)) (cuts_parted ws s.1) l h
    (name_cuts_below ws s.1)
cuts_parted (a_compound a n ∷ ws) s =
    name_step (cuts (map want_range ws)) (cuts (map want_range (name_wants ws))) (cuts (ranges_of ws)) (cuts_parted ws s.1)
    (compound_code a n) (compound_code a n) (omega arith) (omega (arith, s.0.0, s.0.1))
