-- The set of a rule's tests, note by note.
use Prim.Native.Nat.{ℕ, ◌+◌, ◌^◌, ◌≤◌, ◌<◌}
use mathlib.Core.Path.{◌≡◌, refl, sym, ap, ◌∙◌}
use mathlib.Core.Bool.{Bool, true, false, ◌||◌, or-false, cond}
use mathlib.Core.List.{List, [], ◌∷◌, ◌++◌, map-append}
use mathlib.Core.Option.{some, none}
use native.Mathlib.Omega.{arith}
use lib.Dec.{eqb}
use lib.ListN.{length, get_or, drop}
use borrow.Author.Tests.{ne_eqb}
use Rattle.std.specs.Prelude as std
use Rattle.std.specs.Prelude.{Some, None}
use Rattle.masks.specs.Mask.{has}
use Rattle.masks.proofs.Extensionality.{mask_of_unique}
use Rattle.terms.specs.RuleTests.{Want, PlaceTest, Occurrence, both, pairs_with, pairs_of}
use Rattle.patterns.specs.declared.PatternRecord.{PatternRecord}
use Rattle.patterns.specs.declared.PatternRecord.TheVariants.{Anything, Symbol, Range, Compound, Variable, Ranged, Series, Gauged}
use Rattle.patterns.specs.views.NoteCode.{code_place, code_record}
use Rattle.sheet.specs.views.NoteArray.{notes_in}
use Rattle.pairs.specs.views.KeptPairs.{pair_code}
use Rattle.pairs.specs.views.NoteVariables.{name_of, names_variable, occurrence, notes_variables, pair_codes, codes_with, notes_codes}
use Rattle.pairs.proofs.NoteRows.{notes_next, notes_end}
use Rattle.rows.specs.views.Row.{with_test, with_tests, pair_number, place_numbers, pair_numbers}
use Rattle.rows.proofs.NotesWanted.{want_here, tests_from, tests_turn, tests_end}
use Rattle.masks.proofs.Listed.{cons_if}

-- A number from 64 on changes no set.
pub with_none : (row t : ℕ) → row < 2 ^ 64 → 64 ≤ t → row ≡ with_test row t
unfolding with_test
with_none row t fits past =
    mask_of_unique 64 row _ fits
    (λ i h. sym (ap (λ (b : Bool). has row i || b) (ne_eqb t i (λ e. omega arith)) ∙ or-false (has row i)))

-- The tests of joined lists are put in one list after the other.
pub with_append : (xs ys : List ℕ) (row : ℕ) → with_tests (xs ++ ys) row ≡ with_tests ys (with_tests xs row)
with_append [] ys row = refl
with_append (x ∷ xs) ys row = with_append xs ys (with_test row x)

-- Place tests.
module _ (low high codes : List ℕ) (n : ℕ) (within : n ≤ length codes) (i : ℕ) (numbers : List ℕ) where
  abbrev pub places_from : ℕ → ℕ → ℕ
  places_from j row = with_tests (place_numbers numbers (tests_from low high codes n within i j)) row

  -- A note that wants something has its number put in,
  pub places_turn
      : i < n → (w : Want) → want_here low high codes n within i ≡ some w → (row : ℕ)
      → places_from (i + 1) (with_test row (get_or numbers (code_place (get_or codes i 0)) 0)) ≡ places_from i row
  places_turn h w e row =
      sym
      (ap (λ (ts : List PlaceTest). with_tests (place_numbers numbers ts) row)
      (tests_turn low high codes n within i h (some w) e))

  -- any other is passed.
  pub places_skip
      : i < n → want_here low high codes n within i ≡ none → (row : ℕ) → places_from (i + 1) row ≡ places_from i row
  places_skip h e row =
      sym (ap (λ (ts : List PlaceTest). with_tests (place_numbers numbers ts) row) (tests_turn low high codes n within i h none e))

  pub places_end : n ≤ i → (row : ℕ) → places_from i row ≡ row
  places_end h row =
      ap (λ (ts : List PlaceTest). with_tests (place_numbers numbers ts) row) (tests_end low high codes n within i h)

-- A name is v.
abbrev is_name : ℕ → std.Option ℕ → Bool
is_name v None = false
is_name v (Some u) = eqb v u

named_is : (v : ℕ) (what : PatternRecord) → names_variable v what ≡ is_name v (name_of what)
named_is v Anything = refl
named_is v (Symbol a) = refl
named_is v (Range l h) = refl
named_is v (Compound a k) = refl
named_is v (Variable u) = refl
named_is v (Ranged u l h) = refl
named_is v (Series l h) = refl
named_is v (Gauged g l h) = refl

-- The pairs with an occurrence more.
codes_more
    : (p v q : ℕ) (name : std.Option ℕ) (os : List Occurrence)
    → pair_codes (pairs_with p v (occurrence q name os)) ≡ cons_if (is_name v name) (pair_code p q) (pair_codes (pairs_with p v os))
codes_more p v q None os = refl
codes_more p v q (Some u) os = go (eqb v u)
  where
    go
        : (b : Bool)
        → pair_codes (cond b (both p q ∷ pairs_with p v os) (pairs_with p v os))
        ≡ cons_if b (pair_code p q) (pair_codes (pairs_with p v os))
    go true = refl
    go false = refl

-- The pairs of the notes from one on, with a note more.
module _ (codes : List ℕ) (n : ℕ) (within : n ≤ length codes) (i : ℕ) where
  -- A place of v makes a pair with a place of v, and any other note none.
  pub codes_turn
      : (p v : ℕ) (b : Bool) → i < n → names_variable v (code_record (get_or codes i 0)) ≡ b
      → codes_with p v (drop i (notes_in codes n))
      ≡ cons_if b (pair_code p (code_place (get_or codes i 0))) (codes_with p v (drop (i + 1) (notes_in codes n)))
  codes_turn p v b h e =
      let c = get_or codes i 0 in
      let rest = drop (i + 1) (notes_in codes n) in
      ap (codes_with p v) (notes_next codes n within i h)
      ∙ codes_more p v (code_place c) (name_of (code_record c)) (notes_variables rest)
      ∙ ap (λ (x : Bool). cons_if x (pair_code p (code_place c)) (codes_with p v rest)) (sym (named_is v (code_record c)) ∙ e)

  pub codes_end : (p v : ℕ) → n ≤ i → codes_with p v (drop i (notes_in codes n)) ≡ []
  codes_end p v h = ap (codes_with p v) (notes_end codes n within i h)

  all_turn
      : (name : std.Option ℕ) → i < n → name_of (code_record (get_or codes i 0)) ≡ name
      → notes_codes (drop i (notes_in codes n))
      ≡ pair_codes (pairs_of (occurrence (code_place (get_or codes i 0)) name (notes_variables (drop (i + 1) (notes_in codes n)))))
  all_turn name h e =
      let os = notes_variables (drop (i + 1) (notes_in codes n)) in
      ap notes_codes (notes_next codes n within i h)
      ∙ ap (λ (x : std.Option ℕ). pair_codes (pairs_of (occurrence (code_place (get_or codes i 0)) x os))) e

  -- A variable makes pairs with its later places,
  pub all_named
      : (v : ℕ) → i < n → name_of (code_record (get_or codes i 0)) ≡ Some v
      → notes_codes (drop i (notes_in codes n))
      ≡ codes_with (code_place (get_or codes i 0)) v (drop (i + 1) (notes_in codes n)) ++ notes_codes (drop (i + 1) (notes_in codes n))
  all_named v h e =
      let os = notes_variables (drop (i + 1) (notes_in codes n)) in
      all_turn (Some v) h e ∙ map-append _ (pairs_with (code_place (get_or codes i 0)) v os) (pairs_of os)

  -- and any other record none.
  pub all_nameless
      : i < n → name_of (code_record (get_or codes i 0)) ≡ None
      → notes_codes (drop i (notes_in codes n)) ≡ notes_codes (drop (i + 1) (notes_in codes n))
  all_nameless h e = all_turn None h e

  pub all_end : n ≤ i → notes_codes (drop i (notes_in codes n)) ≡ []
  all_end h = ap notes_codes (notes_end codes n within i h)

module _ (codes : List ℕ) (n : ℕ) (within : n ≤ length codes) (i count : ℕ) (kept : List ℕ) where
  -- The pairs of a place of variable v with the notes from one on.
  module _ (p v : ℕ) where
    abbrev pub with_from : ℕ → ℕ → ℕ
    with_from j row = with_tests (pair_numbers count kept (codes_with p v (drop j (notes_in codes n)))) row

    -- A place of v makes a pair,
    pub with_yes
        : i < n → names_variable v (code_record (get_or codes i 0)) ≡ true → (row : ℕ)
        → with_from (i + 1) (with_test row (pair_number count kept (pair_code p (code_place (get_or codes i 0))))) ≡ with_from i row
    with_yes h e row =
        sym (ap (λ (cs : List ℕ). with_tests (pair_numbers count kept cs) row) (codes_turn codes n within i p v true h e))

    -- and any other note none.
    pub with_no : i < n → names_variable v (code_record (get_or codes i 0)) ≡ false → (row : ℕ) → with_from (i + 1) row ≡ with_from i row
    with_no h e row =
        sym (ap (λ (cs : List ℕ). with_tests (pair_numbers count kept cs) row) (codes_turn codes n within i p v false h e))

    pub with_end : n ≤ i → (row : ℕ) → with_from i row ≡ row
    with_end h row = ap (λ (cs : List ℕ). with_tests (pair_numbers count kept cs) row) (codes_end codes n within i p v h)

  -- All pairs of the notes from one on.
  abbrev pub pairs_from : ℕ → ℕ → ℕ
  pairs_from j row = with_tests (pair_numbers count kept (notes_codes (drop j (notes_in codes n)))) row

  -- A variable makes pairs with its later places,
  pub pairs_named
      : (v : ℕ) → i < n → name_of (code_record (get_or codes i 0)) ≡ Some v → (row : ℕ)
      → pairs_from (i + 1) (with_from (code_place (get_or codes i 0)) v (i + 1) row) ≡ pairs_from i row
  pairs_named v h e row =
      let own = codes_with (code_place (get_or codes i 0)) v (drop (i + 1) (notes_in codes n)) in
      let rest = notes_codes (drop (i + 1) (notes_in codes n)) in
      sym
      (ap (λ (cs : List ℕ). with_tests (pair_numbers count kept cs) row) (all_named codes n within i v h e)
      ∙ ap (λ (ts : List ℕ). with_tests ts row) (map-append _ own rest)
      ∙ with_append (pair_numbers count kept own) (pair_numbers count kept rest) row)

  -- and any other record none.
  pub pairs_nameless
      : i < n → name_of (code_record (get_or codes i 0)) ≡ None → (row : ℕ) → pairs_from (i + 1) row ≡ pairs_from i row
  pairs_nameless h e row =
      sym (ap (λ (cs : List ℕ). with_tests (pair_numbers count kept cs) row) (all_nameless codes n within i h e))

  pub pairs_end : n ≤ i → (row : ℕ) → pairs_from i row ≡ row
  pairs_end h row = ap (λ (cs : List ℕ). with_tests (pair_numbers count kept cs) row) (all_end codes n within i h)
