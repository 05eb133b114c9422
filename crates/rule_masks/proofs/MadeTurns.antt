-- The tests of a rule made in a piece, note by note.
use Prim.Native.Nat.{ℕ, ◌+◌, ◌^◌, ◌≤◌, ◌<◌}
use mathlib.Core.Path.{◌≡◌, refl, sym, ap, ◌∙◌}
use mathlib.Core.Bool.{true, false}
use mathlib.Core.List.{List, [], ◌∷◌, ◌++◌, map, map-append}
use mathlib.Core.Option.{some, none}
use lib.ListN.{length, get_or, drop}
use Rattle.std.specs.Prelude.{Some, None}
use Rattle.terms.specs.RuleTests.{Want, PlaceTest, at}
use Rattle.patterns.specs.views.NoteCode.{code_place, code_record}
use Rattle.sheet.specs.views.NoteArray.{notes_in}
use Rattle.sheet_tests.specs.SheetTests.{Test}
use Rattle.pairs.specs.views.KeptPairs.{pair_code}
use Rattle.pairs.specs.views.NoteVariables.{name_of, names_variable, codes_with, notes_codes}
use Rattle.rows.proofs.NotesWanted.{want_here, tests_from, tests_turn, tests_end}
use Rattle.rows.specs.views.Row.{with_test}
use Rattle.rows.proofs.RowTurns as row
use Rattle.rows.proofs.RowTurns.{codes_turn, codes_end, all_named, all_nameless, all_end}
use Rattle.rule_masks.specs.declared.Masks.{Masks}
use Rattle.rule_masks.specs.views.TestNumbers.{with_if}
use Rattle.rule_masks.specs.views.RuleMasks.{Made, with_made, after_all, place_made, pair_made, after_pairs}

-- The tests of joined lists are made one list after the other.
pub after_append
    : (tests : List Test) (xs ys : List Made) (m : Masks)
    → after_all tests (xs ++ ys) m ≡ after_all tests ys (after_all tests xs m)
after_append tests [] ys m = refl
after_append tests (x ∷ xs) ys m = after_append tests xs ys (with_made tests m x)

-- A number from 64 on is in no set.
pub with_none : (set t : ℕ) → set < 2 ^ 64 → 64 ≤ t → set ≡ with_if true set t
unfolding with_test
with_none set t fits past = row.with_none set t fits past

-- Place tests.
module _ (tests : List Test) (cells low high codes : List ℕ) (n : ℕ) (within : n ≤ length codes) (i : ℕ) where
  abbrev pub places_from : ℕ → Masks → Masks
  places_from j m = after_all tests (map (place_made cells) (tests_from low high codes n within i j)) m

  -- A note that wants something has its test made,
  pub places_turn
      : i < n → (w : Want) → want_here low high codes n within i ≡ some w → (m : Masks)
      → places_from (i + 1) (with_made tests m (place_made cells (at (code_place (get_or codes i 0)) w))) ≡ places_from i m
  places_turn h w e m =
      sym
      (ap (λ (ts : List PlaceTest). after_all tests (map (place_made cells) ts) m)
      (tests_turn low high codes n within i h (some w) e))

  -- any other is passed.
  pub places_skip : i < n → want_here low high codes n within i ≡ none → (m : Masks) → places_from (i + 1) m ≡ places_from i m
  places_skip h e m =
      sym
      (ap (λ (ts : List PlaceTest). after_all tests (map (place_made cells) ts) m) (tests_turn low high codes n within i h none e))

  pub places_end : n ≤ i → (m : Masks) → places_from i m ≡ m
  places_end h m =
      ap (λ (ts : List PlaceTest). after_all tests (map (place_made cells) ts) m) (tests_end low high codes n within i h)

module _ (tests : List Test) (cells codes : List ℕ) (n : ℕ) (within : n ≤ length codes) (i : ℕ) where
  -- The pairs of a place of variable v with the notes from one on.
  module _ (p v : ℕ) where
    abbrev pub with_from : ℕ → Masks → Masks
    with_from j m = after_pairs tests cells (codes_with p v (drop j (notes_in codes n))) m

    -- A place of v makes a pair,
    pub with_yes
        : i < n → names_variable v (code_record (get_or codes i 0)) ≡ true → (m : Masks)
        → with_from (i + 1) (with_made tests m (pair_made cells (pair_code p (code_place (get_or codes i 0))))) ≡ with_from i m
    with_yes h e m = sym (ap (λ (cs : List ℕ). after_pairs tests cells cs m) (codes_turn codes n within i p v true h e))

    -- and any other note none.
    pub with_no : i < n → names_variable v (code_record (get_or codes i 0)) ≡ false → (m : Masks) → with_from (i + 1) m ≡ with_from i m
    with_no h e m = sym (ap (λ (cs : List ℕ). after_pairs tests cells cs m) (codes_turn codes n within i p v false h e))

    pub with_end : n ≤ i → (m : Masks) → with_from i m ≡ m
    with_end h m = ap (λ (cs : List ℕ). after_pairs tests cells cs m) (codes_end codes n within i p v h)

  -- All pairs of the notes from one on.
  abbrev pub pairs_from : ℕ → Masks → Masks
  pairs_from j m = after_pairs tests cells (notes_codes (drop j (notes_in codes n))) m

  -- A variable makes pairs with its later places,
  pub pairs_named
      : (v : ℕ) → i < n → name_of (code_record (get_or codes i 0)) ≡ Some v → (m : Masks)
      → pairs_from (i + 1) (with_from (code_place (get_or codes i 0)) v (i + 1) m) ≡ pairs_from i m
  pairs_named v h e m =
      let own = codes_with (code_place (get_or codes i 0)) v (drop (i + 1) (notes_in codes n)) in
      let rest = notes_codes (drop (i + 1) (notes_in codes n)) in
      sym
      (ap (λ (cs : List ℕ). after_pairs tests cells cs m) (all_named codes n within i v h e)
      ∙ ap (λ (xs : List Made). after_all tests xs m) (map-append (pair_made cells) own rest)
      ∙ after_append tests (map (pair_made cells) own) (map (pair_made cells) rest) m)

  -- and any other record none.
  pub pairs_nameless : i < n → name_of (code_record (get_or codes i 0)) ≡ None → (m : Masks) → pairs_from (i + 1) m ≡ pairs_from i m
  pairs_nameless h e m = sym (ap (λ (cs : List ℕ). after_pairs tests cells cs m) (all_nameless codes n within i h e))

  pub pairs_end : n ≤ i → (m : Masks) → pairs_from i m ≡ m
  pairs_end h m = ap (λ (cs : List ℕ). after_pairs tests cells cs m) (all_end codes n within i h)
