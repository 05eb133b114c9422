-- The tests of the notes in an array, note by note.
use Prim.Native.Nat.{ℕ, ◌+◌, ◌≤◌, ◌<◌}
use mathlib.Core.Path.{◌≡◌, refl, sym, ap, ◌∙◌, subst}
use mathlib.Core.Bool.{Bool, true, false, cond}
use mathlib.Core.List.{List, ◌∷◌}
use lib.Dec.{T, eqb}
use lib.ListN.{length, get_or, drop}
use Rattle.terms.specs.RuleTests.{Occurrence, PairTest, both, pairs_with, pairs_of}
use Rattle.terms.specs.Outcome.{Outcome, holds, ◌and◌, together}
use Rattle.patterns.specs.declared.PatternRecord.{PatternRecord}
use Rattle.patterns.specs.declared.PatternRecord.TheVariants.{Anything, Symbol, Range, Compound, Variable, Ranged, Series, Gauged}
use Rattle.patterns.specs.views.Note.{Note, note}
use Rattle.patterns.specs.views.NoteCode.{note_of, code_place, code_record}
use Rattle.sheet.specs.views.NoteArray.{notes_in}
use Rattle.std.specs.Prelude.{Option, Some, None}
use Rattle.pairs.specs.views.NoteVariables.{name_of, names_variable, occurrence, notes_variables}
use Rattle.pairs.proofs.NoteRows.{notes_next, notes_end}
use Rattle.plain.proofs.Gathering.{together_append}

-- The list, with a pair in front where b is true.
abbrev pair_if : Bool → PairTest → List PairTest → List PairTest
pair_if true x l = x ∷ l
pair_if false x l = l

named
    : (p v n u : ℕ) (os : List Occurrence) (b : Bool) → eqb v u ≡ b
    → pairs_with p v (record { place = n; name = u } ∷ os) ≡ pair_if b (both p n) (pairs_with p v os)
named p v n u os true e =
    ap (λ (c : Bool). cond c (both p n ∷ pairs_with p v os) (pairs_with p v os)) e
named p v n u os false e =
    ap (λ (c : Bool). cond c (both p n ∷ pairs_with p v os) (pairs_with p v os)) e

-- The pairs with a note more: a variable of that name, or any other record.
named_pairs
    : (p v n : ℕ) (what : PatternRecord) (ns : List Note) (b : Bool) → names_variable v what ≡ b
    → pairs_with p v (notes_variables (note n what ∷ ns)) ≡ pair_if b (both p n) (pairs_with p v (notes_variables ns))
named_pairs p v n Anything ns true e = absurd (subst T (sym e) tt)
named_pairs p v n Anything ns false e = refl
named_pairs p v n (Symbol a) ns true e = absurd (subst T (sym e) tt)
named_pairs p v n (Symbol a) ns false e = refl
named_pairs p v n (Range l h) ns true e = absurd (subst T (sym e) tt)
named_pairs p v n (Range l h) ns false e = refl
named_pairs p v n (Compound a k) ns true e = absurd (subst T (sym e) tt)
named_pairs p v n (Compound a k) ns false e = refl
named_pairs p v n (Variable u) ns b e = named p v n u (notes_variables ns) b e
named_pairs p v n (Ranged u l h) ns b e = named p v n u (notes_variables ns) b e
named_pairs p v n (Series l h) ns true e = absurd (subst T (sym e) tt)
named_pairs p v n (Gauged g l h) ns true e = absurd (subst T (sym e) tt)
named_pairs p v n (Series l h) ns false e = refl
named_pairs p v n (Gauged g l h) ns false e = refl

module _ (codes : List ℕ) (n : ℕ) (within : n ≤ length codes) (i : ℕ) where
  abbrev code : ℕ
  code = get_or codes i 0

  -- The notes from one on.
  abbrev from : ℕ → List Note
  from j = drop j (notes_in codes n)

  -- The place tests: one note's, then those of the notes behind it.
  module _ (f : Note → Outcome) where
    pub note_turn : i < n → together f (from i) ≡ ◌and◌ (f (note_of code)) (together f (from (i + 1)))
    note_turn h = ap (together f) (notes_next codes n within i h)

    pub no_note : n ≤ i → together f (from i) ≡ holds
    no_note h = ap (together f) (notes_end codes n within i h)

  module _ (f : PairTest → Outcome) where
    -- The pairs of a place of variable v with the notes from one on.
    module _ (p v : ℕ) where
      abbrev pairs_from : ℕ → Outcome
      pairs_from j = together f (pairs_with p v (notes_variables (from j)))

      with_turn
          : (b : Bool) → i < n → names_variable v (code_record code) ≡ b
          → pairs_from i ≡ together f (pair_if b (both p (code_place code)) (pairs_with p v (notes_variables (from (i + 1)))))
      with_turn b h e =
          ap (λ (ns : List Note). together f (pairs_with p v (notes_variables ns))) (notes_next codes n within i h)
          ∙ ap (together f) (named_pairs p v (code_place code) (code_record code) (from (i + 1)) b e)

      -- A place of v makes a pair,
      pub named_turn
          : i < n → names_variable v (code_record code) ≡ true → pairs_from i ≡ ◌and◌ (f (both p (code_place code))) (pairs_from (i + 1))
      named_turn h e = with_turn true h e

      -- and any other note none.
      pub other_turn : i < n → names_variable v (code_record code) ≡ false → pairs_from i ≡ pairs_from (i + 1)
      other_turn h e = with_turn false h e

      pub no_pair : n ≤ i → pairs_from i ≡ holds
      no_pair h =
          ap (λ (ns : List Note). together f (pairs_with p v (notes_variables ns))) (notes_end codes n within i h)

    -- All pairs of the notes from one on.
    abbrev all_from : ℕ → Outcome
    all_from j = together f (pairs_of (notes_variables (from j)))

    all_turn
        : (name : Option ℕ) → i < n → name_of (code_record code) ≡ name
        → all_from i ≡ together f (pairs_of (occurrence (code_place code) name (notes_variables (from (i + 1)))))
    all_turn name h e =
        ap (λ (ns : List Note). together f (pairs_of (notes_variables ns))) (notes_next codes n within i h)
        ∙ ap (λ (x : Option ℕ). together f (pairs_of (occurrence (code_place code) x (notes_variables (from (i + 1)))))) e

    -- A variable makes pairs with its later places,
    pub variable_turn
        : (v : ℕ) → i < n → name_of (code_record code) ≡ Some v
        → all_from i ≡ ◌and◌ (pairs_from (code_place code) v (i + 1)) (all_from (i + 1))
    variable_turn v h e =
        let os = notes_variables (from (i + 1)) in
        all_turn (Some v) h e ∙ together_append f (pairs_with (code_place code) v os) (pairs_of os)

    -- and any other record none.
    pub nameless_turn : i < n → name_of (code_record code) ≡ None → all_from i ≡ all_from (i + 1)
    nameless_turn h e = all_turn None h e

    pub no_pairs : n ≤ i → all_from i ≡ holds
    no_pairs h = ap (λ (ns : List Note). together f (pairs_of (notes_variables ns))) (notes_end codes n within i h)
