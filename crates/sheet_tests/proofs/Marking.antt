-- What is marked and noted of a rule while it is read, and what its variables alone say.
use Prim.Native.Nat.{ℕ, ◌/◌}
use mathlib.Core.Path.{◌≡◌, refl, sym, ap, ◌∙◌}
use mathlib.Core.Bool.{Bool, true, false}
use mathlib.Core.List.{List, [], ◌∷◌, ◌++◌, append-nil, append_assoc}
use native.Mathlib.Omega.{arith}
use lib.Dec.{ltb}
use lib.ListN.{length, length-set}
use Rattle.basics.specs.Lists.{All}
use Rattle.basics.specs.Order.{insert_by}
use Rattle.basics.proofs.Sorted.{Ascending, insert_ascends, number_order}
use Rattle.terms.specs.RuleTests.{common_part}
use Rattle.patterns.specs.declared.PatternRecord.{PatternRecord}
use Rattle.patterns.specs.declared.PatternRecord.TheVariants.{Anything, Symbol, Range, Compound, Variable, Ranged, Series, Gauged}
use Rattle.patterns.specs.views.Note.{Note}
use Rattle.sheet.specs.views.NotesBehind.{held_with}
use Rattle.sheet.specs.views.NoteRanges.{record_range, range_in, low_end, high_end, for_variables, ends_meet, notes_meet}
use Rattle.sheet_tests.specs.views.TestedPlaces.{places_in, insert_all}
use Rattle.pairs.specs.views.NoteVariables.{name_of, occurrence, notes_variables, Placed}
use Rattle.sheet_tests.specs.views.NoteTests.{is_tested, tested_places}
use Rattle.marks.specs.views.Marks.{Marks, with_place, placed, named, mark_of, marked}
use Rattle.marks.proofs.Marking.{beside}
use Rattle.sheet_tests.proofs.NumberLists.{all_insert_late}
use Rattle.sheet_tests.proofs.PlaceSets.{mark_is}
use Rattle.masks.proofs.Listed.{cons_if}

-- The notes of variables, out of all notes.
abbrev with_name : PatternRecord → Note → List Note → List Note
with_name Anything n ns = ns
with_name (Symbol a) n ns = ns
with_name (Range l h) n ns = ns
with_name (Compound a k) n ns = ns
with_name (Variable v) n ns = n ∷ ns
with_name (Ranged v l h) n ns = n ∷ ns
with_name (Series l h) n ns = ns
with_name (Gauged g l h) n ns = ns

abbrev pub names_of : List Note → List Note
names_of [] = []
names_of (n ∷ ns) = with_name n.what n (names_of ns)

-- The places of symbols, series, ranges and compounds are those tested where no variable has a range.
abbrev never : ℕ → Bool
never v = false

abbrev pub fixed_places : List Note → List ℕ
fixed_places ns = tested_places never ns

-- Places put into a set one after another.
abbrev pub with_places : List ℕ → List ℕ → List ℕ
with_places words [] = words
with_places words (p ∷ ps) = with_places (with_place words p) ps

-- Notes marked one after another: the places are put in, the variables noted.
pub marks_all
    : (ns : List Note) (m : Marks)
    → held_with marked m ns ≡ beside (with_places m.words (fixed_places ns)) (m.names ++ names_of ns)
marks_all [] m = ap (beside m.words) (sym (append-nil m.names))
marks_all (n ∷ ns) m = go (marks_all ns) n.what
  where
    go
        : ((x : Marks) → held_with marked x ns ≡ beside (with_places x.words (fixed_places ns)) (x.names ++ names_of ns))
        → (r : PatternRecord)
        → held_with marked (mark_of r m n) ns
        ≡ beside (with_places m.words (cons_if (is_tested never r) n.place (fixed_places ns)))
        (m.names ++ with_name r n (names_of ns))
    go all Anything = all m
    go all (Symbol a) = all (placed m n.place)
    go all (Range l h) = all (placed m n.place)
    go all (Compound a k) = all (placed m n.place)
    go all (Variable v) =
        all (named m n)
        ∙ ap (beside (with_places m.words (fixed_places ns))) (append_assoc m.names (n ∷ []) (names_of ns))
    go all (Ranged v l h) =
        all (named m n)
        ∙ ap (beside (with_places m.words (fixed_places ns))) (append_assoc m.names (n ∷ []) (names_of ns))
    go all (Series l h) = all (placed m n.place)
    go all (Gauged g l h) = all (placed m n.place)

-- The set then has those places and the places before them.
pub fixed_places_lem
    : (ns : List Note) (words : List ℕ) → length words ≡ 11 → All Placed ns
    → places_in (with_places words (fixed_places ns)) ≡ insert_all (fixed_places ns) (places_in words)
fixed_places_lem [] words size h = refl
fixed_places_lem (n ∷ ns) words size h =
    go (is_tested never n.what) (λ w k. fixed_places_lem ns w k h.1)
  where
    go
        : (b : Bool)
        → ((w : List ℕ) → length w ≡ 11
        → places_in (with_places w (fixed_places ns)) ≡ insert_all (fixed_places ns) (places_in w))
        → places_in (with_places words (cons_if b n.place (fixed_places ns)))
        ≡ insert_all (cons_if b n.place (fixed_places ns)) (places_in words)
    go true all =
        all (with_place words n.place) (length-set words (n.place / 64) _ ∙ size)
        ∙ ap (insert_all (fixed_places ns)) (mark_is words n.place _ (omega (arith, h.0)) refl)
    go false all = all words size

-- The notes of variables have the ranges,
names_range : (ns : List Note) (v : ℕ) → range_in (names_of ns) v ≡ range_in ns v
names_range [] v = refl
names_range (n ∷ ns) v = go n.what refl (names_range ns v)
  where
    go
        : (r : PatternRecord) → n.what ≡ r → range_in (names_of ns) v ≡ range_in ns v
        → range_in (with_name r n (names_of ns)) v ≡ common_part (record_range r v) (range_in ns v)
    go Anything e same = same
    go (Symbol a) e same = same
    go (Range l h) e same = same
    go (Compound a k) e same = same
    go (Variable u) e same = λ j. common_part (record_range (e j) v) (same j)
    go (Ranged u l h) e same = λ j. common_part (record_range (e j) v) (same j)
    go (Series l h) e same = same
    go (Gauged g l h) e same = same

pub names_ranges : (ns : List Note) → range_in (names_of ns) ≡ range_in ns
names_ranges ns = λ j v. names_range ns v j

pub names_meet : (ns : List Note) → notes_meet (names_of ns) ≡ notes_meet ns
names_meet ns =
    λ j. ends_meet (for_variables (λ (v : ℕ). low_end (names_range ns v j)))
    (for_variables (λ (v : ℕ). high_end (names_range ns v j)))

-- the variables,
pub names_variables : (ns : List Note) → notes_variables (names_of ns) ≡ notes_variables ns
names_variables [] = refl
names_variables (n ∷ ns) = go n.what refl (names_variables ns)
  where
    go
        : (r : PatternRecord) → n.what ≡ r → notes_variables (names_of ns) ≡ notes_variables ns
        → notes_variables (with_name r n (names_of ns)) ≡ occurrence n.place (name_of r) (notes_variables ns)
    go Anything e same = same
    go (Symbol a) e same = same
    go (Range l h) e same = same
    go (Compound a k) e same = same
    go (Variable u) e same = λ j. occurrence n.place (name_of (e j)) (same j)
    go (Ranged u l h) e same = λ j. occurrence n.place (name_of (e j)) (same j)
    go (Series l h) e same = same
    go (Gauged g l h) e same = same

-- places among the 680,
pub names_placed : (ns : List Note) → All Placed ns → All Placed (names_of ns)
names_placed [] h = tt
names_placed (n ∷ ns) h = go n.what (names_placed ns h.1)
  where
    go : (r : PatternRecord) → All Placed (names_of ns) → All Placed (with_name r n (names_of ns))
    go Anything all = all
    go (Symbol a) all = all
    go (Range l k) all = all
    go (Compound a k) all = all
    go (Variable v) all = (h.0, all)
    go (Ranged v l k) all = (h.0, all)
    go (Series l k) all = all
    go (Gauged g l k) all = all

-- and, put in after the places marked, those of the place tests.
module _ (ranged : ℕ → Bool) where
  abbrev Put : List Note → List ℕ → Type 0
  Put ns l =
      insert_all (tested_places ranged (names_of ns)) (insert_all (fixed_places ns) l) ≡ insert_all (tested_places ranged ns) l

  pub names_places : (ns : List Note) (l : List ℕ) → Ascending ltb l → Put ns l
  names_places [] l a = refl
  names_places (n ∷ ns) l a =
      go n.what refl (names_places ns l a)
      (names_places ns (insert_by ltb n.place l) (insert_ascends number_order n.place l a))
    where
      tried
          : (b : Bool) → Put ns l → Put ns (insert_by ltb n.place l)
          → insert_all (cons_if b n.place (tested_places ranged (names_of ns))) (insert_all (fixed_places ns) l)
          ≡ insert_all (cons_if b n.place (tested_places ranged ns)) l
      tried true same next =
          ap (insert_all (tested_places ranged (names_of ns))) (sym (all_insert_late (fixed_places ns) l n.place a)) ∙ next
      tried false same next = same

      variable
          : {r : PatternRecord} → n.what ≡ r → Put ns l → Put ns (insert_by ltb n.place l)
          → insert_all (tested_places ranged (n ∷ names_of ns)) (insert_all (fixed_places ns) l)
          ≡ insert_all (cons_if (is_tested ranged r) n.place (tested_places ranged ns)) l
      variable e same next =
          tried (is_tested ranged n.what) same next
          ∙ ap (λ (r : PatternRecord). insert_all (cons_if (is_tested ranged r) n.place (tested_places ranged ns)) l) e

      go
          : (r : PatternRecord) → n.what ≡ r → Put ns l → Put ns (insert_by ltb n.place l)
          → insert_all (tested_places ranged (with_name r n (names_of ns)))
          (insert_all (cons_if (is_tested never r) n.place (fixed_places ns)) l)
          ≡ insert_all (cons_if (is_tested ranged r) n.place (tested_places ranged ns)) l
      go Anything e same next = same
      go (Symbol x) e same next = next
      go (Range x y) e same next = next
      go (Compound x k) e same next = next
      go (Variable v) e same next = variable e same next
      go (Ranged v x y) e same next = variable e same next
      go (Series x y) e same next = next
      go (Gauged g x y) e same next = next
