-- What a rule's notes gather is what the rule tests.
use Prim.Native.Nat.{ℕ, ◌<◌}
use mathlib.Core.Path.{◌≡◌, refl, sym, ap, ◌∙◌}
use mathlib.Core.Bool.{Bool, true, false, ◌&&◌, cond}
use mathlib.Core.List.{List, [], ◌∷◌, map}
use mathlib.Core.Option.{Option, some, none}
use native.Mathlib.Omega.{arith}
use lib.Dec.{ltb, eqb}
use lib.ListN.{get_or, take}
use borrow.Author.Tests.{lt-ltb}
use Rattle.basics.specs.Lists.{All}
use Rattle.terms.specs.Pattern.{Patterns}
use Rattle.terms.specs.RuleTests.{Range, common_part, pairs_of}
use Rattle.terms.specs.Accepted.{AcceptedRule}
use Rattle.patterns.specs.views.Note.{Note}
use Rattle.sheet.specs.views.Noted.{rule_notes}
use Rattle.patterns.specs.views.NoteCode.{Fitting, note_of}
use Rattle.sheet.specs.views.NoteArray.{notes_in}
use Rattle.sheet.specs.views.NoteRanges.{record_range, range_in, high_end, highs_of}
use Rattle.patterns.specs.declared.PatternRecord.{PatternRecord}
use Rattle.patterns.specs.declared.PatternRecord.TheVariants.{Anything, Symbol, Range as RangeOf, Compound, Variable, Ranged, Series, Gauged}
use Rattle.patterns.proofs.NoteCodes.{code_fits}
use Rattle.sheet.proofs.RangeArrays.{variable_at}
use Rattle.basics.proofs.Sorted.{Ascending}
use Rattle.sheet_tests.specs.views.TestedPlaces.{insert_all}
use Rattle.pairs.specs.views.KeptPairs.{keep_all}
use Rattle.pairs.specs.views.NoteVariables.{notes_codes, pair_codes}
use Rattle.sheet_tests.specs.views.NoteTests.{is_tested, tested_places, has_range}
use Rattle.sheet_tests.specs.views.Gathered.{Gathered, gathered, gather, gather_notes}
use Rattle.sheet_tests.specs.views.Gathered.{rule_places, rule_codes, sheet_places, sheet_codes}
use Rattle.sheet_tests.proofs.NotedTests.{is_some, rule_tested, rule_varied}
use Rattle.sheet_tests.proofs.Marking.{names_of, fixed_places, names_ranges, names_variables, names_places}
use Rattle.sheet_tests.proofs.NumberLists.{all_insert_append}
use Rattle.pairs.proofs.KeptLists.{keep_append}
use Rattle.masks.proofs.Listed.{cons_if}

-- The fields of a note fit.
abbrev pub Fits : Note → Type 0
Fits n = Fitting n.what

-- The notes in an array have fields that fit.
pub notes_fit : (codes : List ℕ) (n : ℕ) → All Fits (notes_in codes n)
unfolding notes_in
notes_fit codes n = go (take n codes)
  where
    go : (cs : List ℕ) → All Fits (map note_of cs)
    go [] = tt
    go (c ∷ cs) = (code_fits c, go cs)

-- A common range ends below 65,536.
abbrev Ends : Option Range → Type 0
Ends none = Unit
Ends (some x) = x.high < 0x1_0000

common_ends : (x y : Option Range) → Ends x → Ends y → Ends (common_part x y)
common_ends none y h k = k
common_ends (some x) none h k = h
common_ends (some x) (some y) h k = omega arith

record_ends : (r : PatternRecord) (v : ℕ) → Fitting r → Ends (record_range r v)
record_ends Anything v h = tt
record_ends (Symbol a) v h = tt
record_ends (RangeOf l u) v h = tt
record_ends (Compound a n) v h = tt
record_ends (Variable u) v h = tt
record_ends (Ranged u l t) v h = go (eqb u v)
  where
    go : (b : Bool) → Ends (cond b (some (record { low = l; high = t })) none)
    go true = h.2
    go false = tt
record_ends (Series l u) v h = tt
record_ends (Gauged g l u) v h = tt

range_ends : (notes : List Note) (v : ℕ) → All Fits notes → Ends (range_in notes v)
range_ends [] v h = tt
range_ends (n ∷ notes) v h =
    common_ends (record_range n.what v) (range_in notes v) (record_ends n.what v h.0) (range_ends notes v h.1)

-- A high end below 65,536 is that of a range.
end_some : (x : Option Range) → Ends x → ltb (high_end x) 0x1_0000 ≡ is_some x
end_some none h = refl
end_some (some x) h = lt-ltb x.high 0x1_0000 h

range_known : (notes : List Note) → All Fits notes → (v : ℕ) → v < 16 → has_range (highs_of notes) v ≡ is_some (range_in notes v)
range_known notes h v l =
    ap (λ (b : Bool). b && ltb (get_or (highs_of notes) v 0) 0x1_0000) (lt-ltb v 16 l)
    ∙ ap (λ (x : ℕ). ltb x 0x1_0000) (variable_at (λ (u : ℕ). high_end (range_in notes u)) v l)
    ∙ end_some (range_in notes v) (range_ends notes v h)

record_known
    : (f g : ℕ → Bool) → ((v : ℕ) → v < 16 → f v ≡ g v) → (r : PatternRecord) → Fitting r → is_tested f r ≡ is_tested g r
record_known f g e Anything h = refl
record_known f g e (Symbol a) h = refl
record_known f g e (RangeOf l u) h = refl
record_known f g e (Compound a n) h = refl
record_known f g e (Variable v) h = e v h
record_known f g e (Ranged v l u) h = e v h.0
record_known f g e (Series l u) h = refl
record_known f g e (Gauged n l u) h = refl

places_known
    : (f g : ℕ → Bool) → ((v : ℕ) → v < 16 → f v ≡ g v) → (notes : List Note) → All Fits notes
    → tested_places f notes ≡ tested_places g notes
places_known f g e [] h = refl
places_known f g e (n ∷ notes) h =
    λ i. cons_if (record_known f g e n.what h.0 i) n.place (places_known f g e notes h.1 i)

-- The notes of a rule's variables gather, beside the places marked, what the rule tests.
pub gather_marked
    : {arity : ℕ} (rule : Patterns) (names : List Note) (g : Gathered) → names ≡ names_of (rule_notes rule)
    → AcceptedRule arity rule → All Fits names → Ascending ltb g.places
    → gather_notes names (record { places = insert_all (fixed_places (rule_notes rule)) g.places; pairs = g.pairs })
    ≡ gathered (rule_places rule) (rule_codes rule) g
gather_marked rule names g e accepted fits ascends = λ i. record { places = places i; pairs = keep_all (codes i) g.pairs }
  where
    notes : List Note
    notes = rule_notes rule

    tested : tested_places (has_range (highs_of names)) names ≡ tested_places (λ v. is_some (range_in notes v)) (names_of notes)
    tested =
        places_known (has_range (highs_of names)) (λ v. is_some (range_in names v)) (range_known names fits) names fits
        ∙ (λ i. tested_places (λ v. is_some (range_in (e i) v)) (e i))
        ∙ (λ i. tested_places (λ v. is_some (names_ranges notes i v)) (names_of notes))

    places
        : insert_all (tested_places (has_range (highs_of names)) names) (insert_all (fixed_places notes) g.places)
        ≡ insert_all (rule_places rule) g.places
    places =
        ap (λ (ps : List ℕ). insert_all ps (insert_all (fixed_places notes) g.places)) tested
        ∙ names_places (λ v. is_some (range_in notes v)) notes g.places ascends
        ∙ ap (λ (ps : List ℕ). insert_all ps g.places) (sym (rule_tested accepted))

    codes : notes_codes names ≡ rule_codes rule
    codes =
        ap notes_codes e
        ∙ ap (λ os. pair_codes (pairs_of os)) (names_variables notes ∙ sym (rule_varied accepted))

-- A rule gathered before others is gathered with them.
pub gather_more
    : (rule : Patterns) (rules : List Patterns) (g : Gathered)
    → gather (rule ∷ rules) g ≡ gather rules (gathered (rule_places rule) (rule_codes rule) g)
gather_more rule rules g =
    λ i. record {
      places = all_insert_append (rule_places rule) (sheet_places rules) g.places i;
      pairs = keep_append (rule_codes rule) (sheet_codes rules) g.pairs i;
    }
