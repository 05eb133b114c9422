-- The variables of a rule, and its pairs, read off its notes.
use Rattle.std.specs.Prelude.{ℕ, ◌<◌, Bool, false, List, [], ◌∷◌, map, eqb, Option, Some, None}
use Rattle.terms.specs.RuleTests.{Occurrence, PairTest, pairs_of, pairs_with}
use Rattle.patterns.specs.declared.PatternRecord.{PatternRecord}
use Rattle.patterns.specs.declared.PatternRecord.TheVariants.{Anything, Symbol, Range, Compound, Variable, Ranged, Series, Gauged}
use Rattle.patterns.specs.views.Note.{Note}
use Rattle.pairs.specs.views.KeptPairs.{pair_code}

-- The variable of a record.
abbrev pub name_of : PatternRecord → Option ℕ
name_of Anything = None
name_of (Symbol a) = None
name_of (Range l h) = None
name_of (Compound a n) = None
name_of (Variable v) = Some v
name_of (Ranged v l h) = Some v
name_of (Series l h) = None
name_of (Gauged g l h) = None

abbrev pub names_variable : ℕ → PatternRecord → Bool
names_variable v Anything = false
names_variable v (Symbol a) = false
names_variable v (Range l h) = false
names_variable v (Compound a n) = false
names_variable v (Variable u) = eqb v u
names_variable v (Ranged u l h) = eqb v u
names_variable v (Series l h) = false
names_variable v (Gauged g l h) = false

-- The variables of a rule with their places.
abbrev pub occurrence : ℕ → Option ℕ → List Occurrence → List Occurrence
occurrence n None os = os
occurrence n (Some v) os = record { place = n; name = v } ∷ os

abbrev pub notes_variables : List Note → List Occurrence
notes_variables [] = []
notes_variables (n ∷ ns) = occurrence n.place (name_of n.what) (notes_variables ns)

-- The numbers of pairs.
abbrev pub pair_codes : List PairTest → List ℕ
pair_codes = map (λ (x : PairTest). pair_code x.first x.second)

-- The pairs of a place of variable v with the places of v in a list of notes, and all pairs of a list of notes.
abbrev pub codes_with : ℕ → ℕ → List Note → List ℕ
codes_with p v notes = pair_codes (pairs_with p v (notes_variables notes))

abbrev pub notes_codes : List Note → List ℕ
notes_codes notes = pair_codes (pairs_of (notes_variables notes))

-- A note's place is one of the 680.
abbrev pub Placed : Note → Type 0
Placed n = n.place < 680
