-- The place test, by the kind of the record: a variable's is that of its range.
use mathlib.Core.Path.{◌≡◌, refl, sym, ap, ◌∙◌, subst}
use mathlib.Core.List.{List, [], ◌∷◌}
use mathlib.Core.Logic.{⊎_elim}
use Prim.Native.Nat.{ℕ, ◌<◌}
use native.Mathlib.Omega.{arith}
use types.Run.{OneOf}
use borrow.Enum.Refused.{opened}
use denote.Enum.Declared.{tag_of}
use Rattle.patterns.specs.declared.PatternRecord.{PatternRecord}
use Rattle.patterns.specs.declared.PatternRecord.TheVariants.{Anything, Symbol, Range, Compound, Variable, Ranged, Series, Gauged}
use Rattle.patterns.specs.views.NoteCode.{Fitting}
use Rattle.patterns.specs.contracts.PatternRecord.{the_type}
use Rattle.plain.specs.views.NotesOutcome.{fixed_outcome, record_outcome}
use Rattle.plain.proofs.rule.record_outcome.Goals as goal

-- A variable's tag is none of the others.
variable_tag : (k : ℕ) → 3 < k → k < 6 → OneOf (0 ∷ 1 ∷ 2 ∷ 3 ∷ 6 ∷ 7 ∷ []) k → ⊥
variable_tag k h l o =
    ⊎_elim (λ e. omega arith)
    (⊎_elim (λ e. omega arith)
    (⊎_elim (λ e. omega arith) (⊎_elim (λ e. omega arith) (⊎_elim (λ e. omega arith) (λ e. omega arith))))) o

-- Any other record has its own test.
fixed_record
    : (cells low high : List ℕ) (p : ℕ) (r : PatternRecord) → OneOf (0 ∷ 1 ∷ 2 ∷ 3 ∷ 6 ∷ 7 ∷ []) (tag_of the_type r)
    → fixed_outcome cells p r ≡ record_outcome cells low high p r
fixed_record cells low high p Anything o = refl
fixed_record cells low high p (Symbol a) o = refl
fixed_record cells low high p (Range l h) o = refl
fixed_record cells low high p (Compound a n) o = refl
fixed_record cells low high p (Variable v) o = absurd (variable_tag 4 (omega arith) (omega arith) o)
fixed_record cells low high p (Ranged v l h) o = absurd (variable_tag 5 (omega arith) (omega arith) o)
fixed_record cells low high p (Series l h) o = refl
fixed_record cells low high p (Gauged g l h) o = refl

pub bounds-ranges-u : goal.bounds-ranges-u
bounds-ranges-u c = subst Fitting c.in-Variable.is c.requires.1

pub bounds-ranges-u-in-Variable : goal.bounds-ranges-u-in-Variable
bounds-ranges-u-in-Variable c =
    subst Fitting c.in-Variable.is c.requires.1

pub bounds-ranges-u-in-Ranged : goal.bounds-ranges-u-in-Ranged
bounds-ranges-u-in-Ranged c = (subst Fitting c.in-Ranged.is c.requires.1).0

pub bounds-ranges-u-in-Ranged-2 : goal.bounds-ranges-u-in-Ranged-2
bounds-ranges-u-in-Ranged-2 c =
    (subst Fitting c.in-Ranged.is c.requires.1).0

pub returns-in-Variable : goal.returns-in-Variable
returns-in-Variable c =
    let a = c.args in
    c.range_outcome.ensures
    ∙ ap (record_outcome a.cells.now a.ranges.low a.ranges.high a.place)
    (sym c.in-Variable.is)

pub returns-in-Ranged : goal.returns-in-Ranged
returns-in-Ranged c =
    let a = c.args in
    c.range_outcome-in-Ranged.ensures
    ∙ ap (record_outcome a.cells.now a.ranges.low a.ranges.high a.place)
    (sym c.in-Ranged.is)

pub returns-in_default : goal.returns-in_default
returns-in_default c =
    let a = c.args in
    c.fixed_outcome.ensures
    ∙ fixed_record a.cells.now a.ranges.low a.ranges.high a.place a.what (opened c.in_default.in_default-own.keys3)
