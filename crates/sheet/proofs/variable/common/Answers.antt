-- Question 9, by the ends of the common ranges.
use mathlib.Core.Path.{◌≡◌, refl, sym, ap, ◌∙◌}
use mathlib.Core.Bool.{true}
use mathlib.Core.List.{[]}
use Rattle.basics.specs.Lists.{all_below}
use Rattle.sheet.specs.views.NoteRanges.{for_variables, ends_meet, notes_meet}
use Rattle.sheet.proofs.NoteArrays.{notes_none}
use Rattle.sheet.proofs.variable.common.Goals as goal

-- Where there is no note, no variable has a range.
none_meet : notes_meet [] ≡ true
unfolding ends_meet for_variables all_below
none_meet = refl

pub returns-then-n-eq0 : goal.returns-then-n-eq0
returns-then-n-eq0 c =
    rw c.if-n-eq0.true (sym (ap notes_meet (notes_none c.args.notes.now) ∙ none_meet))
