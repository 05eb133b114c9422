-- The common ranges in the notes passed so far, note by note.
use Rattle.std.proofs.Common.{◌≡◌}
use Rattle.sheet.specs.views.NoteArray.{notes_in}
use Rattle.sheet.specs.views.NoteRanges.{lows_of, highs_of}
use Rattle.sheet.proofs.variable.ranges.Given as goal

abbrev pub invariant-loop-code : goal.invariant-loop-code
invariant-loop-code l =
    (l.low ≡ lows_of (notes_in l.notes l.code-index)) × (l.high ≡ highs_of (notes_in l.notes l.code-index))
