-- The laws of this crate. Of notes in an array:
pub mod NoteArrays
-- Of reading patterns:
pub mod RecordKinds
pub mod Compounds
pub mod Rows
-- Of the common ranges of variables, and of reading rules:
pub mod CommonRanges
pub mod RangeArrays
pub mod RuleReads
-- That bytes are accepted exactly when they spell a sound sheet:
pub mod PatternReads
pub mod SheetReads
pub mod RangesMeet
pub mod ReadsSound
pub mod SpelledReads
-- Of the places and tests of a rule, off its notes:
pub mod NotePlaces
pub mod NoteTests
