-- The wait list, up to the wait sentence.
pub mod Suspended
pub mod KeptOpen
pub mod SpanWaits
pub mod SpanWaitsSentence
pub mod WaitSentenceSpans
pub mod WaitSentenceKept
pub mod NothingOpen
