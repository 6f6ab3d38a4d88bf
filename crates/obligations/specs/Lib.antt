-- The definitions that the contracts of `obligations` cite, and the statements proved of them. A reader of 01 needs all of them;
-- Statements has what is proved, and Examples sequences of the papers.
pub mod Limits
pub mod Tests
pub mod Sets
pub mod Places
pub mod State
pub mod Trace
pub mod Sequence
pub mod Statements
pub mod Examples
