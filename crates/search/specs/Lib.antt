-- The definitions that the contracts of `search` cite, and the statements proved of them. A reader of 01 needs all but the last
-- file; Statements has what is proved.
pub mod Search
pub mod Choice
pub mod Trace
pub mod Replay
pub mod Statements
-- of the code alone
pub mod Backtrack
