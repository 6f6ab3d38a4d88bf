-- The definitions that the contracts of `netfile` cite, and the statements proved of them. A reader of 01 needs all but the last
-- file; Statements has what is proved.
pub mod Limits
pub mod NetFile
pub mod Refusals
pub mod Statements
-- of the code alone
pub mod Steps
