-- The definitions that the contracts of `sequences` cite, and the statements proved of them. A reader of 01 needs all but the
-- last file; Statements has what is proved.
pub mod Limits
pub mod Run
pub mod Gain
pub mod Learn
pub mod Follow
pub mod Judge
pub mod Statements
-- of the code alone
pub mod Inner
