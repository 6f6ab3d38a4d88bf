-- The definitions that the contracts of `net` cite, and the statements proved of them. A reader of 01 needs all but the last
-- file; Statements has what is proved, and Examples the nets of the marked examples.
pub mod Limits
pub mod Refusals
pub mod Sentences
pub mod Chains
pub mod Lists
pub mod Sides
pub mod Orderly
pub mod Common
pub mod Traces
pub mod Fresh
pub mod Put
pub mod Contained
pub mod Valid
pub mod Statements
pub mod Examples
-- of the code alone
pub mod Inner
