-- The definitions that the contracts of `wholelog` cite, and the statements proved of them. A reader of 02 needs Rows, Share and
-- Refusals; Statements says that what is computed is what they say, and what else is proved.
pub mod Rows
pub mod Share
pub mod Refusals
pub mod Computed
pub mod Statements
-- of the code alone
pub mod Passed
pub mod Left
pub mod Sums
