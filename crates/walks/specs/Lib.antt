-- The definitions that the contracts of `walks` cite, and the statements proved of them. A reader of 01 and of 02, (iv), needs all but the last
-- file; Statements has what is proved.
pub mod Below
pub mod Arcs
pub mod Walk
pub mod Rows
pub mod Check
pub mod Statements
-- of the code alone
pub mod Links
