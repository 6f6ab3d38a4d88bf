-- The definitions that the contracts of `report` cite, and the statements proved of them. A reader of 01 needs RowLines and Report, and
-- of 02 also ShareLines; Statements has what is proved.
pub mod RowLines
pub mod ShareLines
pub mod Report
pub mod Statements
-- of the code alone
pub mod Pieces
