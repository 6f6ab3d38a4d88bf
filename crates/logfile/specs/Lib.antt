-- The definitions that the contracts of `logfile` cite, and the statements proved of them. A reader of 01 needs all but the last
-- two files; Statements has what is proved.
pub mod Limits
pub mod LogFile
pub mod Refusals
pub mod Statements
-- going on row after row with a cursor, which 01 doesn't name
pub mod Cursor
-- of the code alone
pub mod Row
