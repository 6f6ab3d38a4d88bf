-- The definitions that the contracts of `text` cite, and the statements proved of them. A reader of 01 needs all but the last
-- files; Statements has what is proved.
pub mod Bytes
pub mod Fields
pub mod Lines
pub mod Decimal
pub mod Members
pub mod Statements
-- of the code alone
pub mod Inner
pub mod Reading
pub mod Writing
pub mod Sinks
