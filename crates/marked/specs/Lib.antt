-- What the papers say of their marked examples. A reader of 01 and 02 needs it.
pub mod Marked
