-- The laws of the definitions in specs/, by concept.
pub mod ByteLaws
pub mod LineLaws
pub mod FieldLaws
pub mod DigitLaws
pub mod DecimalLaws
pub mod IterLaws
pub mod WriteLaws
pub mod StoreLaws
pub mod SinkLaws
pub mod MemberListLaws
pub mod MemberWriteLaws
pub mod Theorems
pub mod Examples
