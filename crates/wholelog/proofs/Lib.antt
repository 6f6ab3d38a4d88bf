-- The laws of the definitions in specs/, by concept.
pub mod RowsLaws
pub mod LeftLaws
pub mod SumLaws
pub mod ShareLaws
pub mod AnsweredLaws
pub mod RefusalLaws
pub mod Theorems
pub mod Examples
