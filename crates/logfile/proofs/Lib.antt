-- The laws of the definitions in specs/, by concept.
pub mod EntryLaws
pub mod CountLaws
pub mod RowLaws
pub mod PrintLaws
pub mod AnswerLaws
pub mod FileLaws
pub mod CursorLaws
pub mod RefusalLaws
pub mod Theorems
pub mod Examples
