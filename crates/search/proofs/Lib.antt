-- The laws of the definitions in specs/, by concept.
pub mod TraceLaws
pub mod ResultLaws
pub mod SearchLaws
pub mod ChoiceLaws
pub mod Turns
pub mod ReplayLaws
pub mod RefusalLaws
pub mod ValidLaws
pub mod UncountedLaws
pub mod Theorems
pub mod Examples
