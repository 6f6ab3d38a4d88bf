-- The laws of the definitions in specs/, by concept.
pub mod PieceLaws
pub mod TextLaws
pub mod ReportLaws
pub mod Theorems
