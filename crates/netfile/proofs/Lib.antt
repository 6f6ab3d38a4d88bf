-- The laws of the definitions in specs/, by concept.
pub mod RowLaws
pub mod PutRowLaws
pub mod FileLaws
pub mod TextLaws
pub mod NetTextLaws
pub mod RowTextLaws
pub mod LineReadLaws
pub mod ListedLaws
pub mod ReadableLaws
pub mod AcceptedLaws
pub mod Theorems
pub mod Examples
