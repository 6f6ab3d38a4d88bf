-- The laws of the definitions in specs/, by concept.
pub mod BelowLaws
pub mod AlongLaws
pub mod RowLaws
pub mod ReachLaws
pub mod SiftLaws
pub mod LinkLaws
pub mod ArcLaws
pub mod WalkLaws
pub mod NoneInLaws
pub mod CheckLaws
pub mod GrowLaws
pub mod UncountedLaws
pub mod Theorems
pub mod Examples
