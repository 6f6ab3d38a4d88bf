-- The laws of the definitions in specs/, by concept.
pub mod DueLaws
pub mod ValidWalkLaws
pub mod CallLaws
pub mod GrownLaws
pub mod TimesLaws
pub mod OrderLaws
pub mod PassLaws
pub mod WithinLaws
pub mod ReplayLaws
pub mod Theorems
