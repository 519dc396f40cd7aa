pub mod BestLaws
pub mod BetterLaws
mod Examples
pub mod HeightLaws
pub mod MarkLaws
pub mod OrderLaws
pub mod TryLaws
