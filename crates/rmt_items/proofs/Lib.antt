pub mod Appending
mod NumberLaws
pub mod Codec
pub mod Items
mod Units
pub mod Stages
pub mod NameItems
pub mod TailItems
pub mod NamesCounts
pub mod ReadingExamples
pub mod size
