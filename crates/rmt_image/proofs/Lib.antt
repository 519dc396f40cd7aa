pub mod Whole
mod ReadingExamples
pub mod size
