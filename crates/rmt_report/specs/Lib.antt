pub mod NamedWords
pub mod WordCounts
pub mod StageUse
pub mod Report
pub mod Fits
pub mod Marked
