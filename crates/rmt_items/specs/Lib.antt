pub mod Types
pub mod CountsFit
pub mod Readers
pub mod ReadingNames
pub mod ReadingTails
pub mod Reading
pub mod Formats
