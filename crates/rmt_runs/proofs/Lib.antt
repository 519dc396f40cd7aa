pub mod FrontLaws
pub mod LineLaws
pub mod ReaderLaws
mod TextExamples
pub mod WaitingLaws
