mod Lines
pub mod TextLaws
mod Forests
mod ShapeLaws
mod ProgramForest
mod TokenLaws
mod ProgramSource
mod SourceLaws
mod ProgramLaws
mod EntryLineLaws
mod AddressLaws
mod EntryLaws
pub mod MeaningLaws
