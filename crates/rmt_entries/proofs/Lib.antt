mod Examples
pub mod GatherLaws
mod KeySetExamples
pub mod KeySetLaws
pub mod LawKeys
pub mod LawLines
pub mod LawLists
pub mod NamedLaws
pub mod ProgramLaws
pub mod ReadingLaws
pub mod TextLaws
pub mod WordLaws
