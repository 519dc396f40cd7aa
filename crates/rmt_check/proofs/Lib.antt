pub mod ReadingLaws
pub mod Finding
pub mod FieldCodes
pub mod FieldLists
pub mod FieldNumbers
pub mod Parents
pub mod texts
pub mod Earliest
pub mod SeenNames
pub mod Bounds
pub mod programs
pub mod MeansLaws
mod Together
mod ExampleText
mod ExamplesMeaning
mod ExamplesReading
mod ExamplesRules
