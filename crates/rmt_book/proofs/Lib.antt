pub mod EntryLaws
mod Examples
pub mod KeptLaws
pub mod ListedLaws
pub mod NamedLaws
pub mod NodeLaws
pub mod OrderedLaws
pub mod RankLaws
pub mod RowOrderLaws
pub mod ShapeLaws
pub mod SliceLoops
pub mod SpotLaws
pub mod ToldEntryLaws
pub mod ToldLaws
pub mod WordLaws
