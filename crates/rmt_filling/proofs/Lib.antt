pub mod ApartLaws
pub mod CandidateLaws
pub mod EntryLaws
pub mod ExactLaws
mod FoldingLaws
mod GridLaws
mod KeyLaws
pub mod ListLaws
mod ListedLaws
mod NumberLaws
pub mod RoomLaws
mod RowsLaws
mod SortingLaws
mod TernaryLaws
mod WordLaws
