pub mod RowLaws
mod SearchLaws
mod MoveLaws
pub mod LoadLaws
