pub mod CommitLaws
mod Examples
pub mod FilterLaws
pub mod KeyLaws
pub mod KeyNumberLaws
pub mod LeftLaws
pub mod MapLaws
pub mod NewLaws
pub mod ResultLaws
pub mod SettleLaws
pub mod StandLaws
