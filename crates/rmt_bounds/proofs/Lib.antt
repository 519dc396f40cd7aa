pub mod StageSums
pub mod NodeLaws
pub mod ChainLaws
pub mod FormatBounds
pub mod BestLaws
pub mod UsedLaws
pub mod CheckLaws
pub mod GivenLaws
mod Examples
