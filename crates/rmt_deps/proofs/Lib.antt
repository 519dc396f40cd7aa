pub mod Examples
pub mod EdgeLaws
pub mod LevelLaws
pub mod Ends
