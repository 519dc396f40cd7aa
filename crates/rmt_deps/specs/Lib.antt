pub mod Edges
pub mod Levels
pub mod NumberSets
pub mod Facts
pub mod Ends
