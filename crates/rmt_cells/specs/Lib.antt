pub mod Links
pub mod Pieces
pub mod Stands
