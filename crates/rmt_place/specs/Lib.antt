pub mod Needs
pub mod Placing
pub mod Starting
pub mod Steps
pub mod StagesSoFar
pub mod Words
