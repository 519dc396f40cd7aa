mod Ends
mod Items
pub mod Reading
