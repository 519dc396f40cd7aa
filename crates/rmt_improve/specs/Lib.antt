pub mod Orders
pub mod Steps
pub mod Tries
pub mod Words
