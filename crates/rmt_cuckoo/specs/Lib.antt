pub mod Loading
pub mod Told
pub mod Choices
pub mod Search
