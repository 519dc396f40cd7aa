pub mod Walks
pub mod Spelling
pub mod StandsLaws
pub mod Fresh
pub mod Examples
pub mod Orders
