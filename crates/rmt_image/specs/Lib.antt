pub mod Types
pub mod Reading
pub mod Size
