pub mod Types
pub mod Folding
pub mod Known
pub mod Operations
pub mod Effects
pub mod Coded
