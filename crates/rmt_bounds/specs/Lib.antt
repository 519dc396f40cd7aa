pub mod Bounds
pub mod Proofs
pub mod Fits
pub mod Used
