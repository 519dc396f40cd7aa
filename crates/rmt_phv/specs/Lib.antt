pub mod Packing
pub mod Sets
pub mod Places
pub mod WordsSoFar
pub mod Writers
