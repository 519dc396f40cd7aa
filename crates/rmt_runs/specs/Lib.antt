pub mod Pieces
pub mod ReadsOn
pub mod Printing
pub mod Waiting
pub mod Cuts
pub mod TextLines
