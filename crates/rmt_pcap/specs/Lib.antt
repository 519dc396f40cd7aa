pub mod Captures
pub mod Fault
pub mod InTurn
pub mod RoundTrip
pub mod Steps
pub mod Written
