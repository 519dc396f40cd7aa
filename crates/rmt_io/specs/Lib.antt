pub mod Calls
pub mod Faults
pub mod Files
pub mod Outside
pub mod Machine
pub mod Taken
pub mod Transfer
