pub mod Entries
pub mod Holding
pub mod KeyNumbers
pub mod Running
pub mod Settled
pub mod Stands
