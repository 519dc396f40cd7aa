pub mod Counters
pub mod Grouping
pub mod Marks
pub mod Ranking
pub mod Runnable
pub mod Running
pub mod Stands
pub mod Walking
