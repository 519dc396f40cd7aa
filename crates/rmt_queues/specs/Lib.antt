pub mod Calls
pub mod Copies
pub mod Laws
pub mod Lists
pub mod Rings
pub mod Stands
pub mod Stored
