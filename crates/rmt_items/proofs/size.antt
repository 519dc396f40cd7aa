pub mod Lists
pub mod Tails
pub mod Front
mod Units
pub mod Stages
