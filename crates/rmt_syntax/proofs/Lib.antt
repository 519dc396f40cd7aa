mod Checks
mod Choosing
mod Cuts
mod Deciding
mod Faults
mod Forests
mod Frames
mod Fronts
pub mod Machine
pub mod MarkLaws
mod Operands
mod Produce
pub mod Sets
mod BeforeLaws
mod Words
