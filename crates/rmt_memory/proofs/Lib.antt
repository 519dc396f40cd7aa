pub mod CandidateLaws
mod CellLaws
mod CellWriteLaws
mod ExamplesMemory
mod FormedMemory
mod FormedSlots
mod FoundLaws
mod LaidLaws
mod LayLaws
mod LayoutLaws
mod MarkLaws
pub mod MemoriesLaws
mod PutLaws
mod RangeLaws
mod RunLaws
mod RunWriteLaws
mod SliceLaws
pub mod StageMemoriesLaws
pub mod StageSlots
mod WordLaws
