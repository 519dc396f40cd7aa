pub mod ExamplesParts
pub mod Examples
pub mod ExamplesLookup
pub mod ExamplesTails
pub mod ExamplesSpelling
pub mod ExamplesNames
pub mod ExamplesPrefix
pub mod ExamplesImages
pub mod ExamplesForm
pub mod ExamplesTables
pub mod ExamplesLimits
pub mod RunLaws
pub mod CountLaws
pub mod CodeLaws
pub mod InstructionLaws
pub mod TableLaws
pub mod NumberLaws
pub mod LimitLemmas
pub mod CountsLemmas
pub mod LimitLaws
pub mod UnitBits
pub mod CellPlaces
pub mod ToldBits
pub mod RiseLaws
pub mod RowTold
pub mod HeldRows
pub mod HeadBits
pub mod CellLayouts
pub mod LayoutLaws
pub mod OrderLaws
pub mod MemoryLaws
pub mod HeadRows
pub mod RowForm
pub mod MemoryHolds
pub mod SlotLaws
pub mod CellLaws
pub mod TcamRowLaws
pub mod ToldTests
pub mod ExamplesCells
pub mod RunCellLaws
pub mod ExamplesRunCells
pub mod RunInputLaws
pub mod ExamplesCommits
pub mod ExamplesCommitRuns
pub mod CommitLaws
pub mod HeldLaws
pub mod NameRuleLaws
pub mod NamePartLaws
mod LoopLaws
mod SpelledLists
mod SpelledOrder
pub mod SpelledRanks
pub mod SpelledParts
mod SpelledRows
mod SpelledTernary
pub mod SpelledBytes
pub mod SpelledCandidates
mod SpelledKeys
pub mod SpelledWays
mod KeyListLaws
mod ExactCellLaws
mod PrintLaws
mod MarkLaws
pub mod HighFirst
mod RepeatLaws
mod SpelledExact
mod SpelledTable
mod PrefixLengths
mod PrefixOrder
mod PrefixSeen
mod PrefixRows
pub mod PrefixRowLaws
