pub mod KeyLaws
pub mod RankLaws
pub mod PartLaws
pub mod ViewLaws
pub mod CellLaws
pub mod LookUpLaws
pub mod TheLaw
pub mod NodeLaws
pub mod StageLaws
pub mod RunLaws
pub mod OutcomeLaws
pub mod RunningLaws
pub mod FieldLaws
pub mod EdgeLaws
pub mod CarriedLaws
pub mod LaneLaws
pub mod WalkedLaws
pub mod OrderLaws
pub mod DoneLaws
pub mod NumberLaws
pub mod HitLaws
pub mod CountLaws
pub mod RisingLaws
pub mod CellNumberLaws
pub mod ListLaws
pub mod ReadLaws
pub mod SeenLaws
pub mod WrittenLaws
pub mod WordLaws
pub mod BeginLaws
pub mod EndLaws
pub mod PacketLaws
pub mod RefinedLaws
pub mod VisibleBitLaws
mod UnseenLaws
mod SameCellLaws
mod OneStateLaws
pub mod EntryLaws
pub mod StandLaws
mod KeptLaws
mod LeftLaws
pub mod FilledLaws
mod StartLaws
pub mod NamedLaws
mod InputLaws
mod MetLaws
mod HitNumberLaws
mod RunNumberLaws
mod EventRunLaws
pub mod ShortLaws
mod RunStateLaws
pub mod SpelledRankLaws
pub mod SpelledEntryLaws
pub mod SpelledLaws
pub mod FitLaws
pub mod RoomOrderLaws
mod RefinedExamples
mod Examples
mod TwoStages
mod ListedLaws
mod PlacesExamples
mod MemoryExamples
mod CellsExamples
mod CodeExamples
mod ParserExamples
mod FormExamples
mod CarriedExamples
mod BrokenExamples
mod SeenByExamples
mod CommitRunExamples
mod TailExamples
mod OutcomeExamples
mod ListExamples
pub mod TableCodeLaws
