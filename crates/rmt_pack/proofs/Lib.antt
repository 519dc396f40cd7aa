pub mod BesideLaws
pub mod BlockLaws
pub mod CellLaws
pub mod ContentLaws
pub mod EntryLaws
pub mod Examples
pub mod FindLaws
mod FormatExamples
pub mod FormatLaws
pub mod NeedLaws
pub mod PartLaws
pub mod PartOrderLaws
pub mod PlacedLaws
pub mod RankLaws
pub mod RecordLaws
pub mod RoomLaws
pub mod RoomOrderLaws
pub mod RowLaws
pub mod RunLaws
pub mod SameRiseLaws
pub mod ShapeLaws
pub mod SortedLaws
pub mod SpelledFieldLaws
mod TcamExamples
pub mod TcamLaws
