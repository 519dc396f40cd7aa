-- The types of a program and of a configuration, passed on by one name.
pub use Rattle.rmt_refine.specs.Types.{Program, Field, Header, Test, Action, Assign, Table, Kind, Node, Guard, What, Config, OutHeader, ParserConfig, ParserEntry, Next, TailOf, Stage, SramRow, TcamRow, Unit, GateUnit, GateTest, UnitGuard, SlotUnit, CellNumber, Memory, Operation}
pub use Rattle.rmt_ptcam.specs.Types.{ParserState, Extract}
pub use Rattle.rmt_vliw.specs.Types.{Vliw}
