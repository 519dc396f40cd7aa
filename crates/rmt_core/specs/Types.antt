-- The types of a program and of a configuration, passed on by one name.
pub use Rattle.rmt_refine.specs.Types.{Program, Field, Header, Tail, Test, Action, Assign, Leaf, Table, Node, Guard, What, Config, OutHeader, ParserConfig, ParserEntry, Next, Stage, SramRow, TcamRow, Unit, GateUnit, UnitGuard, SlotUnit, CellNumber, Memory, Operation, Source}
pub use Rattle.rmt_ptcam.specs.Types.{Case, ParserState, Extract}
pub use Rattle.rmt_vliw.specs.Types.{Vliw}
