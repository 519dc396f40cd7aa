-- The types of a program and of a configuration, passed on by one name.
pub use Rattle.rmt_vliw.specs.Types.{Program, Field, Action, Vliw}
pub use Rattle.rmt_ast.specs.declared.program.Test.{Test}
pub use Rattle.rmt_ast.specs.declared.program.Table.{Table}
pub use Rattle.rmt_ast.specs.declared.program.Kind.{Kind}
pub use Rattle.rmt_ast.specs.declared.program.Node.{Node}
pub use Rattle.rmt_ast.specs.declared.program.What.{What}
pub use Rattle.rmt_config.specs.declared.config.SramRow.{SramRow}
pub use Rattle.rmt_config.specs.declared.config.TcamRow.{TcamRow}
pub use Rattle.rmt_config.specs.declared.config.CellNumber.{CellNumber}
pub use Rattle.rmt_config.specs.declared.config.Memory.{Memory}
