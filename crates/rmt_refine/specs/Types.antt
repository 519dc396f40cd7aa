-- The types of a program and of a configuration, passed on by one name.
pub use Rattle.rmt_vliw.specs.Types.{Program, Field, Action, Assign, Expr, Leaf, Operation, Source}
pub use Rattle.rmt_ast.specs.declared.program.Header.{Header}
pub use Rattle.rmt_ast.specs.declared.program.Tail.{Tail}
pub use Rattle.rmt_ast.specs.declared.program.Test.{Test}
pub use Rattle.rmt_ast.specs.declared.program.Target.{Target}
pub use Rattle.rmt_ast.specs.declared.program.Table.{Table}
pub use Rattle.rmt_ast.specs.declared.program.Kind.{Kind}
pub use Rattle.rmt_ast.specs.declared.program.Node.{Node}
pub use Rattle.rmt_ast.specs.declared.program.Guard.{Guard}
pub use Rattle.rmt_ast.specs.declared.program.What.{What}
pub use Rattle.rmt_config.specs.declared.config.Config.{Config}
pub use Rattle.rmt_config.specs.declared.config.OutHeader.{OutHeader}
pub use Rattle.rmt_config.specs.declared.config.ParserConfig.{ParserConfig}
pub use Rattle.rmt_config.specs.declared.config.ParserEntry.{ParserEntry}
pub use Rattle.rmt_config.specs.declared.config.Next.{Next}
pub use Rattle.rmt_config.specs.declared.config.TailOf.{TailOf}
pub use Rattle.rmt_config.specs.declared.config.Stage.{Stage}
pub use Rattle.rmt_config.specs.declared.config.SramRow.{SramRow}
pub use Rattle.rmt_config.specs.declared.config.TcamRow.{TcamRow}
pub use Rattle.rmt_config.specs.declared.config.Unit.{Unit}
pub use Rattle.rmt_config.specs.declared.config.GateUnit.{GateUnit}
pub use Rattle.rmt_config.specs.declared.config.GateTest.{GateTest}
pub use Rattle.rmt_config.specs.declared.config.UnitGuard.{UnitGuard}
pub use Rattle.rmt_config.specs.declared.config.SlotUnit.{SlotUnit}
pub use Rattle.rmt_config.specs.declared.config.CellNumber.{CellNumber}
pub use Rattle.rmt_config.specs.declared.config.Memory.{Memory}
