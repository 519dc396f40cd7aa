-- The types of a program and of a configuration, passed on by one name.
pub use Rattle.rmt_ast.specs.declared.program.Program.{Program}
pub use Rattle.rmt_ast.specs.declared.program.Field.{Field}
pub use Rattle.rmt_ast.specs.declared.program.Action.{Action}
pub use Rattle.rmt_ast.specs.declared.program.Assign.{Assign}
pub use Rattle.rmt_ast.specs.declared.program.Expr.{Expr}
pub use Rattle.rmt_ast.specs.declared.program.Leaf.{Leaf}
pub use Rattle.rmt_ast.specs.declared.program.Op.{Op}
pub use Rattle.rmt_config.specs.declared.config.Vliw.{Vliw}
pub use Rattle.rmt_config.specs.declared.config.Operation.{Operation}
pub use Rattle.rmt_config.specs.declared.config.OpKind.{OpKind}
pub use Rattle.rmt_config.specs.declared.config.Source.{Source}
