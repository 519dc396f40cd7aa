-- The types of a program, passed on by one name.
pub use Rattle.rmt_ast.specs.declared.program.Program.{Program}
pub use Rattle.rmt_ast.specs.declared.program.Field.{Field}
pub use Rattle.rmt_ast.specs.declared.program.Header.{Header}
pub use Rattle.rmt_ast.specs.declared.program.Tail.{Tail}
pub use Rattle.rmt_ast.specs.declared.program.Case.{Case}
pub use Rattle.rmt_ast.specs.declared.program.Test.{Test}
pub use Rattle.rmt_ast.specs.declared.program.Target.{Target}
pub use Rattle.rmt_ast.specs.declared.program.Action.{Action}
pub use Rattle.rmt_ast.specs.declared.program.Assign.{Assign}
pub use Rattle.rmt_ast.specs.declared.program.Expr.{Expr}
pub use Rattle.rmt_ast.specs.declared.program.Leaf.{Leaf}
pub use Rattle.rmt_ast.specs.declared.program.Op.{Op}
pub use Rattle.rmt_ast.specs.declared.program.Table.{Table}
pub use Rattle.rmt_ast.specs.declared.program.Kind.{Kind}
pub use Rattle.rmt_ast.specs.declared.program.Node.{Node}
pub use Rattle.rmt_ast.specs.declared.program.Guard.{Guard}
pub use Rattle.rmt_ast.specs.declared.program.What.{What}
