-- The types of a program and of a configuration, passed on by one name.
pub use Rattle.rmt_ast.specs.declared.program.Program.{Program}
pub use Rattle.rmt_ast.specs.declared.program.Header.{Header}
pub use Rattle.rmt_ast.specs.declared.program.Tail.{Tail}
pub use Rattle.rmt_ast.specs.declared.program.Case.{Case}
pub use Rattle.rmt_ast.specs.declared.program.Test.{Test}
pub use Rattle.rmt_ast.specs.declared.program.Target.{Target}
pub use Rattle.rmt_config.specs.declared.config.ParserConfig.{ParserConfig}
pub use Rattle.rmt_config.specs.declared.config.ParserState.{ParserState}
pub use Rattle.rmt_config.specs.declared.config.ParserEntry.{ParserEntry}
pub use Rattle.rmt_config.specs.declared.config.Next.{Next}
pub use Rattle.rmt_config.specs.declared.config.Extract.{Extract}
pub use Rattle.rmt_config.specs.declared.config.TailOf.{TailOf}
