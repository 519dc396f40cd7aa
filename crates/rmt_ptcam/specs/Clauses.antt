-- The words of the clauses of the parsers, passed on by one name.
pub use Rattle.rmt_ast.specs.WellFormed.{IsProgram, bits_of}
pub use Rattle.rmt_config.specs.Agreement.{AgreesWith}
pub use Rattle.rmt_config.specs.ParserForm.{parser_is_formed}
pub use Rattle.rmt_config.specs.declared.config.TailOf.{TailOf}
pub use Rattle.rmt_phv.specs.Places.{KeepsApart}
pub use Rattle.rmt_ptcam.specs.Clustering.{clustered_or}
pub use Rattle.rmt_ptcam.specs.Fitting.{IsParser}
pub use Rattle.rmt_ptcam.specs.Joins.{joins, replayed}
pub use Rattle.rmt_ptcam.specs.Plain.{plain}
pub use Rattle.rmt_ptcam.specs.Steps.{MeetsNoMore}
