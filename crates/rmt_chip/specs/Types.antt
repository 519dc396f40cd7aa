-- The types of a configuration, passed on by one name.
pub use Rattle.rmt_config.specs.declared.config.CellNumber.{CellNumber}
pub use Rattle.rmt_config.specs.declared.config.Config.{Config}
pub use Rattle.rmt_config.specs.declared.config.GateTest.{GateTest}
pub use Rattle.rmt_config.specs.declared.config.Next.{Next}
pub use Rattle.rmt_config.specs.declared.config.Operation.{Operation}
pub use Rattle.rmt_config.specs.declared.config.OutHeader.{OutHeader}
pub use Rattle.rmt_config.specs.declared.config.ParserConfig.{ParserConfig}
pub use Rattle.rmt_config.specs.declared.config.ParserEntry.{ParserEntry}
pub use Rattle.rmt_config.specs.declared.config.ParserState.{ParserState}
pub use Rattle.rmt_config.specs.declared.config.SlotUnit.{SlotUnit}
pub use Rattle.rmt_config.specs.declared.config.Source.{Source}
pub use Rattle.rmt_config.specs.declared.config.Stage.{Stage}
pub use Rattle.rmt_config.specs.declared.config.TailOf.{TailOf}
pub use Rattle.rmt_config.specs.declared.config.Unit.{Unit}
pub use Rattle.rmt_config.specs.declared.config.UnitGuard.{UnitGuard}
pub use Rattle.rmt_config.specs.declared.config.Vliw.{Vliw}
