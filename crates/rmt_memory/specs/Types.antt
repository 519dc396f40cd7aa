-- The types of a configuration, passed on by one name.
pub use Rattle.rmt_config.specs.declared.config.CellNumber.{CellNumber}
pub use Rattle.rmt_config.specs.declared.config.Config.{Config}
pub use Rattle.rmt_config.specs.declared.config.Memory.{Memory}
pub use Rattle.rmt_config.specs.declared.config.SlotUnit.{SlotUnit}
pub use Rattle.rmt_config.specs.declared.config.SramRow.{SramRow}
pub use Rattle.rmt_config.specs.declared.config.Stage.{Stage}
pub use Rattle.rmt_config.specs.declared.config.TcamRow.{TcamRow}
pub use Rattle.rmt_config.specs.declared.config.Unit.{Unit}
