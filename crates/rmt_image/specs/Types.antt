-- The types of a configuration, passed on by one name.
pub use Rattle.rmt_config.specs.declared.config.Config.{Config}
pub use Rattle.rmt_config.specs.declared.config.OutHeader.{OutHeader}
pub use Rattle.rmt_config.specs.declared.config.ParserConfig.{ParserConfig}
pub use Rattle.rmt_config.specs.declared.config.TailOf.{TailOf}
pub use Rattle.rmt_config.specs.declared.config.Stage.{Stage}
