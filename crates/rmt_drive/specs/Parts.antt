-- The words of other files that the contracts of a run name, passed on by one name.
pub use Rattle.rmt_bits.specs.Packet.{Packet}
pub use Rattle.rmt_ast.specs.Events.{Event}
pub use Rattle.rmt_chip.specs.declared.chip.Chip.{Chip}
pub use Rattle.rmt_chip.specs.Stands.{Stands, entered_of, oldest_in_flight, spare_of, version_of}
pub use Rattle.rmt_config.specs.declared.config.Config.{Config}
pub use Rattle.rmt_config.specs.ChipRun.{latency_of}
pub use Rattle.rmt_config.specs.Commits.{RunState, waits}
pub use Rattle.rmt_config.specs.Form.{Formed}
pub use Rattle.rmt_config.specs.Limits.{IsWithinLimits}
pub use Rattle.rmt_config.specs.RunInputs.{Idle, Input, Writes}
pub use Rattle.rmt_io.specs.Outside.{SinkState}
pub use Rattle.rmt_memory.specs.Writable.{IsTaken}
pub use Rattle.rmt_drive.specs.declared.running.state.Run.{Run}
pub use Rattle.rmt_drive.specs.declared.watch.Watch.{Watch}
pub use Rattle.rmt_drive.specs.ChipEvents.{commit_cycles, empty_cycles, is_waiting}
pub use Rattle.rmt_drive.specs.EventText.{EventReading}
pub use Rattle.rmt_drive.specs.ChipCycles.{Goes}
pub use Rattle.rmt_drive.specs.Telling.{Prints}
