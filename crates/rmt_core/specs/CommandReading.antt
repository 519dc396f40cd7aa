-- A command without where its words lie in memory.
use Rattle.std.specs.Prelude.{Option, Some, None, string_bytes}
use Rattle.rmt_core.specs.declared.commands.Command.{Command as Read}
use Rattle.rmt_core.specs.declared.commands.Command.TheVariants as read
use Rattle.rmt_core.specs.Commands.{Command, Compile, CompileMap, Improve, Sim, Probe, Plain, Report, Sample, Switch, Verify}

abbrev pub seen : Read → Option Command
seen (read.Compile program entries image) = Some (Compile (string_bytes program.now) (string_bytes entries.now) (string_bytes image.now))
seen (read.CompileMap program entries image map) = Some (CompileMap (string_bytes program.now) (string_bytes entries.now) (string_bytes image.now) (string_bytes map.now))
seen (read.Improve program entries image budget) = Some (Improve (string_bytes program.now) (string_bytes entries.now) (string_bytes image.now) budget)
seen (read.Sim image packets) = Some (Sim (string_bytes image.now) (string_bytes packets.now))
seen (read.Probe image packets cycle) = Some (Probe (string_bytes image.now) (string_bytes packets.now) cycle)
seen (read.Plain program entries packets) = Some (Plain (string_bytes program.now) (string_bytes entries.now) (string_bytes packets.now))
seen (read.Report image) = Some (Report (string_bytes image.now))
seen (read.Sample number) = Some (Sample number)
seen (read.Switch names every) =
    Some (Switch (string_bytes names.image.now) (string_bytes names.groups.now) (string_bytes names.capture.now) (string_bytes names.out.now) every)
seen (read.Verify program entries image map) = Some (Verify (string_bytes program.now) (string_bytes entries.now) (string_bytes image.now) (string_bytes map.now))
seen read.Unknown = None
