-- What each command gives, where nothing fails outside.
use Rattle.rmt_drive.specs.declared.watch.Watch.TheVariants.{Answers, Vectors}
use Rattle.rmt_core.specs.Commands.{Command, Compile, CompileMap, Improve, Sim, Probe, Plain, Report, Sample, Switch, Verify}
use Rattle.rmt_drive.specs.Files.{Files}
use Rattle.rmt_drive.specs.Given.{Given}
use Rattle.rmt_core.specs.Compiling.{GivesCompile, GivesCompileMap, GivesImprove}
use Rattle.rmt_core.specs.Simulating.{GivesRun}
use Rattle.rmt_core.specs.PlainText.{GivesPlain}
use Rattle.rmt_core.specs.Reporting.{GivesReport}
use Rattle.rmt_core.specs.Sampling.{GivesSample}
use Rattle.rmt_core.specs.Switching.{GivesSwitch}
use Rattle.rmt_core.specs.Verifying.{GivesVerify}

abbrev pub Gives : Files → Command → Given → Type 0
Gives files (Compile program entries image) = GivesCompile files program entries image
Gives files (CompileMap program entries image map) = GivesCompileMap files program entries image map
Gives files (Improve program entries image budget) = GivesImprove files program entries image budget
Gives files (Sim image packets) = GivesRun Answers files image packets
Gives files (Probe image packets cycle) = GivesRun (Vectors cycle) files image packets
Gives files (Plain program entries packets) = GivesPlain files program entries packets
Gives files (Report image) = GivesReport files image
Gives files (Sample number) = GivesSample files number
Gives files (Switch image groups capture out every) = GivesSwitch files image groups capture out every
Gives files (Verify program entries image map) = GivesVerify files program entries image map
