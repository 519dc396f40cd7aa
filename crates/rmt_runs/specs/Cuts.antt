-- A run that was cut off.
use Rattle.std.specs.Prelude.{◌≡◌, ◌≢◌, ℕ, List, []}
use Rattle.rmt_io.specs.Outside.{SinkState}
use Rattle.rmt_runs.specs.declared.fault.RunFault.{RunFault}
use Rattle.rmt_runs.specs.declared.fault.RunFault.TheVariants.{Write}
use Rattle.rmt_runs.specs.Printing.{GainedFront}

-- A front of these lines was printed, and a fault of the sink comes only where there are lines.
pub record Cut (lines : List ℕ) (before now : SinkState) (fault : RunFault) : Type 0 where
  pub front : GainedFront before now lines
  pub some : fault ≡ Write → lines ≢ []
