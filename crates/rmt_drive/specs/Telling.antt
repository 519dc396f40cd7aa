-- What comes of printing.
use Rattle.std.specs.Prelude.{◌≡◌, ◌≢◌, ◌⊎◌, ℕ, List, [], Result, IfErr, IsErrOf}
use Rattle.rmt_io.specs.Outside.{SinkState, Gained, GainedNone, OnlyPrinted, PrintingFailed}
use Rattle.rmt_drive.specs.declared.status.Status.{Status}
use Rattle.rmt_drive.specs.declared.status.Status.TheVariants.{WriteFault, NoMemory}
use Rattle.rmt_runs.specs.declared.fault.RunFault.{RunFault}
use Rattle.rmt_runs.specs.declared.fault.RunFault.TheVariants as fault
use Rattle.rmt_runs.specs.Printing.{GainedFront}

-- A call that was to print a line with a status did so, or printed a front of it before the sink failed; or there was no memory for it, and nothing was printed.
pub record Tells (before after : SinkState) (line : List ℕ) (wanted status : Status) : Type 0 where
  pub kind : (status ≡ wanted) ⊎ (status ≡ WriteFault) ⊎ (status ≡ NoMemory)
  pub whole : status ≡ wanted → Gained before after line
  pub front : GainedFront before after line
  pub quiet : status ≡ NoMemory → GainedNone before after
  pub failed : status ≡ WriteFault → PrintingFailed before after
  pub some : status ≡ WriteFault → line ≢ []

-- How a call that only prints can end early: for want of memory, or by a fault of the sink, which is counted.
pub record Prints {A : Type 0} (before after : SinkState) (result : Result A RunFault) : Type 0 where
  pub either : IfErr result (λ f. (f ≡ fault.NoMemory) ⊎ (f ≡ fault.Write))
  pub failed : IsErrOf result fault.Write → PrintingFailed before after
  pub only_printed : OnlyPrinted before after
