use Rattle.rmt_config.specs.declared.config.Config.{Config}
use Rattle.rmt_switch.specs.Clocked.{Runs}
use Rattle.rmt_switch.specs.Running.{Goes}
use Rattle.rmt_switch.specs.Switch.{switch_of}
use Rattle.rmt_switch.proofs.running.run_all.Given as goal

-- the cycles so far
abbrev pub invariant-loop-cycle : goal.invariant-loop-cycle
invariant-loop-cycle l = (c : Config) → Runs c → Goes (switch_of c l.groups l.every) l.file l.capture 0 l.fn.running → Goes (switch_of c l.groups l.every) l.file l.capture l.cycle l.running
