use Rattle.std.proofs.Common.{◌≡◌, drop}
use Rattle.rmt_config.specs.Limits.{first_hit, lookups_hit}
use Rattle.rmt_config.proofs.limits.parser.over_in_states.Given as goal

abbrev pub invariant-loop-state : goal.invariant-loop-state
invariant-loop-state l = first_hit lookups_hit (drop l.state-index l.states) ≡ first_hit lookups_hit l.states
