use Rattle.std.proofs.Common.{◌≡◌, drop}
use Rattle.rmt_config.specs.Limits.{first_hit, entry_hit}
use Rattle.rmt_config.proofs.limits.parser.over_in_entries.Given as goal

abbrev pub invariant-loop-entry : goal.invariant-loop-entry
invariant-loop-entry l = first_hit entry_hit (drop l.entry-index l.entries) ≡ first_hit entry_hit l.entries
