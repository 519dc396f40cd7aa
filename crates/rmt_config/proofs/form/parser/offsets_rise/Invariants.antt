use Rattle.std.proofs.Common.{◌≡◌, drop}
use Rattle.rmt_config.specs.Order.{rises_from}
use Rattle.rmt_config.proofs.form.parser.offsets_rise.Given as goal

abbrev pub invariant-loop-offset : goal.invariant-loop-offset
invariant-loop-offset l = rises_from l.least (drop l.offset-index l.offsets) ≡ rises_from 0 l.offsets
