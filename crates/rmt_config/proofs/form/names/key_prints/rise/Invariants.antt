use Rattle.std.proofs.Common.{◌≡◌, drop}
use Rattle.rmt_config.specs.Order.{rises_from}
use Rattle.rmt_config.proofs.form.names.key_prints.rise.Given as goal

abbrev pub invariant-loop-print : goal.invariant-loop-print
invariant-loop-print l = rises_from l.least (drop l.print-index l.prints) ≡ rises_from 0 l.prints
