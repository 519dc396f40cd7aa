use Rattle.std.proofs.Common.{◌≡◌, drop}
use Rattle.rmt_vliw.specs.Known.{known}
use Rattle.rmt_vliw.proofs.value.known.Given as goal

abbrev pub invariant-loop-value : goal.invariant-loop-value
invariant-loop-value l = known (drop l.value-index l.values) l.field ≡ known l.values l.field
