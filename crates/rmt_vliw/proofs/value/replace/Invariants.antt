use Rattle.std.proofs.Common.{◌≡◌, ◌++◌, drop, take, map}
use Rattle.rmt_vliw.specs.Known.{replaced}
use Rattle.rmt_vliw.proofs.value.replace.Given as goal

-- those up to here are replaced, the others are as they were
abbrev pub invariant-loop-value : goal.invariant-loop-value
invariant-loop-value l = l.values ≡ map (replaced l.field l.expr) (take l.value-index l.initial.values) ++ drop l.value-index l.initial.values
