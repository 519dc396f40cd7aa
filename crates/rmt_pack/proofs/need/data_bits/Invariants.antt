use Rattle.std.proofs.Common.{◌≡◌, take, map, max}
use Rattle.std.specs.Prelude.{fold}
use Rattle.rmt_pack.specs.Placements.{param_bits}
use Rattle.rmt_pack.proofs.need.data_bits.Given as goal

abbrev pub invariant-loop-action : goal.invariant-loop-action
invariant-loop-action l = l.most ≡ fold max 0 (map (param_bits l.program) (take l.action-index l.actions))
