use Rattle.std.proofs.Common.{◌≡◌, ◌+◌}
use Rattle.std.specs.List.{range_with_len}
use Rattle.rmt_filling.proofs.memory.take.Given as goal

-- the blocks so far
abbrev pub invariant-loop-block : goal.invariant-loop-block
invariant-loop-block l = record {
  blocks : l.blocks ≡ range_with_len l.initial.taken l._block;
  taken : l.taken ≡ l.initial.taken + l._block;
}
