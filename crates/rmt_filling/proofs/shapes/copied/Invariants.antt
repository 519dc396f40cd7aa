use Rattle.std.proofs.Common.{◌≡◌, take}
use Rattle.rmt_filling.proofs.shapes.copied.Given as goal

-- the blocks so far
abbrev pub invariant-loop-block : goal.invariant-loop-block
invariant-loop-block l = l.same ≡ take l.block-index l.blocks
