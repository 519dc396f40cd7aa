use Rattle.std.proofs.Common.{◌*◌}
use Rattle.rmt_pack.specs.Rows.{blocks_of}
use Rattle.rmt_filling.specs.Listing.{IsSramListed}
use Rattle.rmt_filling.proofs.listing.sram_rows.Given as goal

-- the rows of the blocks so far
abbrev pub invariant-loop-block : goal.invariant-loop-block
invariant-loop-block l = IsSramListed (blocks_of l.rows) (1024 * l.block) l.told
