use Rattle.std.proofs.Common.{◌+◌, ◌*◌}
use Rattle.rmt_pack.specs.Rows.{blocks_of}
use Rattle.rmt_filling.specs.Listing.{IsSramListed}
use Rattle.rmt_filling.proofs.listing.push_sram.Given as goal

-- the rows so far
abbrev pub invariant-loop-row : goal.invariant-loop-row
invariant-loop-row l = IsSramListed (blocks_of l.rows) (1024 * l.block + l.row) l.told
