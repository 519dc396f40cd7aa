use Rattle.std.proofs.Common.{◌*◌}
use Rattle.rmt_filling.specs.Listing.{IsTcamListed, values_of, masks_of}
use Rattle.rmt_filling.proofs.listing.tcam_rows.Given as goal

-- the rows of the blocks so far
abbrev pub invariant-loop-block : goal.invariant-loop-block
invariant-loop-block l = IsTcamListed (values_of l.rows) (masks_of l.rows) (2048 * l.block) l.told
