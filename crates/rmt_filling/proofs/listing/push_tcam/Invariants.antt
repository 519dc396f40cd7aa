use Rattle.std.proofs.Common.{◌+◌, ◌*◌}
use Rattle.rmt_filling.specs.Listing.{IsTcamListed, values_of, masks_of}
use Rattle.rmt_filling.proofs.listing.push_tcam.Given as goal

-- the rows so far
abbrev pub invariant-loop-row : goal.invariant-loop-row
invariant-loop-row l = IsTcamListed (values_of l.rows) (masks_of l.rows) (2048 * l.block + l.row) l.told
