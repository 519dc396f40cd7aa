use Rattle.std.proofs.Common.{◌≡◌, ℕ, ◌*◌, subst, arith}
use Rattle.rmt_filling.specs.Listing.{IsTcamListed, values_of, masks_of}
use Rattle.rmt_filling.proofs.ListedLaws.{tcam-all}
use Rattle.rmt_filling.proofs.RowsLaws.{tcam-off, tcam-past}
use Rattle.rmt_filling.proofs.listing.tcam_rows.Goals as goal

pub returns : goal.returns
returns c =
    let rows = c.args.rows.now in
    let all : 2048 * c.loop-block.block ≡ 32768 = omega arith in
    tcam-all (values_of rows) (masks_of rows) c.loop-block.told
    (subst (λ (n : ℕ). IsTcamListed (values_of rows) (masks_of rows) n c.loop-block.told) all c.loop-block.invariant) (tcam-off rows) (tcam-past rows)
