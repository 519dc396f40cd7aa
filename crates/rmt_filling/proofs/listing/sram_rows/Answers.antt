use Rattle.std.proofs.Common.{◌≡◌, ℕ, ◌*◌, subst, arith}
use Rattle.rmt_pack.specs.Rows.{blocks_of}
use Rattle.rmt_filling.specs.Listing.{IsSramListed}
use Rattle.rmt_filling.proofs.ListedLaws.{sram-all}
use Rattle.rmt_filling.proofs.RowsLaws.{sram-off, sram-past}
use Rattle.rmt_filling.proofs.listing.sram_rows.Goals as goal

pub returns : goal.returns
returns c =
    let rows = c.args.rows.now in
    let all : 1024 * c.loop-block.block ≡ 108544 = omega arith in
    sram-all (blocks_of rows) c.loop-block.told (subst (λ (n : ℕ). IsSramListed (blocks_of rows) n c.loop-block.told) all c.loop-block.invariant) (sram-off rows) (sram-past rows)
