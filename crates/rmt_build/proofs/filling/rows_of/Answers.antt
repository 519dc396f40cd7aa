use Rattle.rmt_pack.specs.Rows.{blocks_of}
use Rattle.rmt_filling.specs.Holding.{Held}
use Rattle.rmt_filling.specs.Listing.{masks_of, values_of}
use Rattle.rmt_build.proofs.filling.rows_of.Goals as goal

pub write_units-requires-clause-units : goal.write_units-requires-clause-units
write_units-requires-clause-units c = c.requires.units

pub write_units-requires-clause-apart : goal.write_units-requires-clause-apart
write_units-requires-clause-apart c = c.requires.apart

pub write_units-requires-clause-few : goal.write_units-requires-clause-few
write_units-requires-clause-few c = c.requires.few

pub returns : goal.returns
returns c =
    let h : Held = record { sram = blocks_of c.write_units.new.sram; values = values_of c.write_units.new.tcam; masks = masks_of c.write_units.new.tcam } in
    (h, c.in_ok-write_units.ensures, c.in_ok-srows.ensures, c.in_ok-trows.ensures)
