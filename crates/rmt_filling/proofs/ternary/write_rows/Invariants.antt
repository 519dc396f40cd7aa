use Rattle.std.proofs.Common.{◌≡◌, ℕ, take}
use Rattle.std.specs.Prelude.{Contains}
use Rattle.rmt_pack.specs.Rows.{blocks_of}
use Rattle.rmt_filling.specs.Holding.{TernarySo}
use Rattle.rmt_filling.specs.Listing.{masks_of, values_of}
use Rattle.rmt_filling.proofs.ternary.write_rows.Given as goal

-- the entries so far
abbrev pub invariant-loop-stand : goal.invariant-loop-stand
invariant-loop-stand l = record {
  holds : TernarySo l.part.program.now l.part.table.now l.part.entries.now l.part.first (record { sram = blocks_of l.sram; values = values_of l.tcam; masks = masks_of l.tcam }) l.shape l.blocks (take l.stand-index l.part.stands.now);
  others : (b r : ℕ) → (Contains l.shape.records b → ⊥) → blocks_of l.sram b r ≡ blocks_of l.fn.sram b r;
  other_values : (b r : ℕ) → (Contains l.blocks b → ⊥) → values_of l.tcam b r ≡ values_of l.fn.tcam b r;
  other_masks : (b r : ℕ) → (Contains l.blocks b → ⊥) → masks_of l.tcam b r ≡ masks_of l.fn.tcam b r;
}
