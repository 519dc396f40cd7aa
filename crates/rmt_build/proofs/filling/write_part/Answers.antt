use Rattle.std.proofs.Common.{◌≡◌, ℕ, refl, subst, sym}
use Rattle.std.specs.Prelude.{Contains}
use Rattle.rmt_build.specs.Types.{Memory}
use Rattle.rmt_config.specs.StageForm.{memory_sram_blocks, memory_tcam_blocks}
use Rattle.rmt_pack.specs.Placements.{data_bits, key_bits}
use Rattle.rmt_pack.specs.Rows.{blocks_of}
use Rattle.rmt_filling.specs.declared.entries.PartEntries.{PartEntries}
use Rattle.rmt_filling.specs.Holding.{Held}
use Rattle.rmt_build.specs.HeldParts.{PartHolds}
use Rattle.rmt_filling.specs.Listing.{masks_of, values_of}
use Rattle.rmt_filling.specs.Rooms.{HasBlocks}
use Rattle.rmt_build.proofs.HoldLaws.{exact-holds, ternary-holds}
use Rattle.rmt_build.proofs.filling.write_part.Goals as goal

pub write_exact_part-requires-clause-zeros : goal.write_exact_part-requires-clause-zeros
write_exact_part-requires-clause-zeros c = subst (λ (m : Memory). (b r : ℕ) → Contains (memory_sram_blocks m) b → blocks_of c.args.sram.now b r ≡ 0) c.in-Exact.is c.requires.zeros

pub write_ternary_part-requires-clause-zeros : goal.write_ternary_part-requires-clause-zeros
write_ternary_part-requires-clause-zeros c = subst (λ (m : Memory). (b r : ℕ) → Contains (memory_sram_blocks m) b → blocks_of c.args.sram.now b r ≡ 0) c.in-Ternary.is c.requires.zeros

pub write_ternary_part-requires-clause-zero_values : goal.write_ternary_part-requires-clause-zero_values
write_ternary_part-requires-clause-zero_values c = subst (λ (m : Memory). (b r : ℕ) → Contains (memory_tcam_blocks m) b → values_of c.args.tcam.now b r ≡ 0) c.in-Ternary.is c.requires.zero_values

pub write_ternary_part-requires-clause-zero_masks : goal.write_ternary_part-requires-clause-zero_masks
write_ternary_part-requires-clause-zero_masks c = subst (λ (m : Memory). (b r : ℕ) → Contains (memory_tcam_blocks m) b → masks_of c.args.tcam.now b r ≡ 0) c.in-Ternary.is c.requires.zero_masks

-- what a part holds with this memory
abbrev Holds : PartEntries → Held → Memory → Type 0
Holds part h m =
    let p = part.program.now in
    let t = part.table.now in
    PartHolds p t part.entries.now part.stands.now part.first (key_bits p t) (data_bits p t) h m

pub returns-in_ok-write_exact_part-in-Exact : goal.returns-in_ok-write_exact_part-in-Exact
returns-in_ok-write_exact_part-in-Exact c =
    let part = c.args.part.now in
    let h : Held = record { sram = blocks_of c.write_exact_part.new.sram; values = values_of c.args.tcam.now; masks = masks_of c.args.tcam.now } in
    let blocks = subst (HasBlocks part.program.now part.table.now) c.in-Exact.is c.requires.blocks in
    record {
      holds = subst (Holds part h) (sym c.in-Exact.is)
          (exact-holds part.program.now part.table.now c.requires.part.entries.0 part.entries.now part.first c.requires.part.entries.1 c.requires.part.few h (key_bits part.program.now part.table.now) (data_bits part.program.now part.table.now) c.in-Exact.quanta c.in-Exact.keys c.in-Exact.records c.in-Exact.counters part.stands.now
          c.in-Exact.width c.in-Exact.per c.in-Exact.first_way blocks.0 refl c.in_ok-write_exact_part-in-Exact.ensures.holds);
      others = subst (λ (m : Memory). (b r : ℕ) → (Contains (memory_sram_blocks m) b → ⊥) → blocks_of c.write_exact_part.new.sram b r ≡ blocks_of c.args.sram.now b r) (sym c.in-Exact.is)
          c.in_ok-write_exact_part-in-Exact.ensures.others;
      other_values = λ b r out. refl;
      other_masks = λ b r out. refl;
    }

pub returns-in_ok-write_ternary_part-in-Ternary : goal.returns-in_ok-write_ternary_part-in-Ternary
returns-in_ok-write_ternary_part-in-Ternary c =
    let part = c.args.part.now in
    let h : Held = record { sram = blocks_of c.write_ternary_part.new.sram; values = values_of c.write_ternary_part.new.tcam; masks = masks_of c.write_ternary_part.new.tcam } in
    record {
      holds = subst (Holds part h) (sym c.in-Ternary.is)
          (ternary-holds part.program.now part.table.now c.requires.part.entries.0 part.entries.now part.first c.requires.part.entries.1 c.requires.part.few h (key_bits part.program.now part.table.now) (data_bits part.program.now part.table.now) c.in-Ternary.quanta c.in-Ternary.keys c.in-Ternary.records c.in-Ternary.counters part.stands.now
          c.in_ok-write_ternary_part-in-Ternary.ensures.holds);
      others = subst (λ (m : Memory). (b r : ℕ) → (Contains (memory_sram_blocks m) b → ⊥) → blocks_of c.write_ternary_part.new.sram b r ≡ blocks_of c.args.sram.now b r) (sym c.in-Ternary.is)
          c.in_ok-write_ternary_part-in-Ternary.ensures.others;
      other_values = subst (λ (m : Memory). (b r : ℕ) → (Contains (memory_tcam_blocks m) b → ⊥) → values_of c.write_ternary_part.new.tcam b r ≡ values_of c.args.tcam.now b r) (sym c.in-Ternary.is)
          c.in_ok-write_ternary_part-in-Ternary.ensures.other_values;
      other_masks = subst (λ (m : Memory). (b r : ℕ) → (Contains (memory_tcam_blocks m) b → ⊥) → masks_of c.write_ternary_part.new.tcam b r ≡ masks_of c.args.tcam.now b r) (sym c.in-Ternary.is)
          c.in_ok-write_ternary_part-in-Ternary.ensures.other_masks;
    }
