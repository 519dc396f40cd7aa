-- The memory of a part has the blocks that its entries take.
use Rattle.std.proofs.Common.{◌≡◌, ◌≢◌, ◌+◌, ◌-◌, ◌*◌, ◌/◌, ◌<◌, ◌≤◌, false, refl, sym, ap, ◌∙◌, arith}
use Rattle.std.specs.List.{range_with_len}
use Rattle.std.proofs.lemmas.List.FromFn.{length-range_with_len}
use Rattle.std.proofs.lemmas.Nat.{div-add-mod', mul-le}
use Rattle.rmt_bits.proofs.AllLaws.{All-range}
use Rattle.rmt_filling.specs.Types.{Program, Table, Kind}
use Rattle.rmt_ast.specs.declared.program.Kind.TheVariants.{Keyless, Exact, Prefix, Ternary}
use Rattle.rmt_config.specs.BlockCounts.{divided_up, exact_block_counts, ternary_block_counts}
use Rattle.rmt_pack.specs.Formats.{HasNeed, IsExactFormat, IsFormat, IsNeed}
use Rattle.rmt_pack.specs.Placements.{data_bits, key_bits, table_need}
use Rattle.rmt_pack.proofs.BlockLaws.{range-apart}
use Rattle.rmt_pack.proofs.ShapeLaws.{exact-is, ternary-is}
use Rattle.rmt_filling.specs.declared.memory.PartNeed.{PartNeed}
use Rattle.rmt_filling.specs.declared.memory.Taken.{Taken}
use Rattle.rmt_filling.specs.Holding.{exact_part, ternary_part}
use Rattle.rmt_filling.specs.Memories.{HasRoom, blocks_for, memory_for}
use Rattle.rmt_filling.specs.Rooms.{HasBlocks}

module _ (p : Program) (t : Table) (need : PartNeed) (taken : Taken) (key : need.key ≡ key_bits p t) (held : need.held ≡ data_bits p t) (some : 1 ≤ need.quanta) where
  exact_blocks : t.kind ≡ Exact → IsNeed (table_need p t) → IsExactFormat (table_need p t) need.format → HasRoom Exact need taken → HasBlocks p t (memory_for Exact need taken)
  exact_blocks kind needs format room =
      let f = need.format in
      let s = blocks_for Exact need in
      let bits = key_bits p t in
      let own_data = data_bits p t in
      let fits : f.per * (bits + 8) ≤ 112 * f.width =
      let le = mul-le f.per (bits + 8) (112 * f.width / (bits + 8)) (bits + 8) format.cells (omega arith) in
      omega (arith, le, div-add-mod' (112 * f.width) (bits + 8)) in
      let records : s.records ≡ (exact_block_counts f.width f.per need.quanta own_data false).records = ap (λ n. (exact_block_counts f.width f.per need.quanta n false).records) held in
      let within : taken.sram + (s.keys + s.records) ≤ 106 = let le = room.sram in omega (arith, le) in (
        kind,
        exact-is (exact_part bits own_data f.width f.per need.quanta (range_with_len taken.sram s.keys) (range_with_len (taken.sram + s.keys) s.records)) taken.sram s.keys s.records
            refl needs.has_key needs.key (omega (arith, some)) room.quanta (let le = format.has_width in omega (arith, le)) (let le = format.has_cells in omega (arith, le)) fits refl refl refl records within,
      )

  ternary_blocks : t.kind ≢ Keyless → IsNeed (table_need p t) → need.quanta ≤ 106 → taken.sram + ((ternary_block_counts need.key need.quanta need.held need.counted).records + (ternary_block_counts need.key need.quanta need.held need.counted).counters) ≤ 106
      → taken.tcam + (ternary_block_counts need.key need.quanta need.held need.counted).keys ≤ 16 → HasBlocks p t (memory_for Ternary need taken)
  ternary_blocks kind needs quanta sram tcam =
      let s = blocks_for Ternary need in
      let bits = key_bits p t in
      let own_data = data_bits p t in
      let back : own_data + 8 - 8 ≡ own_data = omega arith in
      let records : s.records ≡ (ternary_block_counts bits need.quanta (own_data + 8 - 8) false).records =
      ap (λ n. (ternary_block_counts bits need.quanta n false).records) (held ∙ sym back) in
      let keys : s.keys ≡ need.quanta * divided_up bits 40 = ap (λ n. need.quanta * divided_up n 40) key in (
        kind,
        ternary-is (ternary_part bits own_data need.quanta (range_with_len taken.sram s.records)) taken.sram s.records refl needs.has_key needs.key (omega (arith, some)) quanta refl refl (omega arith) refl refl
            records (omega (arith, sram)),
        record {
          long = length-range_with_len taken.tcam s.keys ∙ keys;
          apart = range-apart taken.tcam s.keys;
          few = All-range (λ block. block < 16) taken.tcam s.keys (λ w lt. omega (arith, lt, tcam));
        },
      )

  pub room-blocks : HasNeed t.kind (table_need p t) → IsFormat t.kind (table_need p t) need.format → (t.kind ≢ Keyless → HasRoom t.kind need taken) → HasBlocks p t (memory_for t.kind need taken)
  room-blocks needs format room = by_kind t.kind refl needs format room
    where
      by_kind : (kind : Kind) → t.kind ≡ kind → HasNeed kind (table_need p t) → IsFormat kind (table_need p t) need.format → (kind ≢ Keyless → HasRoom kind need taken) → HasBlocks p t (memory_for kind need taken)
      by_kind Keyless e needs format room = tt
      by_kind Exact e needs format room = exact_blocks e needs format (room (λ same. absurd cc))
      by_kind Prefix e needs format room =
          let r = room (λ same. absurd cc) in ternary_blocks (λ same. let two : Prefix ≡ Keyless = sym e ∙ same in absurd cc) needs r.quanta r.sram r.tcam
      by_kind Ternary e needs format room =
          let r = room (λ same. absurd cc) in ternary_blocks (λ same. let two : Ternary ≡ Keyless = sym e ∙ same in absurd cc) needs r.quanta r.sram r.tcam
