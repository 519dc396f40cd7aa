-- The slots of a built stage keep the rules of form.
use Rattle.std.proofs.Common.{◌≡◌, ℕ, ◌+◌, ◌*◌, ◌/◌, ◌^◌, ◌≤◌, Bool, true, ◌&&◌, ◌==◌, nat_lt, length, map, refl, sym, ap, ◌∙◌, subst, arith}
use Rattle.std.specs.Prelude.{fold, max}
use Rattle.std.specs.List.{list_all, range_with_len}
use Rattle.std.proofs.lemmas.Bool.{eq-eqb, le-leb, lt-ltb}
use Rattle.std.proofs.lemmas.List.FromFn.{length-range_with_len}
use Rattle.std.proofs.lemmas.List.Sums.{list_all-from_AllPass}
use Rattle.std.proofs.lemmas.Nat.{mul-le}
use Rattle.std.proofs.Math.Nat.{mul-div-le}
use Rattle.rmt_bits.proofs.AllLaws.{All-range}
use Rattle.rmt_build.specs.Types.{Program, Table, Kind, SlotUnit}
use Rattle.rmt_ast.specs.declared.program.Kind.TheVariants as kind
use Rattle.rmt_ast.specs.WellFormed.{HasKey, bits_of}
use Rattle.rmt_config.specs.BlockCounts.{divided_up, exact_block_counts, ternary_block_counts}
use Rattle.rmt_config.specs.UnitForm.{are_sram_blocks, are_tcam_blocks, format_is_formed, has_block_counts, may_have_memory, memory_is_formed}
use Rattle.rmt_config.specs.LaneForm.{bits_of_lanes}
use Rattle.rmt_pack.specs.declared.format.Need.{Need}
use Rattle.rmt_pack.specs.Formats.{HasNeed, IsExactFormat, most_cells}
use Rattle.rmt_pack.specs.Placements.{data_bits, key_bits, param_bits, table_need}
use Rattle.rmt_filling.specs.declared.memory.PartNeed.{PartNeed}
use Rattle.rmt_filling.specs.declared.memory.Taken.{Taken}
use Rattle.rmt_filling.specs.Memories.{blocks_for, memory_for, sram_for, tcam_for}
use Rattle.rmt_pack.specs.declared.format.Format.{Format}
use Rattle.rmt_build.proofs.MemoryLaws.{few_quanta}

-- ---- sizes of a table

pub record AreSmall (p : Program) (t : Table) : Type 0 where
  pub held : data_bits p t ≤ 2048
  pub key : key_bits p t ≤ 640
  pub size : t.size ≤ 1048576

pub are_small : (p : Program) (t : Table) (kd : Kind) → HasKey p kd t → HasNeed kd (table_need p t) → AreSmall p t
are_small p t kind.Keyless key need = record {
  held = subst (λ ns. fold max 0 (map (param_bits p) ns) ≤ 2048) (sym key.actions) (omega arith);
  key = subst (λ ns. bits_of p ns ≤ 640) (sym key.key) (omega arith);
  size = subst (λ n. n ≤ 1048576) (sym key.size) (omega arith);
}
are_small p t kind.Exact key need = record { held = need.held; key = key.key_bits; size = key.size }
are_small p t kind.Prefix key need = record { held = need.held; key = key.0.key_bits; size = key.0.size }
are_small p t kind.Ternary key need = record { held = need.held; key = key.key_bits; size = key.size }

-- ---- blocks

blocks_below : (most a n : ℕ) → a + n ≤ most → list_all (λ b. nat_lt b most) (range_with_len a n) ≡ true
blocks_below most a n le =
    list_all-from_AllPass (λ b. nat_lt b most) (range_with_len a n) (All-range (λ b. nat_lt b most ≡ true) a n (λ w lt. lt-ltb w most (omega (arith, lt, le))))

-- cells of an exact row fit its blocks
cells_fit : (n : Need) (k per : ℕ) → per ≤ most_cells n k → per * (n.key + 8) ≤ 112 * k
cells_fit n k per le =
    omega (arith, mul-le per (n.key + 8) (112 * k / (n.key + 8)) (n.key + 8) le (omega arith), mul-div-le (112 * k) (n.key + 8))

few_cells : (n : Need) (k per : ℕ) → k ≤ 8 → per * (n.key + 8) ≤ 112 * k → per ≤ 112
few_cells n k per few le =
    let split : per * (n.key + 8) ≡ per * n.key + per * 8 = omega arith in
    omega (arith, split, few, le)

five : (a b c d e : Bool) → a ≡ true → b ≡ true → c ≡ true → d ≡ true → e ≡ true → (a && b && c && d && e) ≡ true
five a b c d e ea eb ec ed ee = rw (ea, eb, ec, ed, ee) refl

three_equal : (a b c x y z : ℕ) → a ≡ x → b ≡ y → c ≡ z → ((a == x) && (b == y) && (c == z)) ≡ true
three_equal a b c x y z ea eb ec = rw (eq-eqb a x ea, eq-eqb b y eb, eq-eqb c z ec) refl

-- ---- the memory of a slot

-- what is known of a slot with memory
pub record HasKeyed (p : Program) (t : Table) (s : SlotUnit) (n : PartNeed) : Type 0 where
  pub some_keys : 1 ≤ length s.keys
  pub bits : bits_of_lanes s.keys ≡ n.key
  pub some_bits : 1 ≤ n.key
  pub few_bits : n.key ≤ 640
  pub some_actions : 1 ≤ s.actions
  pub some_quanta : 1 ≤ n.quanta
  pub before : n.before ≤ 63
  pub held : s.held ≡ n.held
  pub counted : s.counted ≡ n.counted

module _ (p : Program) (t : Table) (s : SlotUnit) (n : PartNeed) (taken : Taken) where
  pub exact_formed : (need : Need) → need.key ≡ n.key → IsExactFormat need n.format → HasKeyed p t s n → taken.sram + sram_for kind.Exact (blocks_for kind.Exact n) ≤ 106
      → memory_is_formed s (memory_for kind.Exact n taken) ≡ true
  exact_formed need same f has room =
      let k = n.format.width in
      let per = n.format.per in
      let d = n.quanta in
      let shape = blocks_for kind.Exact n in
      let fits = cells_fit need k per f.cells in
      let own : per * (bits_of_lanes s.keys + 8) ≤ 112 * k = subst (λ b. per * (b + 8) ≤ 112 * k) (same ∙ sym has.bits) fits in
      let shapes : exact_block_counts k per d s.held s.counted ≡ shape = ap (λ h. exact_block_counts k per d h s.counted) has.held ∙ ap (exact_block_counts k per d n.held) has.counted in
      let ks = range_with_len taken.sram shape.keys in
      let rs = range_with_len (taken.sram + shape.keys) shape.records in
      let cs = range_with_len (taken.sram + shape.keys + shape.records) shape.counters in
      let format : format_is_formed s k per d (4 * n.before) ≡ true =
      rw (
        le-leb 1 (length s.keys) has.some_keys,
        le-leb (bits_of_lanes s.keys) 640 (omega (arith, has.bits, has.few_bits)),
        le-leb 1 s.actions has.some_actions,
        le-leb 1 d has.some_quanta,
        le-leb d 106 (few_quanta d (4 * k) 106 (omega (arith, f.has_width)) (omega (arith, room))),
        le-leb 1 k f.has_width,
        lt-ltb k 256 (omega (arith, f.width)),
        le-leb 1 per f.has_cells,
        lt-ltb per 65536 (omega (arith, few_cells need k per f.width fits)),
        lt-ltb (4 * n.before) 256 (omega (arith, has.before)),
        le-leb (per * (bits_of_lanes s.keys + 8)) (112 * k) own,
      ) refl in
      let shaped : has_block_counts (exact_block_counts k per d s.held s.counted) ks rs cs ≡ true =
      ap (λ x. has_block_counts x ks rs cs) shapes
      ∙ three_equal (length ks) (length rs) (length cs) shape.keys shape.records shape.counters (length-range_with_len taken.sram shape.keys) (length-range_with_len (taken.sram + shape.keys) shape.records)
      (length-range_with_len (taken.sram + shape.keys + shape.records) shape.counters) in
      five (format_is_formed s k per d (4 * n.before)) (has_block_counts (exact_block_counts k per d s.held s.counted) ks rs cs) (are_sram_blocks ks) (are_sram_blocks rs) (are_sram_blocks cs) format shaped
      (blocks_below 106 taken.sram shape.keys (omega (arith, room))) (blocks_below 106 (taken.sram + shape.keys) shape.records (omega (arith, room)))
      (blocks_below 106 (taken.sram + shape.keys + shape.records) shape.counters (omega (arith, room)))

  pub ternary_formed : n.key ≡ bits_of_lanes s.keys → HasKeyed p t s n → taken.sram + sram_for kind.Ternary (blocks_for kind.Ternary n) ≤ 106
      → taken.tcam + tcam_for kind.Ternary (blocks_for kind.Ternary n) ≤ 16 → memory_is_formed s (memory_for kind.Ternary n taken) ≡ true
  ternary_formed key has sram tcam =
      let d = n.quanta in
      let shape = blocks_for kind.Ternary n in
      let row : 1 ≤ divided_up n.key 40 = omega (arith, has.some_bits) in
      let shapes : ternary_block_counts (bits_of_lanes s.keys) d s.held s.counted ≡ shape =
      ap (λ b. ternary_block_counts b d s.held s.counted) (sym key) ∙ ap (λ h. ternary_block_counts n.key d h s.counted) has.held ∙ ap (ternary_block_counts n.key d n.held) has.counted in
      let ks = range_with_len taken.tcam shape.keys in
      let rs = range_with_len taken.sram shape.records in
      let cs = range_with_len (taken.sram + shape.records) shape.counters in
      let head : may_have_memory s d ≡ true =
      rw (
        le-leb 1 (length s.keys) has.some_keys,
        le-leb (bits_of_lanes s.keys) 640 (omega (arith, has.bits, has.few_bits)),
        le-leb 1 s.actions has.some_actions,
        le-leb 1 d has.some_quanta,
        le-leb d 106 (omega (arith, few_quanta d (divided_up n.key 40) 16 row (omega (arith, tcam)))),
      ) refl in
      let shaped : has_block_counts (ternary_block_counts (bits_of_lanes s.keys) d s.held s.counted) ks rs cs ≡ true =
      ap (λ x. has_block_counts x ks rs cs) shapes
      ∙ three_equal (length ks) (length rs) (length cs) shape.keys shape.records shape.counters (length-range_with_len taken.tcam shape.keys) (length-range_with_len taken.sram shape.records)
      (length-range_with_len (taken.sram + shape.records) shape.counters) in
      five (may_have_memory s d) (has_block_counts (ternary_block_counts (bits_of_lanes s.keys) d s.held s.counted) ks rs cs) (are_tcam_blocks ks) (are_sram_blocks rs) (are_sram_blocks cs) head shaped
      (blocks_below 16 taken.tcam shape.keys tcam) (blocks_below 106 taken.sram shape.records (omega (arith, sram))) (blocks_below 106 (taken.sram + shape.records) shape.counters (omega (arith, sram)))

-- the cells of a part are told by 32 bits
pub few_quanta_cells : (n : Need) (f : Format) (q : ℕ) → IsExactFormat n f → q ≤ 106 → 4096 * q * f.per ≤ 2 ^ 32
few_quanta_cells n f q is few =
    let per = few_cells n f.width f.per is.width (cells_fit n f.width f.per is.cells) in
    omega (arith, mul-le (4096 * q) f.per (4096 * 106) 112 (omega (arith, few)) per)
