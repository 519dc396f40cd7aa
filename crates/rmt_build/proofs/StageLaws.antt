-- A stage whose rows list what was written holds the entries of its slots, and keeps the rules of form of rows.
use Rattle.rmt_bits.proofs.MemberLaws.{Contains-flat_map, Contains-item, list_any-Contains}
use Rattle.std.proofs.Common.{◌≡◌, ◌≢◌, ℕ, zero, suc, ◌<◌, List, [], ◌∷◌, Some, None, Bool, true, false, ◌&&◌, length, get_or, map, refl, sym, ap, subst, ◌∙◌, arith}
use Rattle.std.specs.Prelude.{All, Option, ◌==◌, not, nat_lt, bit_and, option_and_then, slice_get}
use Rattle.std.specs.List.{flat_map, list_all}
use Rattle.std.proofs.lemmas.Bool.{lt-ltb, eq-eqb, ne_eqb, and_from, false≢true}
use Rattle.std.proofs.lemmas.Option.{none-some, same_Some}
use Rattle.rmt_build.specs.Types.{Program, Table, Stage, SramRow, TcamRow, Unit, SlotUnit, Memory}
use Rattle.rmt_ast.specs.declared.entry.Entry.{Entry}
use Rattle.rmt_ast.specs.State.{width_of}
use Rattle.rmt_config.specs.declared.config.Memory.TheVariants.{Without, Exact, Ternary}
use Rattle.rmt_config.specs.declared.config.Unit.TheVariants.{Gate, Slot}
use Rattle.rmt_config.specs.CellForm.{MemoryEnds, is_clear}
use Rattle.rmt_config.specs.Cells.{Content, cells_in, content_of, sram_row, tcam_row, visible_bits}
use Rattle.rmt_config.specs.LaneForm.{bits_of_lanes}
use Rattle.rmt_config.specs.Order.{rises_from}
use Rattle.rmt_config.specs.StageForm.{is_listed, rows_are_formed, sram_blocks, srow_is_formed, srow_number, tcam_blocks, trow_is_formed, trow_number}
use Rattle.rmt_pack.specs.Placements.{data_bits, key_bits}
use Rattle.rmt_config.specs.Instructions.{first_code}
use Rattle.rmt_refine.specs.Cells.{HoldsEntry}
use Rattle.rmt_refine.specs.Units.{table_at}
use Rattle.rmt_refine.specs.View.{as_slot, slot_of}
use Rattle.rmt_filling.specs.declared.plan.Plan.{Plan}
use Rattle.rmt_filling.specs.declared.stands.Stand.{Stand}
use Rattle.rmt_build.specs.BuiltStage.{HoldsStand}
use Rattle.rmt_filling.specs.Holding.{EndsIn, Held, content_in}
use Rattle.rmt_build.specs.HeldParts.{PartHolds}
use Rattle.rmt_filling.specs.Listing.{IsSramRow, IsTcamRow, ListsSram, ListsTcam}
use Rattle.rmt_build.specs.Plans.{stands_of_part}
use Rattle.rmt_build.specs.Written.{IsOutside, UnitsWritten}
use Rattle.rmt_build.proofs.KeptLaws.{part-same}
use Rattle.std.proofs.lemmas.List.Sums.{list_all-from_AllPass}

-- what the rows of a stage hold
abbrev pub own_held : Stage → Held
own_held stage = record { sram = sram_row stage.srows; values = tcam_row (λ t. t.value) stage.trows; masks = tcam_row (λ t. t.mask) stage.trows }

content-own : (stage : Stage) (slot : SlotUnit) (n : ℕ) → content_of stage slot n ≡ content_in (own_held stage) (bits_of_lanes slot.keys) slot.held slot.memory n
content-own stage slot n = go slot.memory
  where
    go : (m : Memory) → content_of stage (record slot { memory = m }) n ≡ content_in (own_held stage) (bits_of_lanes slot.keys) slot.held m n
    go Without = refl
    go (Exact k p d w ks rs cs) = refl
    go (Ternary d ks rs cs) = refl

ends-own : (stage : Stage) (slot : SlotUnit) (m : Memory) → EndsIn (own_held stage) (bits_of_lanes slot.keys) slot.held m → MemoryEnds stage slot m
ends-own stage slot Without ends = MemoryEnds.none
ends-own stage slot (Exact k p d w ks rs cs) ends = MemoryEnds.exact k p d w ks rs cs ends.0 ends.1
ends-own stage slot (Ternary d ks rs cs) ends = MemoryEnds.ternary d ks rs cs ends.0 ends.1

-- what a slot holds
pub record SlotBuilt (p : Program) (plan : Plan) (k place : ℕ) (stage : Stage) (slot : SlotUnit) (t : Table) (es : List Entry) : Type 0 where
  pub holds : All (HoldsStand p t es (first_code stage place) stage slot) (stands_of_part p plan t slot.node k)
  pub empty : (cell : ℕ) → cell < cells_in slot.memory → All (λ (s : Stand). s.cell ≢ cell) (stands_of_part p plan t slot.node k)
      → is_clear slot.memory (content_of stage slot cell) ≡ true
  pub ends : MemoryEnds stage slot slot.memory

module _ (p : Program) (lists : List (List Entry)) (plan : Plan) (k : ℕ) (stage : Stage) (h : Held) (written : UnitsWritten p lists plan k stage.units (length stage.units) h)
    (sram : ListsSram h.sram stage.srows) (tcam : ListsTcam h.values h.masks stage.trows) where
  slot-there : (place : ℕ) (slot : SlotUnit) → slot_of stage place ≡ Some slot → (place < length stage.units) × (slice_get stage.units place ≡ Some (Slot slot))
  slot-there place slot is = look (slice_get stage.units place) refl is
    where
      inside : (xs : List Unit) (i : ℕ) (x : Unit) → slice_get xs i ≡ Some x → i < length xs
      inside [] i x at = absurd (none-some x at)
      inside (y ∷ ys) zero x at = omega arith
      inside (y ∷ ys) (suc i) x at = let lt = inside ys i x at in omega (arith, lt)

      look : (o : Option Unit) → slice_get stage.units place ≡ o → option_and_then as_slot o ≡ Some slot → (place < length stage.units) × (slice_get stage.units place ≡ Some (Slot slot))
      look None at e = absurd (none-some slot e)
      look (Some (Gate g)) at e = absurd (none-some slot e)
      look (Some (Slot s)) at e = (inside stage.units place (Slot s) at, at ∙ ap (λ (x : SlotUnit). Some (Slot x)) (same_Some s slot e))

  -- its part, read from the rows
  pub part-read : (slot : SlotUnit) (t : Table) (es : List Entry) (stands : List Stand) (first bits held : ℕ) → PartHolds p t es stands first bits held h slot.memory
      → PartHolds p t es stands first bits held (own_held stage) slot.memory
  part-read slot t es stands first bits held part =
      part-same h (own_held stage) p t es stands first bits held slot.memory (record { sram = λ b r has. sram.same b r; values = λ b r has. tcam.value b r; masks = λ b r has. tcam.mask b r }) part

  pub slot-built : (place : ℕ) (slot : SlotUnit) (t : Table) (es : List Entry) → slot_of stage place ≡ Some slot → table_at p slot.node ≡ Some t → slice_get lists slot.node ≡ Some es
      → bits_of_lanes slot.keys ≡ key_bits p t → slot.held ≡ data_bits p t → SlotBuilt p plan k place stage slot t es
  slot-built place slot t es is table entries keys held =
      let there = slot-there place slot is in
      let w = written.slots place slot there.0 there.1 in
      let same_table : w.table ≡ t = same_Some w.table t (sym w.is_table ∙ table) in
      let same_entries : w.entries ≡ es = same_Some w.entries es (sym w.is_entries ∙ entries) in
      let first = first_code stage place in
      let part : PartHolds p t es (stands_of_part p plan t slot.node k) first (bits_of_lanes slot.keys) slot.held h slot.memory =
      subst (λ b. PartHolds p t es (stands_of_part p plan t slot.node k) first b slot.held h slot.memory) (sym keys)
      (subst (λ d. PartHolds p t es (stands_of_part p plan t slot.node k) first (key_bits p t) d h slot.memory) (sym held)
      (subst (λ (x : Table). PartHolds p x es (stands_of_part p plan x slot.node k) first (key_bits p x) (data_bits p x) h slot.memory) same_table
      (subst (λ (xs : List Entry). PartHolds p w.table xs (stands_of_part p plan w.table slot.node k) first (key_bits p w.table) (data_bits p w.table) h slot.memory) same_entries w.part))) in
      let own = part-read slot t es (stands_of_part p plan t slot.node k) first (bits_of_lanes slot.keys) slot.held part in
      record {
        holds = λ i d lt.
            let x = own.holds i d lt in
            record {
              entry = x.entry;
              is = x.is;
              holds = subst (HoldsEntry p t (map (width_of p) t.key) first x.entry x.entry.number) (sym (content-own stage slot (get_or (stands_of_part p plan t slot.node k) i d).cell)) x.holds;
              visible = ap (λ (y : Content). visible_bits y.head) (content-own stage slot (get_or (stands_of_part p plan t slot.node k) i d).cell) ∙ x.visible;
            };
        empty = λ cell lt none. ap (is_clear slot.memory) (content-own stage slot cell) ∙ own.clear cell lt none;
        ends = ends-own stage slot slot.memory own.ends;
      }

  -- ---- the rows

  -- a block with a row that isn't 0 is listed
  listed : (blocks : Unit → List ℕ) (b x : ℕ) → x ≢ 0 → (IsOutside blocks stage.units (length stage.units) b → x ≡ 0) → is_listed b (flat_map blocks stage.units) ≡ true
  listed blocks b x some none = look (is_listed b (flat_map blocks stage.units)) refl
    where
      look : (v : Bool) → is_listed b (flat_map blocks stage.units) ≡ v → v ≡ true
      look true e = refl
      look false e = absurd (some (none (λ place u lt at has.
          let there = Contains-flat_map blocks stage.units u b (Contains-item stage.units place u at) has in
          false≢true (sym e ∙ list_any-Contains (λ c. c == b) (flat_map blocks stage.units) b there (eq-eqb b b refl)))))

  not-zero : (x : ℕ) → x ≢ 0 → not (x == 0) ≡ true
  not-zero x ne = ap not (ne_eqb x 0 ne)

  srow-formed : (r : SramRow) → IsSramRow h.sram r → srow_is_formed stage.units r ≡ true
  srow-formed r is =
      and_from (nat_lt r.row 1024 && is_listed r.block (flat_map sram_blocks stage.units)) (not (r.bits == 0))
      (and_from (nat_lt r.row 1024) (is_listed r.block (flat_map sram_blocks stage.units)) (lt-ltb r.row 1024 is.row)
      (listed sram_blocks r.block r.bits is.some (λ out. is.there ∙ written.sram r.block r.row out)))
      (not-zero r.bits is.some)

  trow-formed : (r : TcamRow) → IsTcamRow h.values h.masks r → trow_is_formed stage.units r ≡ true
  trow-formed r is =
      and_from (nat_lt r.row 2048 && is_listed r.block (flat_map tcam_blocks stage.units) && not (r.mask == 0)) (bit_and r.value r.mask == r.value)
      (and_from (nat_lt r.row 2048 && is_listed r.block (flat_map tcam_blocks stage.units)) (not (r.mask == 0))
      (and_from (nat_lt r.row 2048) (is_listed r.block (flat_map tcam_blocks stage.units)) (lt-ltb r.row 2048 is.row)
      (listed tcam_blocks r.block r.mask is.some (λ out. is.there ∙ written.masks r.block r.row out)))
      (not-zero r.mask is.some))
      (eq-eqb (bit_and r.value r.mask) r.value is.masked)

  pub rows-formed : rows_are_formed stage ≡ true
  rows-formed =
      let srows = list_all-from_AllPass (srow_is_formed stage.units) stage.srows (λ i d lt. srow-formed (get_or stage.srows i d) (sram.each i d lt)) in
      let trows = list_all-from_AllPass (trow_is_formed stage.units) stage.trows (λ i d lt. trow-formed (get_or stage.trows i d) (tcam.each i d lt)) in
      and_from (list_all (srow_is_formed stage.units) stage.srows && rises_from 0 (map srow_number stage.srows) && list_all (trow_is_formed stage.units) stage.trows) (rises_from 0 (map trow_number stage.trows))
      (and_from (list_all (srow_is_formed stage.units) stage.srows && rises_from 0 (map srow_number stage.srows)) (list_all (trow_is_formed stage.units) stage.trows)
      (and_from (list_all (srow_is_formed stage.units) stage.srows) (rises_from 0 (map srow_number stage.srows)) srows sram.rise) trows) tcam.rise
