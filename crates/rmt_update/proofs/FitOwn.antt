-- A configuration's own cells hold nothing, or what changed cells can put there.
use Rattle.std.proofs.Common.{◌≡◌, ℕ, ◌+◌, ◌*◌, ◌/◌, ◌%◌, ◌^◌, ◌<◌, List, [], ◌∷◌, map, true, false, not, cond, eqb, Option, Some, option_map, unwrap_or, inl, inr, refl, sym, ap, ◌∙◌, subst, arith}
use Rattle.std.specs.Prelude.{find}
use Rattle.std.specs.List.{list_any}
use Rattle.std.proofs.lemmas.Bool.{cases_Bool, eqb-true, or_parts}
use Rattle.std.proofs.lemmas.List.Elements.{All-contains}
use Rattle.rmt_bits.proofs.BitLaws.{slice-lt}
use Rattle.rmt_bits.proofs.MemberLaws.{any_item, Contains-unmap}
use Rattle.rmt_ast.specs.declared.names.Names.{Names}
use Rattle.rmt_config.specs.declared.config.CellNumber.{CellNumber}
use Rattle.rmt_config.specs.declared.config.Config.{Config}
use Rattle.rmt_config.specs.declared.config.Memory.{Memory}
use Rattle.rmt_config.specs.declared.config.SlotUnit.{SlotUnit}
use Rattle.rmt_config.specs.declared.config.Memory.TheVariants.{Without, Exact, Ternary}
use Rattle.rmt_config.specs.Cells.{Content, cell_of, cells_in, content_of, entry_at, number_of_cell, row_record, sram_row}
use Rattle.rmt_config.specs.CellForm.{cells_of}
use Rattle.rmt_config.specs.Form.{Formed, visible_with}
use Rattle.rmt_config.specs.LaneForm.{bits_of_lanes}
use Rattle.rmt_config.specs.MemoryRules.{MemoryIsFormed}
use Rattle.rmt_config.specs.NamesForm.{held_by}
use Rattle.rmt_config.specs.PartStands.{PartStands}
use Rattle.rmt_config.specs.Rooms.{PartAt, parts_of}
use Rattle.rmt_config.specs.RunCells.{emptied, own_cells, own_content}
use Rattle.rmt_config.proofs.PrefixRowLaws.{key-small, mask-small}
use Rattle.rmt_config.proofs.SpelledCandidates.{above-byte}
use Rattle.rmt_config.proofs.SpelledParts.{held-is, parts-stand}
use Rattle.rmt_pack.proofs.PartLaws.{part_of_slot}
use Rattle.rmt_pack.proofs.RoomLaws.{part_at_place}
use Rattle.rmt_config.proofs.LayoutLaws.{memory_formed}
use Rattle.rmt_update.specs.Fitting.{AreFit, HasEntry, IsFitting, MaskFits}
use Rattle.rmt_update.proofs.PartHoldLaws.{clear-emptied, part-slot}
use Rattle.rmt_book.proofs.ToldEntryLaws.{IsHead, head-occupied, head-visible, listed-heads}

-- what memory of this form can hold
record IsSmall (slot : SlotUnit) (x : Content) : Type 0 where
  head : x.head < 256
  key : x.key < 2 ^ bits_of_lanes slot.keys
  mask : MaskFits (bits_of_lanes slot.keys) slot.memory x.mask
  held : x.held < 2 ^ slot.held

low-byte : (n : ℕ) → n % 256 < 256
low-byte n = omega arith

-- what is above a byte
above-lt : (value bits : ℕ) → value < 2 ^ (bits + 8) → value / 256 < 2 ^ bits
above-lt value bits lt = subst (λ n. n < 2 ^ bits) (above-byte value bits lt) (slice-lt value 8 bits)

module _ (c : Config) (p : PartAt) (st : PartStands c p) (memory : MemoryIsFormed c) (n : ℕ) (lt : n < cells_in p.slot.memory) where
  abbrev bits : ℕ
  bits = bits_of_lanes p.slot.keys

  small : IsSmall p.slot (own_content c p.stage p.place n)
  small = by p.slot.memory refl lt
    where
      held-there : (m : Memory) → p.slot.memory ≡ m → own_content c p.stage p.place n ≡ content_of st.stage (record p.slot { memory = m }) n
      held-there m is = held-is c p st n ∙ ap (λ (m : Memory). content_of st.stage (record p.slot { memory = m }) n) is

      by : (m : Memory) → p.slot.memory ≡ m → n < cells_in m → IsSmall p.slot (own_content c p.stage p.place n)
      by Without is lt = absurd (omega (arith, lt))
      by (Exact k per quanta first_way keys records counters) is lt =
          let at = cell_of (1024 * quanta) per n in
          let sram = sram_row st.stage.srows in
          let e = held-there (Exact k per quanta first_way keys records counters) is in
          record {
            head = subst (λ (x : Content). x.head < 256) (sym e) (low-byte (entry_at sram keys k bits at));
            key = subst (λ (x : Content). x.key < 2 ^ bits) (sym e) (above-lt (entry_at sram keys k bits at) bits (slice-lt _ _ (bits + 8)));
            mask = subst (λ (o : Memory). MaskFits bits o (own_content c p.stage p.place n).mask) (sym is) (ap (λ (x : Content). x.mask) e);
            held = subst (λ (x : Content). x.held < 2 ^ p.slot.held) (sym e) (slice-lt _ _ p.slot.held);
          }
      by (Ternary quanta keys records counters) is lt =
          let r = row_record (sram_row st.stage.srows) records p.slot.held n in
          let e = held-there (Ternary quanta keys records counters) is in
          record {
            head = subst (λ (x : Content). x.head < 256) (sym e) (low-byte r);
            key = key-small c p st quanta keys records counters is memory n;
            mask = subst (λ (o : Memory). MaskFits bits o (own_content c p.stage p.place n).mask) (sym is) (mask-small c p st quanta keys records counters is n);
            held = subst (λ (x : Content). x.held < 2 ^ p.slot.held) (sym e) (above-lt r p.slot.held (slice-lt _ _ (p.slot.held + 8)));
          }

  -- a listed cell is occupied, and seen by both parities
  listed : visible_with c.names ≡ 3 → list_any (λ m. eqb m n) (cells_of p.slot) ≡ true → HasEntry p.slot (own_content c p.stage p.place n)
  listed named any =
      let at = any_item (λ m. eqb m n) (cells_of p.slot) any in
      let item = Contains-unmap (λ (x : CellNumber). x.cell) p.slot.numbers at.0 at.1 in
      let same : item.0.cell ≡ n = item.2 ∙ eqb-true at.0 n at.2 in
      let head = All-contains (IsHead c p) p.slot.numbers item.0 (listed-heads c p st) item.1 in
      let visible : (held_by c p item.0).head / 2 % 4 ≡ 3 = head-visible (visible_with c.names) p.first p.slot.actions (held_by c p item.0).head head ∙ named in
      let occupied : (held_by c p item.0).head % 2 ≡ 1 = eqb-true ((held_by c p item.0).head % 2) 1 (head-occupied (visible_with c.names) p.first p.slot.actions (held_by c p item.0).head head) in
      made (subst (λ m. (own_content c p.stage p.place m).head / 2 % 4 ≡ 3) same visible) (subst (λ m. (own_content c p.stage p.place m).head % 2 ≡ 1) same occupied) small
    where
      made : (own_content c p.stage p.place n).head / 2 % 4 ≡ 3 → (own_content c p.stage p.place n).head % 2 ≡ 1 → IsSmall p.slot (own_content c p.stage p.place n) → HasEntry p.slot (own_content c p.stage p.place n)
      made visible occupied s =
          let low = s.head in
          record {
            visible = 3;
            code = (own_content c p.stage p.place n).head / 8;
            head = omega (arith, visible, occupied);
            seen = omega arith;
            visible_small = omega arith;
            code_small = omega (arith, low);
            key = s.key;
            mask = s.mask;
            held = s.held;
          }

  -- one that isn't listed is empty
  unlisted : list_any (λ m. eqb m n) (cells_of p.slot) ≡ false → (own_content c p.stage p.place n ≡ emptied p.slot) × ((own_cells c).number p.stage p.place n ≡ 0)
  unlisted none = (
    held-is c p st n ∙ clear-emptied st.stage p.slot n lt (st.holds.others n lt (ap not none)),
    ap (λ (o : Option SlotUnit). unwrap_or (option_map (λ (slot : SlotUnit). number_of_cell slot.numbers n) o) 0) (part-slot c p st) ∙ no-number p.slot.numbers none,
  )
    where
      no-number : (ns : List CellNumber) → list_any (λ m. eqb m n) (map (λ (x : CellNumber). x.cell) ns) ≡ false → number_of_cell ns n ≡ 0
      no-number [] h = refl
      no-number (x ∷ ns) h =
          let parts = or_parts (eqb x.cell n) (list_any (λ m. eqb m n) (map (λ (x : CellNumber). x.cell) ns)) h in
          ap (λ b. unwrap_or (option_map (λ (y : CellNumber). y.number) (cond b (Some x) (find (λ (y : CellNumber). eqb y.cell n) ns))) 0) parts.0 ∙ no-number ns parts.1

  part-fit : visible_with c.names ≡ 3 → IsFitting p.slot (own_content c p.stage p.place n) ((own_cells c).number p.stage p.place n)
  part-fit named = elim (cases_Bool (list_any (λ m. eqb m n) (cells_of p.slot))) [
    | inl some ↦ inr (listed named some)
    | inr none ↦ inl (unlisted none)
  ]

pub own_fit : (c : Config) (names : Names) → Formed c → c.names ≡ Some names → AreFit c (own_cells c)
own_fit c names formed named k place n slot at lt =
    let part = part_of_slot c slot.node k place slot at refl in
    let r = part_at_place c slot.node k place part.0 slot part.1 in
    let st = All-contains (PartStands c) (parts_of c slot.node) r.part (parts-stand c slot.node formed.items (memory_formed c formed)) r.there in
    let fit = part-fit c r.part st (memory_formed c formed) n (subst (λ (s : SlotUnit). n < cells_in s.memory) (sym r.slot_is) lt) (ap visible_with named) in
    subst (λ i. IsFitting slot (own_content c i place n) ((own_cells c).number i place n)) r.stage_is
    (subst (λ i. IsFitting slot (own_content c r.part.stage i n) ((own_cells c).number r.part.stage i n)) r.place_is
    (subst (λ (s : SlotUnit). IsFitting s (own_content c r.part.stage r.part.place n) ((own_cells c).number r.part.stage r.part.place n)) r.slot_is fit))
