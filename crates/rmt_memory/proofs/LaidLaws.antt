-- A memory that was laid out holds the cells of its slot.
use Rattle.std.proofs.Common.{◌≡◌, ℕ, ◌+◌, ◌*◌, ◌/◌, ◌%◌, ◌^◌, ◌<◌, ◌≤◌, List, length, get_or, drop, false, cond, ltb, All, Some, None, sym, refl, ap, ◌∙◌, subst, arith, inl, inr}
use Rattle.std.proofs.lemmas.Bool.{and_parts, cases_Bool, false≢true, ltb-true}
use Rattle.std.proofs.lemmas.List.{length-take}
use Rattle.std.proofs.lemmas.List.Sums.{AllPass-from_list_all}
use Rattle.std.proofs.lemmas.Nat.{shr_below, pow_pos}
use Rattle.rmt_bits.proofs.BitLaws.{slice-lt}
use Rattle.rmt_bits.specs.Grouping.{Compared}
use Rattle.rmt_memory.specs.Types.{Stage, TcamRow, SlotUnit, CellNumber, Memory}
use Rattle.rmt_config.specs.declared.config.Memory.TheVariants.{Without, Exact, Ternary}
use Rattle.rmt_config.specs.LaneForm.{bits_of_lanes}
use Rattle.rmt_config.specs.BlockCounts.{divided_up}
use Rattle.rmt_config.specs.StageForm.{is_listed, trow_number}
use Rattle.rmt_config.specs.UnitForm.{slot_head_is_formed, memory_is_formed, number_is_formed}
use Rattle.rmt_config.specs.Layouts.{ternary_keys}
use Rattle.rmt_config.specs.Cells.{Content, content_of, cells_in, is_occupied, tcam_row, blocks_at, number_of_cell}
use Rattle.rmt_config.specs.CellForm.{cells_of}
use Rattle.rmt_config.proofs.UnitBits.{Within, unit_row-lt}
use Rattle.rmt_config.proofs.HeldRows.{rows-agree}
use Rattle.rmt_memory.specs.declared.memory.SlotMemory.{SlotMemory}
use Rattle.rmt_memory.specs.declared.keys.Keys.{Keys}
use Rattle.rmt_memory.specs.declared.keys.Keys.TheVariants.{Nothing, InCells, InVectors}
use Rattle.rmt_memory.specs.Laying.{cell_at, nowhere}
use Rattle.rmt_memory.specs.Laid.{Laid, VectorsLaid, Unlisted}
use Rattle.rmt_memory.specs.Sights.{seen_by}
use Rattle.rmt_memory.specs.Memories.{SlotFormed, HoldsCell, HoldsSlot, KeyFits, VectorsHold, compared_of}
use Rattle.rmt_memory.proofs.CellLaws.{cells-rise, unlisted-clear}
use Rattle.rmt_memory.proofs.RangeLaws.{listed-place, unlisted-place, number-at}
use Rattle.rmt_memory.proofs.WordLaws.{wider}
use Rattle.rmt_memory.proofs.LayLaws.{small-values}

-- the data of a cell has no more bits than an entry holds
pub held-small : (stage : Stage) (s : SlotUnit) (cell : ℕ) → (content_of stage s cell).held < 2 ^ s.held
held-small stage s cell = by s.memory
  where
    by : (mem : Memory) → (content_of stage (record s { memory = mem }) cell).held < 2 ^ s.held
    by Without = pow_pos s.held
    by (Exact k p d w ks rs cs) = slice-lt _ _ s.held
    by (Ternary d ks rs cs) = shr_below _ s.held 8 (slice-lt _ _ (s.held + 8))

module _ (stage : Stage) (s : SlotUnit) (formed : SlotFormed stage s) where
  abbrev content : ℕ → Content
  content n = content_of stage s n

  values-small : Within 40 (tcam_row (λ (r : TcamRow). r.value) stage.trows)
  values-small =
      (rows-agree (ternary_keys 1 (bits_of_lanes s.keys)) (λ (r : TcamRow). r.block) (λ (r : TcamRow). r.row) (λ (r : TcamRow). r.value) trow_number stage.trows (λ r. refl)
      formed.rows.trise formed.rows.tlow (small-values stage.trows formed.values formed.rows.tbits)).within

  -- the numbers of entries have 32 bits
  number-small : All (λ (c : CellNumber). c.number < 2 ^ 32) s.numbers
  number-small i d lt =
      let each = AllPass-from_list_all number_is_formed s.numbers (and_parts _ _ (and_parts (slot_head_is_formed s) (memory_is_formed s s.memory) formed.form).0).1 i d lt in
      ltb-true (get_or s.numbers i d).number (2 ^ 32) (and_parts (ltb (get_or s.numbers i d).cell (2 ^ 32)) _ each).1

  -- the key of a cell has no more bits than the slot's keys
  key-fits : (n : ℕ) → KeyFits (bits_of_lanes s.keys) s.memory (content n)
  key-fits n = by s.memory
    where
      by : (mem : Memory) → KeyFits (bits_of_lanes s.keys) mem (content_of stage (record s { memory = mem }) n)
      by Without = tt
      by (Exact k p d w ks rs cs) = (shr_below _ (bits_of_lanes s.keys) 8 (slice-lt _ _ (bits_of_lanes s.keys + 8)), refl)
      by (Ternary d ks rs cs) =
          let width = divided_up (bits_of_lanes s.keys) 40 in
          let blocks = blocks_at ks width (n / 2048) in
          let lt = unit_row-lt 40 (tcam_row (λ (r : TcamRow). r.value) stage.trows) (n % 2048) blocks values-small in
          let most : length blocks ≤ width = (let e = length-take width (drop (n / 2048 * width) ks) in omega (arith, e)) in
          wider _ (length blocks * 40) (40 * width) (omega (arith, most)) lt

  module _ (m : SlotMemory) (laid : Laid stage s m) where
    -- a listed cell
    cell-held : (i : ℕ) → i < length s.numbers → HoldsCell s (content (cell_at s.numbers i)) (number_of_cell s.numbers (cell_at s.numbers i)) (cell_at s.numbers i) m
    cell-held i lt =
        let n = cell_at s.numbers i in
        let bytes = laid.listed i lt in
        record {
          occupied = ap (λ (bs : List ℕ). is_occupied (get_or bs 0 0)) bytes;
          entry = λ occupied. record {
            bytes = bytes;
            key = key-fits n;
            held = held-small stage s n;
            number = subst (λ k. k < 2 ^ 32) (sym (number-at s.numbers i (cells-rise stage formed.first s formed.holds) lt)) (number-small i nowhere lt);
          };
        }

    -- and one that isn't
    cell-free : (n : ℕ) → n < cells_in s.memory → is_listed n (cells_of s) ≡ false → HoldsCell s (content n) (number_of_cell s.numbers n) n m
    cell-free n lt off =
        let clear = unlisted-clear stage formed.first s formed.holds n lt off in
        record {
          occupied = ap is_occupied (laid.others n lt (unlisted-place s.numbers n off) ∙ sym clear);
          entry = λ occupied. absurd (false≢true (ap is_occupied (sym clear) ∙ occupied));
        }

    each-held : (n : ℕ) → n < cells_in s.memory → HoldsCell s (content n) (number_of_cell s.numbers n) n m
    each-held n lt =
        elim (cases_Bool (is_listed n (cells_of s))) as (λ _. HoldsCell s (content n) (number_of_cell s.numbers n) n m) [
          | inl there ↦
              let place = listed-place s.numbers n there in
              subst (λ c. HoldsCell s (content c) (number_of_cell s.numbers c) c m) place.is (cell-held place.at place.within)
          | inr off ↦ cell-free n lt off
        ]

    -- a cell that isn't listed is shown by no sight
    not-shown : (sight n : ℕ) → n < cells_in s.memory → Unlisted s.numbers n → (e : Compared) → cond (seen_by sight (content n).head) (Some e) None ≡ None
    not-shown sight n lt apart e =
        elim (cases_Bool (is_listed n (cells_of s))) as (λ _. cond (seen_by sight (content n).head) (Some e) None ≡ None) [
          | inl there ↦ let place = listed-place s.numbers n there in absurd (apart place.at place.within place.is)
          | inr off ↦ ap (λ h. cond (seen_by sight h) (Some e) None) (unlisted-clear stage formed.first s formed.holds n lt off)
        ]

    vectors-held : (keys : Keys) → VectorsLaid stage s keys → VectorsHold (divided_up (bits_of_lanes s.keys) 40) (cells_in s.memory) content keys
    vectors-held Nothing laid-keys = tt
    vectors-held (InCells ways) laid-keys = tt
    vectors-held (InVectors v) laid-keys = λ sight few.
        let width = divided_up (bits_of_lanes s.keys) 40 in
        laid-keys sight (λ n. cond (seen_by sight (content n).head) (Some (compared_of width (content n))) None) few (λ i lt. refl)
        (λ n lt apart. not-shown sight n lt apart (compared_of width (content n)))

    pub laid-holds : HoldsSlot content (number_of_cell s.numbers) s m
    laid-holds = record { fits = laid.fits; each = each-held; vectors = vectors-held m.keys laid.vectors }
