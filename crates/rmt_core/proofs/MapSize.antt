-- The map of what was built, with its joins, fits the places that a map has for its numbers, and is spelled with few bytes.
use Rattle.std.proofs.Common.{◌≡◌, ℕ, ◌+◌, ◌*◌, ◌^◌, ◌<◌, ◌≤◌, List, ◌++◌, None, length, get_or, length-append, sym, ap, subst, arith}
use Rattle.std.specs.Prelude.{All, codes, true}
use Rattle.std.proofs.lemmas.Bool.{ltb-true}
use Rattle.std.proofs.lemmas.List.{length-map}
use Rattle.std.proofs.lemmas.List.Elements.{All-map, All-weaker}
use Rattle.std.proofs.lemmas.List.Sums.{AllPass-from_list_all}
use Rattle.rmt_core.specs.Types.{Program, Config, Stage}
use Rattle.rmt_ast.specs.declared.entry.Entry.{Entry}
use Rattle.rmt_ast.specs.WellFormed.{IsProgram}
use Rattle.rmt_bits.specs.declared.lane.Lane.{Lane}
use Rattle.rmt_config.specs.CellForm.{entry_numbers}
use Rattle.rmt_config.specs.Form.{Formed, visible_with}
use Rattle.rmt_config.specs.Limits.{IsWithinLimits}
use Rattle.rmt_config.specs.Spelling.{spelled_lane, spelled_list16, spelled_list32, spelled_list8, two_bytes}
use Rattle.rmt_config.specs.StageForm.{stage_is_formed}
use Rattle.rmt_config.proofs.CountsLemmas.{stages_of_items}
use Rattle.rmt_config.proofs.LimitLaws.{limits_kept}
use Rattle.rmt_entries.proofs.LawLists.{entries_law}
use Rattle.rmt_ptcam.specs.Joins.{joins}
use Rattle.rmt_ptcam.specs.Needs.{refusal}
use Rattle.rmt_ptcam.proofs.JoinsCount.{joins_few}
use Rattle.rmt_ptcam.proofs.PlainForm.{plain_keeps}
use Rattle.rmt_refine.specs.declared.map.CellOf.{CellOf}
use Rattle.rmt_refine.specs.declared.map.Map.{Map}
use Rattle.rmt_refine.specs.Carries.{Carries}
use Rattle.rmt_verify.specs.Spelling.{CellFits, spelled_cell, spelled_join, spelled_lanes, spelled_lists, spelled_map, spelled_part}
use Rattle.rmt_core.specs.declared.placer.Placer.{Placer}
use Rattle.rmt_core.specs.Compiling.{IsMadeBy}
use Rattle.rmt_core.specs.Making.{AreOfTexts}
use Rattle.rmt_core.specs.MapFiles.{HasMapFile, map_file}
use Rattle.rmt_core.proofs.ImageSize.{numbered}
use Rattle.rmt_core.proofs.size.Distinct.{new_few}
use Rattle.rmt_core.proofs.size.Joins.{joins_fit}
use Rattle.rmt_items.proofs.size.Lists.{flat_map_short}
use Rattle.rmt_core.proofs.size.Numbers.{numbers_below}
use Rattle.rmt_core.proofs.size.Parts.{parts_few, parts_fit, placed_keeps}
use Rattle.rmt_core.proofs.size.Places.{are_lanes, lanes_few, places_few}
use Rattle.rmt_items.proofs.size.Stages.{stage_parts}
use Rattle.rmt_core.proofs.size.Told.{cells_few, cells_fit}

-- how many items a map has at most
record HasFew (p : Program) (m : Map) (entries : ℕ) : Type 0 where
  fields : length m.places ≤ 33091
  lanes : All (λ (ls : List Lane). length ls ≤ 5) m.places
  joins : length (joins p m.places) ≤ 256
  parts : length m.placement.parts ≤ 4096
  starts : length m.starts ≤ 32
  cells : length m.cells ≤ entries

field_short : (ls : List Lane) → length ls ≤ 5 → length (spelled_lanes ls) ≤ 16
field_short ls few = let lanes = flat_map_short spelled_lane 3 5 ls few (λ k d lt. omega arith) in omega (arith, lanes)

-- 9 bytes for each cell, and few more
few_bytes : (p : Program) (m : Map) (entries : ℕ) → HasFew p m entries → length (spelled_map (map_file p m)) ≤ 600000 + 9 * entries
few_bytes p m entries few =
    let fields = flat_map_short spelled_lanes 16 33091 m.places few.fields (All-weaker (λ (ls : List Lane). length ls ≤ 5) (λ (ls : List Lane). length (spelled_lanes ls) ≤ 16) field_short m.places few.lanes) in
    let own = flat_map_short spelled_join 3 256 (joins p m.places) few.joins (λ k d lt. omega arith) in
    let parts = flat_map_short spelled_part 4 4096 m.placement.parts few.parts (λ k d lt. omega arith) in
    let starts = flat_map_short two_bytes 2 32 m.starts few.starts (λ k d lt. omega arith) in
    let cells = flat_map_short spelled_cell 9 entries m.cells few.cells (λ k d lt. omega arith) in
    let a = spelled_list32 spelled_lanes m.places in
    let b = spelled_list16 spelled_join (joins p m.places) in
    let c = spelled_list16 spelled_part m.placement.parts in
    let d = spelled_list8 two_bytes m.starts in
    let first = length-append a b in
    let second = length-append (a ++ b) c in
    let third = length-append (a ++ b ++ c) d in
    let fourth = length-append (a ++ b ++ c ++ d) (spelled_list32 spelled_cell m.cells) in
    let whole = length-append (codes "RMTM" ++ two_bytes 1) (spelled_lists (map_file p m)) in
    omega (arith, fields, own, parts, starts, cells, first, second, third, fourth, whole)

module _ (placer : Placer) (p : Program) (lists : List (List Entry)) (m : Map) (c : Config) (program : IsProgram p) (said : AreOfTexts p lists) (carries : Carries p lists m c)
    (made : IsMadeBy placer p lists m c) (formed : Formed c) (within : IsWithinLimits c) where
  stages_formed : All (λ (s : Stage). stage_is_formed s ≡ true) c.stages
  stages_formed = AllPass-from_list_all stage_is_formed c.stages (stages_of_items c formed.items)

  starts_count : length m.starts ≤ 32
  starts_count =
      let same = ap length carries.units.starts_are in
      let count = length-map c.stages (λ (s : Stage). s.start) in
      let limits = limits_kept c within in
      omega (arith, same, count, limits.stages)

  starts_fit : All (λ (start : ℕ). start < 2 ^ 16) m.starts
  starts_fit =
      subst (λ (starts : List ℕ). All (λ (start : ℕ). start < 2 ^ 16) starts) carries.units.starts_are
      (All-map (λ (start : ℕ). start < 2 ^ 16) (λ (s : Stage). s.start) c.stages
      (λ k d lt. ltb-true (get_or c.stages k d).start 65536 (stage_parts (get_or c.stages k d) (stages_formed k d lt)).start))

  -- a cell is told for an entry of the text
  cells_count : 4 * length m.cells ≤ 67108865
  cells_count =
      let entries = numbered p said.entry_text lists program said.says in
      let es = entries.entries in
      let below = numbers_below p lists m c (visible_with c.names) (entries_law p said.entry_text lists program said.says) carries formed.whole.memory (length es) entries.below in
      let numbers = new_few (length es) (entry_numbers c) formed.whole.numbers below in
      let told = cells_few (length p.nodes) c.stages in
      let same = ap length made.layout.cells in
      omega (arith, numbers, told, same, entries.few.few, said.has_short_entries)

  cells_all_fit : All CellFits m.cells
  cells_all_fit =
      let limits = limits_kept c within in
      let few = limits.stages in
      subst (λ (cells : List CellOf). All CellFits cells) (sym made.layout.cells) (cells_fit (length p.nodes) c.stages (omega (arith, few)) stages_formed)

  pub has_map_file : refusal p ≡ None → HasMapFile p m
  has_map_file unrefused =
      let keeps = placed_keeps placer p m.places m.placement.parts program made.placement in
      let apart = carries.places.apart in
      let fields = places_few p m.places program apart in
      let few_joins = joins_few p m.places unrefused (plain_keeps p m.places program apart unrefused) in
      let parts = parts_few (length p.nodes) m.placement.parts program.counts.nodes keeps.parts keeps.apart in
      let few : HasFew p m (length m.cells) = record {
        fields = fields;
        lanes = lanes_few p m.places program apart;
        joins = few_joins;
        parts = parts;
        starts = starts_count;
        cells = omega arith;
      } in
      let bytes = few_bytes p m (length m.cells) few in
      record {
        fits = record {
          fields = omega (arith, fields);
          each_field = are_lanes p m.places program apart;
          joins = omega (arith, few_joins);
          each_join = joins_fit p m.places program;
          parts = omega (arith, parts);
          each_part = parts_fit p m.places m.placement.parts program keeps;
          starts = omega (arith, starts_count);
          each_start = starts_fit;
          cells = omega (arith, cells_count);
          each_cell = cells_all_fit;
        };
        short = omega (arith, bytes, cells_count);
      }
