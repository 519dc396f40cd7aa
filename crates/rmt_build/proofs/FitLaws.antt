-- The entries of the slots of a plan can be written.
use Rattle.std.proofs.Common.{◌≡◌, ℕ, ◌<◌, List, [], Some, length, refl, sym, ap, subst, ◌∙◌, arith, map}
use Rattle.std.specs.Prelude.{Option, option_map, slice_get, slice_index_or}
use Rattle.std.proofs.lemmas.Option.{get_or_from_slice_get, slice_get-map}
use Rattle.rmt_bits.proofs.ListLaws.{slice_get-alike}
use Rattle.rmt_build.specs.Types.{Program, Table, Node, What, SlotUnit}
use Rattle.rmt_ast.specs.declared.entry.Entry.{Entry}
use Rattle.rmt_ast.specs.EntryLists.{AreEntries, AreEntriesAt, terms_at, terms_of}
use Rattle.rmt_ast.specs.WellFormed.{IsProgram}
use Rattle.rmt_config.specs.Cells.{cells_in}
use Rattle.rmt_pack.specs.Placements.{quanta_in}
use Rattle.rmt_refine.specs.Units.{table_at}
use Rattle.rmt_pack.proofs.PartLaws.{and_at}
use Rattle.rmt_filling.specs.declared.plan.Plan.{Plan}
use Rattle.rmt_filling.specs.declared.stands.Stand.{Stand}
use Rattle.rmt_filling.specs.Memories.{memory_for}
use Rattle.rmt_build.specs.Plans.{IsPlan, need_in, quanta_before, stands_of_part, taken_upto}
use Rattle.rmt_filling.specs.Formats.{format_at}
use Rattle.rmt_filling.specs.Rooms.{AreOf, HasBlocks, StandApart}
use Rattle.rmt_filling.specs.EntryCells.{cells_for, stands_within}
use Rattle.rmt_build.specs.Written.{SlotFits}
use Rattle.rmt_filling.proofs.ApartLaws.{part-apart}
use Rattle.rmt_build.proofs.PlanLaws.{has_need, has_room, is_format}
use Rattle.rmt_filling.proofs.RoomLaws.{room-blocks}
use Rattle.rmt_build.proofs.UnitLaws.{node_applies}
use Rattle.rmt_build.proofs.MemoryLaws.{memory_cells}

module _ (p : Program) (lists : List (List Entry)) (plan : Plan) (k : ℕ) (good : IsProgram p) (entries : AreEntries p lists) (is : IsPlan p lists plan) (few : k < 32) where
  pub of-table : (n : ℕ) (t : Table) (es : List Entry) → table_at p n ≡ Some t → slice_get lists n ≡ Some es → AreOf p t es
  of-table n t es table own =
      let a = node_applies p n t table in
      let terms = map (λ (x : Node). terms_at p x.what) p.nodes in
      let known : slice_get terms n ≡ Some (Some (terms_of p t)) =
      slice_get-map (λ (x : Node). terms_at p x.what) p.nodes n ∙ ap (option_map (λ (x : Node). terms_at p x.what)) a.at
      ∙ ap (λ (w : What). Some (terms_at p w)) a.does ∙ ap (λ (o : Option Table). Some (option_map (terms_of p) o)) a.table in
      (n, (and_at (slice_get terms n) (AreEntriesAt n es) (Some (terms_of p t)) known (entries.each n es own)).each)

  pub slot-fits : (slot : SlotUnit) (t : Table) (es : List Entry) → table_at p slot.node ≡ Some t → slice_get lists slot.node ≡ Some es → slot.actions ≡ length t.actions
      → slot.memory ≡ memory_for t.kind (need_in p plan.placement.parts t slot.node k) (taken_upto p plan.placement.parts k slot.node) → 0 < quanta_in plan.placement.parts slot.node k → SlotFits p lists plan k slot
  slot-fits slot t es table own actions memory some =
      let n = slot.node in
      let need = need_in p plan.placement.parts t n k in
      let taken = taken_upto p plan.placement.parts k n in
      record {
        table = t;
        entries = es;
        is_table = table;
        is_entries = own;
        of_table = of-table n t es table own;
        actions = actions;
        blocks = subst (HasBlocks p t) (sym memory)
            (room-blocks p t need taken refl refl (omega (arith, some)) (has_need p good n t table) (is_format p good n t table) (λ keyed. has_room p good n t table plan.placement.parts k is.parts keyed few));
        stands = subst (λ m. StandApart (length es) (cells_in m) (stands_of_part p plan t n k)) (sym memory)
            (subst (λ many. StandApart (length es) many (stands_of_part p plan t n k)) (sym (memory_cells t.kind need taken)) (stands_apart n t es own));
      }
    where
      stands_apart : (n : ℕ) (t : Table) (es : List Entry) → slice_get lists n ≡ Some es → StandApart (length es) (cells_for t.kind (format_at p n).per (quanta_in plan.placement.parts n k)) (stands_of_part p plan t n k)
      stands_apart n t es own =
          let cells = cells_for t.kind (format_at p n).per in
          let there = slice_get-alike lists plan.stands n es is.stands.all_there own in
          let same : slice_index_or plan.stands n [] ≡ there.0 = get_or_from_slice_get plan.stands n there.0 [] there.1 in
          subst (λ (xs : List Stand). StandApart (length es) (cells (quanta_in plan.placement.parts n k)) (stands_within (cells (quanta_before plan.placement.parts n k)) (cells (quanta_in plan.placement.parts n k)) xs)) (sym same)
          (part-apart (length es) (cells (quanta_before plan.placement.parts n k)) (cells (quanta_in plan.placement.parts n k)) there.0 (is.stands.each n es there.0 own there.1))
