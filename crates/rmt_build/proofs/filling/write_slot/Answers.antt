use Rattle.std.proofs.Common.{◌≡◌, ℕ, List, Some, get_or, length, ◌∙◌, subst, sym, ap, arith}
use Rattle.std.specs.Prelude.{slice_get}
use Rattle.std.proofs.lemmas.Option.{none-some, same_Some}
use Rattle.rmt_ast.specs.declared.entry.Entry.{Entry}
use Rattle.rmt_pack.specs.Placements.{data_bits, key_bits}
use Rattle.rmt_pack.specs.Rows.{blocks_of}
use Rattle.rmt_filling.specs.declared.stands.Stand.{Stand}
use Rattle.rmt_filling.specs.Holding.{Held}
use Rattle.rmt_build.specs.HeldParts.{PartHolds}
use Rattle.rmt_filling.specs.Listing.{masks_of, values_of}
use Rattle.rmt_build.specs.Types.{Program, Node, Table}
use Rattle.rmt_config.specs.Cells.{cells_in}
use Rattle.rmt_filling.specs.Rooms.{AreOf, HasBlocks, StandApart}
use Rattle.rmt_refine.specs.Units.{applied, table_at}
use Rattle.rmt_build.specs.Plans.{stands_of_part}
use Rattle.rmt_build.proofs.PlanLaws.{is_table}
use Rattle.rmt_build.proofs.UnitsLaws.{applied-here, below}
use Rattle.rmt_build.proofs.filling.write_slot.Goals as goal

pub returns-clause-written : goal.returns-clause-written
returns-clause-written c =
    let fits = c.requires.slot in
    absurd (none-some fits.table (c.in_default.ensures ∙ applied-here c.args.planned.now.program.now c.as_slice.result.now c.args.slot.now.node _ fits.table c.as_slice.ensures fits.is_table))

-- the list that is read at a place of other lists with the same items
list-there : (lists xs : List (List Entry)) (n : ℕ) (list es own : List Entry) → own ≡ list → list ≡ get_or xs n list → xs ≡ lists → slice_get lists n ≡ Some es → own ≡ es
list-there lists xs n list es own is at same found = is ∙ at ∙ ap (λ (ys : List (List Entry)). get_or ys n list) same ∙ (below lists n es found).1 list

-- the table that is found
table-there : (p : Program) (nodes : List Node) (n : ℕ) (node : Node) (t own : Table) → nodes ≡ p.nodes → table_at p n ≡ Some t → Some own ≡ applied p (get_or nodes n node).what → own ≡ t
table-there p nodes n node t own same found is = same_Some own t (is ∙ applied-here p nodes n node t same found)

pub write_part-requires : goal.write_part-requires
write_part-requires c =
    let fits = c.requires.slot in
    let p = c.args.planned.now.program.now in
    let slot = c.args.slot.now in
    let n = slot.node in
    let own = c.as_slice-own.result.now in
    let same_table = table-there p c.as_slice.result.now n _ fits.table c.in-Some.table.now c.as_slice.ensures fits.is_table c.in-Some.ensures in
    let same_own = list-there c.args.planned.now.entries.now _ n _ fits.entries own c.as_slice-own.ensures c.index-as_slice-node.is c.as_slice-in-Some.ensures fits.is_entries in
    record {
      part = record {
        program = c.requires.planned.program;
        table = is_table p c.requires.planned.program n c.in-Some.table.now (fits.is_table ∙ ap Some (sym same_table));
        entries = subst (λ (x : Table). AreOf p x own) (sym same_table) (subst (AreOf p fits.table) (sym same_own) fits.of_table);
        few = let few = c.requires.few in let actions = fits.actions ∙ ap (λ (x : Table). length x.actions) (sym same_table) in omega (arith, few, actions);
      };
      blocks = subst (λ (x : Table). HasBlocks p x slot.memory) (sym same_table) fits.blocks;
      stands = subst (λ (xs : List Stand). StandApart (length own) (cells_in slot.memory) xs) (sym (c.as_slice-stands.ensures ∙ c.in_ok-stands.ensures))
          (subst (λ (x : Table). StandApart (length own) (cells_in slot.memory) (stands_of_part p c.args.planned.now.plan.now x n c.args.planned.now.stage)) (sym same_table)
          (subst (λ (es : List Entry). StandApart (length es) (cells_in slot.memory) (stands_of_part p c.args.planned.now.plan.now fits.table n c.args.planned.now.stage)) (sym same_own) fits.stands));
      zeros = c.requires.zeros;
      zero_values = c.requires.zero_values;
      zero_masks = c.requires.zero_masks;
    }

pub returns-in-Some-clause-written : goal.returns-in-Some-clause-written
returns-in-Some-clause-written c =
    let fits = c.requires.slot in
    let p = c.args.planned.now.program.now in
    let t = c.in-Some.table.now in
    let own = c.as_slice-own.result.now in
    let h : Held = record { sram = blocks_of c.write_part.new.sram; values = values_of c.write_part.new.tcam; masks = masks_of c.write_part.new.tcam } in
    record {
      table = t;
      entries = own;
      is_table = fits.is_table ∙ ap Some (sym (table-there p c.as_slice.result.now c.args.slot.now.node _ fits.table t c.as_slice.ensures fits.is_table c.in-Some.ensures));
      is_entries = fits.is_entries
          ∙ ap Some (sym (list-there c.args.planned.now.entries.now _ c.args.slot.now.node _ fits.entries own c.as_slice-own.ensures c.index-as_slice-node.is c.as_slice-in-Some.ensures fits.is_entries));
      part = subst (λ (xs : List Stand). PartHolds p t own xs c.args.first (key_bits p t) (data_bits p t) h c.args.slot.now.memory) (c.as_slice-stands.ensures ∙ c.in_ok-stands.ensures) c.in_ok-write_part.ensures.holds;
    }
