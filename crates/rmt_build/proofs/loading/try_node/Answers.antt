use Rattle.std.proofs.Common.{◌≡◌, ◌∙◌, ◌<◌, IfOk, List, Some, length, ap, subst, sym, arith}
use Rattle.std.specs.Prelude.{slice_index_or}
use Rattle.std.proofs.lemmas.List.{get_or_default, length-map}
use Rattle.rmt_ast.specs.declared.program.Node.{Node}
use Rattle.rmt_ast.specs.EntryLists.{AreTableEntries, terms_of}
use Rattle.rmt_pack.specs.declared.format.Format.{Format}
use Rattle.rmt_pack.specs.Formats.{no_memory}
use Rattle.rmt_pack.specs.Placements.{what_format}
use Rattle.rmt_refine.specs.Outcomes.{entries_at}
use Rattle.rmt_refine.specs.Units.{table_at}
use Rattle.rmt_build.specs.Tries.{StandOrFull}
use Rattle.rmt_build.proofs.TriedLaws.{list_is}
use Rattle.rmt_refine.proofs.OutcomeLaws.{own_entries}
use Rattle.rmt_build.proofs.loading.try_node.Goals as goal

pub try_table-requires-clause-own : goal.try_table-requires-clause-own
try_table-requires-clause-own c =
    let p = c.args.placed.now.program.now in
    let at : table_at p c.args.node ≡ Some c.in-Some.table.now = sym c.in-Some.ensures in
    let own : c.as_slice-own.result.now ≡ entries_at c.args.placed.now.entries.now c.args.node =
    c.as_slice-own.ensures ∙ list_is p c.args.placed.now.entries.now c.args.node c.as_slice.result.now c.index-as_slice-node.result c.requires.placed.entries c.requires.node c.as_slice.ensures c.index-as_slice-node.is in
    let formats = c.args.placed.now.formats.now in
    let by_rule = c.requires.placed.by_rule in
    let many = length-map p.nodes (λ (node : Node). what_format p node.what) in
    let all = ap (λ (fs : List Format). length fs) by_rule in
    let inside : c.args.node < length formats = omega (arith, all, many, c.requires.node) in
    record {
      table = at;
      entries = subst (λ es. AreTableEntries c.args.node es (terms_of p c.in-Some.table.now)) (sym own) (own_entries p c.args.placed.now.entries.now c.args.node c.in-Some.table.now c.requires.placed.entries at);
      by_rule = get_or_default formats c.args.node _ no_memory inside ∙ ap (λ (fs : List Format). slice_index_or fs c.args.node no_memory) by_rule;
    }

pub returns : goal.returns
returns c =
    let p = c.args.placed.now.program.now in
    let at : table_at p c.args.node ≡ Some c.in-Some.table.now = sym c.in-Some.ensures in
    let own : c.as_slice-own.result.now ≡ entries_at c.args.placed.now.entries.now c.args.node =
    c.as_slice-own.ensures ∙ list_is p c.args.placed.now.entries.now c.args.node c.as_slice.result.now c.index-as_slice-node.result c.requires.placed.entries c.requires.node c.as_slice.ensures c.index-as_slice-node.is in
    subst (λ es. IfOk c.try_table.result (StandOrFull p c.args.placed.now.parts.now c.args.seed c.args.node es (table_at p c.args.node))) own
    (subst (λ o. IfOk c.try_table.result (StandOrFull p c.args.placed.now.parts.now c.args.seed c.args.node c.as_slice-own.result.now o)) (sym at) c.try_table.ensures)
