use Rattle.std.proofs.Common.{◌≡◌, ◌++◌, ◌∙◌, None, Some, length, ap, sym, append_assoc, arith}
use Rattle.std.specs.List.{flat_map, range_with_len}
use Rattle.std.proofs.lemmas.List.{append-nil}
use Rattle.rmt_refine.specs.Units.{table_at}
use Rattle.rmt_build.specs.Planned.{part_planned}
use Rattle.rmt_filling.proofs.ListLaws.{flat_range_more}
use Rattle.rmt_build.proofs.PlannedLaws.{node_of_gate, node_of_table, table_seen}
use Rattle.rmt_build.proofs.told.push_node.Goals as goal

pub returns-in_default : goal.returns-in_default
returns-in_default c =
    let p = c.args.whole.now.program.now in
    let n = c.args.node in
    let cells = c.args.cells.now in
    let none : table_at p n ≡ None = sym (c.in_default.ensures ∙ sym (table_seen p c.args.whole.now.entries.now c.args.whole.now.plan.now c.as_slice-nodes.result.now n _ c.as_slice-nodes.ensures c.requires.node)) in
    sym (ap (λ xs. cells ++ xs) (node_of_gate p c.args.whole.now.entries.now c.args.whole.now.plan.now n none) ∙ append-nil cells)

pub push_part-requires-clause-table : goal.push_part-requires-clause-table
push_part-requires-clause-table c =
    sym (c.in-Some.ensures ∙ sym (table_seen c.args.whole.now.program.now c.args.whole.now.entries.now c.args.whole.now.plan.now c.as_slice-nodes.result.now c.args.node _ c.as_slice-nodes.ensures c.requires.node))

pub push_part-requires-clause-planned : goal.push_part-requires-clause-planned
push_part-requires-clause-planned c = record {
  program = c.requires.program;
  entries = c.requires.entries;
  is_plan = c.requires.plan;
  stage = omega (arith, c.loop-stage-test.true, c.loop-stage.auto.stage-end, c.len-stage-end.ensures, c.requires.stages);
}

pub loop-stage-preserved : goal.loop-stage-preserved
loop-stage-preserved c =
    let own = part_planned c.args.whole.now.program.now c.args.whole.now.entries.now c.args.whole.now.plan.now c.in-Some.table.now c.args.node in
    let k = c.loop-stage.stage in
    let cells = c.args.cells.now in
    c.in_ok-push_part.ensures ∙ (ap (λ xs. xs ++ own k) c.loop-stage.invariant ∙ (rw append_assoc (ap (λ xs. cells ++ xs) (sym (flat_range_more own k)))))

pub returns : goal.returns
returns c =
    let p = c.args.whole.now.program.now in
    let lists = c.args.whole.now.entries.now in
    let plan = c.args.whole.now.plan.now in
    let n = c.args.node in
    let t = c.in-Some.table.now in
    let cells = c.args.cells.now in
    let is : table_at p n ≡ Some t = sym (c.in-Some.ensures ∙ sym (table_seen p lists plan c.as_slice-nodes.result.now n _ c.as_slice-nodes.ensures c.requires.node)) in
    let all : c.loop-stage.stage ≡ length plan.starts = omega (arith, c.loop-stage-test.false, c.loop-stage.auto.stage-end, c.len-stage-end.ensures) in
    c.loop-stage.invariant
    ∙ ap (λ m. cells ++ flat_map (part_planned p lists plan t n) (range_with_len 0 m)) all
    ∙ ap (λ xs. cells ++ xs) (sym (node_of_table p lists plan n t is))
