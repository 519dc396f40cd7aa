use Rattle.std.proofs.Common.{◌≡◌, ◌++◌, ◌∙◌, ap, sym, arith}
use Rattle.std.proofs.lemmas.List.{append-nil}
use Rattle.rmt_pack.specs.Placements.{quanta_in}
use Rattle.rmt_build.proofs.EntryCellLaws.{entries_read, list_read}
use Rattle.rmt_build.proofs.PlannedLaws.{part_absent}
use Rattle.rmt_build.proofs.told.push_part.Goals as goal

pub returns-then-quanta_in-eq0 : goal.returns-then-quanta_in-eq0
returns-then-quanta_in-eq0 c =
    let planned = c.args.own.now.planned.now in
    let n = c.args.own.now.node in
    let k = planned.stage in
    let found = c.quanta_in.ensures ∙ ap (λ ps. quanta_in ps n k) c.as_slice-parts.ensures in
    let none : quanta_in planned.plan.now.placement.parts n k ≡ 0 = omega (arith, found, c.if-quanta_in-eq0.true) in
    sym (ap (λ xs. c.args.cells.now ++ xs) (part_absent planned.program.now planned.entries.now planned.plan.now c.args.own.now.table.now n k none) ∙ append-nil c.args.cells.now)

pub numbers_of-requires : goal.numbers_of-requires
numbers_of-requires c =
    let planned = c.args.own.now.planned.now in
    let at = list_read planned.program.now planned.entries.now c.as_slice.result.now c.args.own.now.node c.index-as_slice-node.result c.requires.planned.entries c.requires.node c.as_slice.ensures c.index-as_slice-node.is in
    entries_read planned.program.now planned.entries.now planned.plan.now c.args.own.now.table.now c.args.own.now.node planned.stage c.index-as_slice-node.result c.as_slice-list.result.now
    c.as_slice-2.result.now c.requires.planned.entries c.requires.planned.is_plan c.requires.node at c.as_slice-list.ensures (c.as_slice-2.ensures ∙ c.in_ok-stands.ensures)
