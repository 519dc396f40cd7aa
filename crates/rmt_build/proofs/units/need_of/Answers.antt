use Rattle.std.proofs.Common.{◌∙◌, ap, arith}
use Rattle.rmt_pack.specs.Placements.{quanta_in}
use Rattle.rmt_pack.proofs.NeedLaws.{key-small}
use Rattle.rmt_build.specs.Plans.{parts_before}
use Rattle.rmt_build.proofs.PlanLaws.{few_in, format_seen, is_table, need_same}
use Rattle.rmt_build.proofs.units.need_of.Goals as goal

pub overflow_cast-result-2 : goal.overflow_cast-result-2
overflow_cast-result-2 c =
    let parts = c.args.own.now.planned.now.plan.now.placement.parts in
    let few = few_in c.args.own.now.planned.now.program.now c.requires.planned.program c.args.own.now.node c.args.own.now.table.now c.requires.table parts c.args.own.now.planned.now.stage c.requires.planned.is_plan.parts c.requires.key in
    let same = c.quanta_in.ensures ∙ ap (λ ps. quanta_in ps c.args.own.now.node c.args.own.now.planned.now.stage) c.as_slice-parts.ensures in
    omega (arith, few, same)

pub key_bits-requires : goal.key_bits-requires
key_bits-requires c = key-small c.args.own.now.planned.now.program.now c.args.own.now.table.now (is_table c.args.own.now.planned.now.program.now c.requires.planned.program c.args.own.now.node c.args.own.now.table.now c.requires.table)

pub returns : goal.returns
returns c =
    let n = c.args.own.now.node in
    let k = c.args.own.now.planned.now.stage in
    let format = format_seen c.args.own.now.planned.now.program.now c.requires.planned.program n c.args.own.now.table.now c.requires.table c.as_slice.result.now (record { width = 0; per = 0; quanta = 0; sram = 0; tcam = 0 }) (c.as_slice.ensures ∙ c.requires.planned.is_plan.formats) in
    need_same _ _ _ _ _ _ _ _ _ _ c.args.own.now.table.now.counted format
    (c.quanta_in.ensures ∙ ap (λ ps. quanta_in ps n k) c.as_slice-parts.ensures)
    (c.parts_before.ensures.parts ∙ ap (λ ps. parts_before ps n k) c.as_slice-parts.ensures)
    c.key_bits.ensures c.held_bits.ensures.bits
