use Rattle.std.proofs.Common.{sym, ap, ◌∙◌}
use Rattle.std.specs.List.{list_any}
use Rattle.rmt_ptcam.specs.Needs.{touches}
use Rattle.rmt_ptcam.proofs.NeedLaws.{any_here, any_later, any_end}
use Rattle.rmt_ptcam.proofs.plain.headers.is_looked_up.Goals as goal

pub loop-field-init : goal.loop-field-init
loop-field-init c = ap (list_any (touches c.args.program.now c.args.header.now c.args.byte)) (sym c.as_slice-field-items.ensures)

pub returns-then-touches : goal.returns-then-touches
returns-then-touches c =
    let t = touches c.args.program.now c.args.header.now c.args.byte in
    sym (c.loop-field.invariant ∙ any_here t c.as_slice-field-items.result.now c.loop-field.field-index c.loop-field-test.true (sym c.touches.ensures ∙ c.if-touches.true))

pub loop-field-preserved : goal.loop-field-preserved
loop-field-preserved c =
    let t = touches c.args.program.now c.args.header.now c.args.byte in
    c.loop-field.invariant ∙ any_later t c.as_slice-field-items.result.now c.loop-field.field-index c.loop-field-test.true (sym c.touches.ensures ∙ c.if-touches.false)

pub returns : goal.returns
returns c =
    let t = touches c.args.program.now c.args.header.now c.args.byte in
    sym (c.loop-field.invariant ∙ any_end t c.as_slice-field-items.result.now c.loop-field.field-index c.loop-field-test.false)
