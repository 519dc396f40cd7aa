use Rattle.std.proofs.Common.{ap, ◌∙◌}
use Rattle.std.specs.Borrow.{Bor}
use Rattle.std.specs.List.{flat_map}
use Rattle.std.proofs.lemmas.List.{take_all}
use Rattle.rmt_check.specs.Parts.{Declared, MetaText}
use Rattle.rmt_check.proofs.Finding.{gathered_item, gathered_list}
use Rattle.rmt_check.proofs.rules.parts.metadata.Goals as goal

pub loop-field-preserved : goal.loop-field-preserved
loop-field-preserved c = gathered_item (λ (f : Bor Declared). f.now) _ _ _ _ _ _ c.in_ok-push.ensures.items c.loop-field-test.true c.field-item.is c.loop-field.invariant

pub loop-meta-preserved : goal.loop-meta-preserved
loop-meta-preserved c =
    gathered_list (λ (f : Bor Declared). f.now) (λ (m : MetaText). m.fields) _ _ _ _ _ _ _ c.loop-field-test.false c.as_slice-field-items.ensures c.loop-meta-test.true c.meta-item.is c.loop-meta.invariant c.loop-field.invariant

pub returns : goal.returns
returns c = c.loop-meta.invariant ∙ ap (flat_map (λ (m : MetaText). m.fields)) (take_all c.loop-meta.meta-index c.args.metas.now c.loop-meta-test.false)
