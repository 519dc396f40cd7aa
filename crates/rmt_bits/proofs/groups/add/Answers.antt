use Rattle.std.proofs.Common.{refl, subst, arith}
use Rattle.rmt_bits.specs.declared.groups.Group.{Group}
use Rattle.rmt_bits.specs.Grouping.{PutAt}
use Rattle.rmt_bits.proofs.GroupLaws.{put_indexed, chosen_within}
use Rattle.rmt_bits.proofs.groups.add.Goals as goal

pub returns-in_ok-put : goal.returns-in_ok-put
returns-in_ok-put c = λ es size ix.
    let chosen = c.in_ok-number.ensures es size ix in
    let grouping = c.choose.new.grouping in
    let k = c.in_ok-number.number in
    put_indexed es (record { masks = c.args.masks.items; values = c.args.values.items }) c.args.at k grouping _ c.index_mut.result.now c.put.new.group size
    chosen
    (chosen_within grouping.groups.items k c.args.masks.items chosen.1)
    (subst (λ (g : Group). PutAt c.args.values.items c.args.at g c.put.new.group) c.index_mut.ensures.value c.in_ok-put.ensures)
    refl refl

pub returns-else-number-len : goal.returns-else-number-len
returns-else-number-len c = λ es size ix.
    let chosen = c.in_ok-number.ensures es size ix in
    let within = chosen_within c.choose.new.grouping.groups.items c.in_ok-number.number c.args.masks.items chosen.1 in
    let few = c.if-number-len.false in
    absurd (omega (arith, c.choose.new.grouping.groups.ok.0, c.len.ensures))
