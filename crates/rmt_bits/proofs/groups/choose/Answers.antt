use Rattle.std.proofs.Common.{ℕ, List, subst, ◌∙◌, arith}
use Rattle.rmt_bits.specs.Places.{HasPut}
use Rattle.rmt_bits.proofs.GroupLaws.{begin_indexed}
use Rattle.rmt_bits.proofs.groups.choose.Goals as goal

pub returns : goal.returns
returns c =
    begin_indexed c.args.masks.items c.args.at c.args.grouping.now _ c.group_of.result c.len-number.result
    c.group_of.ensures.masks c.group_of.ensures.first c.group_of.ensures.empty
    (omega (arith, c.args.grouping.now.groups.ok.0, c.len-number.ensures))
    c.in_ok-push.ensures.items
    (subst (λ (ms : List ℕ). HasPut ms c.len-number.result c.args.grouping.now.index c.put_place.new.places) (c.in_ok-name.ensures.items ∙ c.deref-2.ensures.value) c.in_ok-put_place.ensures)
