use Rattle.std.proofs.Common.{List, ◌++◌, ◌∙◌, ap, arith}
use Rattle.std.specs.List.{flat_map}
use Rattle.std.proofs.lemmas.List.{take_all}
use Rattle.rmt_items.proofs.Appending.{put_more}
use Rattle.rmt_items.proofs.writing.spelled.put_all.Goals as goal

pub loop-item-preserved : goal.loop-item-preserved
loop-item-preserved g c =
    put_more g.T.Spelled.spelling c.args.items.now c.loop-item.item-index c.item-item.result c.args.out.now.items _ _
    c.loop-item-test.true c.item-item.is c.loop-item.invariant c.in_ok-put.ensures

pub returns : goal.returns
returns g c = record {
  put = c.loop-item.invariant
      ∙ ap (λ (items : List _). c.args.out.now.items ++ flat_map g.T.Spelled.spelling items) (take_all c.loop-item.item-index c.args.items.now (omega (arith, c.loop-item-test.false)));
}
