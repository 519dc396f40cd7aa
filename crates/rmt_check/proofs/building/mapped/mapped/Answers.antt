use Rattle.std.proofs.Common.{sym, subst}
use Rattle.rmt_check.proofs.Finding.{made_more}
use Rattle.rmt_check.proofs.building.mapped.mapped.Goals as goal

pub build-requires : goal.build-requires
build-requires g c = subst (g.U.Build.fits c.args.shared.now) (sym c.item-item.is) (c.requires c.loop-item.item-index c.item-item.result c.loop-item-test.true)

pub loop-item-preserved : goal.loop-item-preserved
loop-item-preserved g c =
    made_more (g.U.Build.meant c.args.shared.now) _ _ c.build.result c.args.items.now c.loop-item.item-index c.item-item.result c.in_ok-add.ensures c.build.ensures c.loop-item-test.true c.item-item.is
    c.loop-item.invariant
