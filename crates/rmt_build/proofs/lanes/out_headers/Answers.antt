use Rattle.std.proofs.Common.{subst}
use Rattle.rmt_build.specs.Types.{Header}
use Rattle.rmt_refine.specs.Places.{HeaderCarried}
use Rattle.rmt_filling.proofs.ListLaws.{zip_more}
use Rattle.rmt_build.proofs.lanes.out_headers.Goals as goal

pub loop-header-preserved : goal.loop-header-preserved
loop-header-preserved c =
    zip_more (HeaderCarried c.args.places.now) c.args.headers.now c.loop-header.sent c.push.new.self c.loop-header.header-index c.header-item.result c.in_ok-out_header.field-0 c.loop-header-test.true
    c.in_ok-push.ensures.ok c.loop-header.invariant
    (subst (λ (x : Header). HeaderCarried c.args.places.now x c.in_ok-out_header.field-0) c.header-item.is c.in_ok-out_header.ensures)
