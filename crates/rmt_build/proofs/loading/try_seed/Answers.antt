use Rattle.std.proofs.Common.{◌+◌, ◌<◌, arith, length, subst, sym}
use Rattle.rmt_build.proofs.TriedLaws.{ComesOf, LoadedUpto, is_full, loaded_before, loaded_push}
use Rattle.rmt_build.proofs.loading.try_seed.Goals as goal

pub returns-in-Overfull : goal.returns-in-Overfull
returns-in-Overfull c =
    let p = c.args.placed.now.program.now in
    let lists = c.args.placed.now.entries.now in
    let parts = c.args.placed.now.parts.now in
    let n = c.loop-node.node in
    let within : n < length p.nodes = omega (arith, c.loop-node-test.true, c.len-node-end.ensures) in
    let h = subst (ComesOf p lists parts c.args.seed n) c.in-Overfull.is c.in_ok-own.ensures in
    (is_full p lists parts c.args.seed n c.in-Overfull.members c.in-Overfull.cells c.requires.placed.entries within h, loaded_before p lists parts c.args.seed n c.loop-node.stands c.loop-node.invariant)

pub loop-node-preserved : goal.loop-node-preserved
loop-node-preserved c =
    let placed = c.args.placed.now in
    let here = subst (ComesOf placed.program.now placed.entries.now placed.parts.now c.args.seed c.loop-node.node) c.in-Stand.is c.in_ok-own.ensures in
    subst (LoadedUpto placed.program.now placed.entries.now placed.parts.now c.args.seed (c.loop-node.node + 1)) (sym c.in_ok-push-in-Stand.ensures.ok)
    (loaded_push placed.program.now placed.entries.now placed.parts.now c.args.seed c.loop-node.node c.loop-node.stands c.in-Stand.own c.loop-node.invariant here)
