use Rattle.std.proofs.Common.{◌≡◌, ◌+◌, length, subst, sym, arith}
use Rattle.rmt_ast.specs.Changes.{list_of}
use Rattle.rmt_update.specs.Loads.{IsTriedAt, StandUpto, table_of}
use Rattle.rmt_update.proofs.LoadedLaws.{none-upto, upto-more}
use Rattle.rmt_update.proofs.book.loading.try_seed.Goals as goal

pub loop-node-init : goal.loop-node-init
loop-node-init c = subst (StandUpto c.args.tables.now c.args.entries.now c.args.seed 0) (sym c.new-spots.ensures) (none-upto c.args.tables.now c.args.entries.now c.args.seed)

pub loop-node-preserved : goal.loop-node-preserved
loop-node-preserved c =
    let tables = c.args.tables.now in
    let lists = c.args.entries.now in
    let n = c.loop-node.node in
    let here = subst (IsTriedAt c.args.seed (list_of lists n) (table_of tables n)) c.in-Stand.is c.in_ok-own.ensures in
    subst (StandUpto tables lists c.args.seed (n + 1)) (sym c.in_ok-push-in-Stand.ensures.ok) (upto-more tables lists c.args.seed n c.loop-node.spots c.in-Stand.own c.loop-node.invariant here)

pub returns-in-Overfull : goal.returns-in-Overfull
returns-in-Overfull c =
    let tables = c.args.tables.now in
    let lists = c.args.entries.now in
    let n = c.loop-node.node in
    record {
      spots = c.loop-node.spots;
      before = c.loop-node.invariant;
      here = subst (IsTriedAt c.args.seed (list_of lists n) (table_of tables n)) c.in-Overfull.is c.in_ok-own.ensures;
    }

pub returns : goal.returns
returns c =
    let lists = c.args.entries.now in
    let low = c.loop-node-test.false in
    let high = c.loop-node.auto.node-end in
    let len = c.len-node-end.ensures in
    let all : c.loop-node.node ≡ length lists = omega (arith, low, high, len) in
    subst (λ n. StandUpto c.args.tables.now lists c.args.seed n c.loop-node.spots) all c.loop-node.invariant
