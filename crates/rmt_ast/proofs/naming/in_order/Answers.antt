use Rattle.std.proofs.Common.{◌≡◌, ◌∙◌, [], drop}
use Rattle.std.proofs.lemmas.List.{drop_all}
use Rattle.rmt_ast.specs.RankPairs.{pairs_with}
use Rattle.rmt_ast.proofs.RankLaws.{pairs-ranks_in}
use Rattle.rmt_ast.proofs.naming.in_order.Goals as goal

pub returns : goal.returns
returns c =
    let none : drop c.loop-entry.entry-index c.args.entries.now ≡ [] = drop_all c.loop-entry.entry-index c.args.entries.now c.loop-entry-test.false in
    let was : pairs_with c.loop-entry.set.keys [] ≡ pairs_with [] c.args.entries.now = rw none at c.loop-entry.invariant in
    was ∙ pairs-ranks_in c.args.entries.now
