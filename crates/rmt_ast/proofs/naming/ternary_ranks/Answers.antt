use Rattle.std.proofs.Common.{◌∙◌, ap, map}
use Rattle.rmt_ast.specs.Naming.{ranks_in}
use Rattle.rmt_ast.specs.RankPairs.{rank_of_pair}
use Rattle.rmt_ast.proofs.RankLaws.{rank_of_pair-map}
use Rattle.rmt_ast.proofs.naming.ternary_ranks.Goals as goal

pub returns : goal.returns
returns c = c.in_ok-ranks.ensures ∙ ap (map rank_of_pair) c.in_ok-set.ensures ∙ rank_of_pair-map (ranks_in c.args.entries.now)
