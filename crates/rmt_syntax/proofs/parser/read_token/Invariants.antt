use Rattle.rmt_syntax.proofs.Words.{weight, Before, goals_of}
use Rattle.rmt_syntax.proofs.parser.read_token.Given as goal

abbrev pub invariant-loop-wanted : goal.invariant-loop-wanted
invariant-loop-wanted l = Before l.tokens l.at l.reader

abbrev pub decreases-loop-wanted : goal.decreases-loop-wanted
decreases-loop-wanted l = weight (goals_of l.reader)
