use Rattle.rmt_syntax.proofs.Words.{Before}
use Rattle.rmt_syntax.proofs.parser.syntax.Given as goal

abbrev pub invariant-loop-at : goal.invariant-loop-at
invariant-loop-at l = Before l.tokens.items l.at l.reader
