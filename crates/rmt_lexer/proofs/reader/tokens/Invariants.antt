use Rattle.std.proofs.Common.{◌≡◌, ◌+◌, ◌≤◌, length}
use Rattle.rmt_lexer.specs.Text.{reading, tokens_of}
use Rattle.rmt_lexer.proofs.Reading.{fronts}
use Rattle.rmt_lexer.proofs.reader.tokens.Given as goal

abbrev pub invariant-loop-rest : goal.invariant-loop-rest
invariant-loop-rest l = record {
  told : tokens_of l.text ≡ fronts l.tokens.items (reading 0 l.place l.rest);
  line : l.place.line + length l.rest ≤ 4294967295;
  column : l.place.column + length l.rest ≤ 4294967295;
}

abbrev pub decreases-loop-rest : goal.decreases-loop-rest
decreases-loop-rest l = length l.rest
