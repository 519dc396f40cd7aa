use Rattle.std.proofs.Common.{◌≡◌, ◌+◌, ◌≤◌, take, fold}
use Rattle.rmt_lexer.specs.Text.{behind}
use Rattle.rmt_lexer.specs.declared.position.Position.{Position}
use Rattle.rmt_lexer.proofs.position.moved.Given as goal

abbrev pub invariant-loop-byte : goal.invariant-loop-byte
invariant-loop-byte l = record {
  place : ◌≡◌ {A = Position} (record { line = l.line; column = l.column }) (fold behind l.fn.place (take l.byte-index l.bytes));
  line : l.line ≤ l.fn.place.line + l.byte-index;
  column : l.column ≤ l.fn.place.column + l.byte-index;
}
