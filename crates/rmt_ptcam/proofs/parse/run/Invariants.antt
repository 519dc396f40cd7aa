use Rattle.std.proofs.Common.{◌≡◌, ◌≤◌, ◌-◌, length}
use Rattle.rmt_config.specs.Parser.{parse as parse_of, parse_from}
use Rattle.rmt_ptcam.specs.Parsing.{standing}
use Rattle.rmt_ptcam.proofs.parse.run.Given as goal

abbrev pub invariant-loop-k : goal.invariant-loop-k
invariant-loop-k l = record {
  within : l.cursor ≤ length l.frame;
  rest : parse_of l.parser l.frame ≡ parse_from (length l.parser.states - l._k) l.parser l.frame l.state (standing l.vector l.tails l.cursor);
}
