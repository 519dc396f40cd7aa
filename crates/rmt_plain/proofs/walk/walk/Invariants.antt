use Rattle.std.proofs.Common.{◌≡◌, ◌≤◌, ◌-◌, length}
use Rattle.rmt_ast.specs.Walk as spec
use Rattle.rmt_plain.specs.Walking.{reached_in}
use Rattle.rmt_plain.proofs.walk.walk.Given as goal

abbrev pub invariant-loop-k : goal.invariant-loop-k
invariant-loop-k l = record {
  within : l.reached.at ≤ length l.frame;
  rest : spec.walk_from (length l.program.headers - l._k) l.program l.frame l.number (reached_in l.frame l.reached)
      ≡ spec.walk_from (length l.program.headers) l.program l.frame 0 (reached_in l.frame l.initial.reached);
}
