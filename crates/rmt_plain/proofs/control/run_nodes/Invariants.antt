use Rattle.std.proofs.Common.{◌≡◌, drop}
use Rattle.rmt_plain.specs.Running.{run_of, run_with}
use Rattle.rmt_plain.proofs.control.run_nodes.Given as goal

abbrev pub invariant-loop-number : goal.invariant-loop-number
invariant-loop-number l =
    run_with l.program l.lookups l.number (drop l.number l.program.nodes) (run_of l.run) ≡ run_with l.program l.lookups 0 l.program.nodes (run_of l.initial.run)
