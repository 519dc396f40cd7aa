use Rattle.std.proofs.Common.{◌≡◌, true, take}
use Rattle.std.specs.Prelude.{slice_index}
use Rattle.rmt_config.specs.Life.{gate_passes}
use Rattle.rmt_chip.proofs.keys.all_pass.Given as goal

abbrev pub invariant-loop-test : goal.invariant-loop-test
invariant-loop-test l = gate_passes (λ w. slice_index l.fn.vector w) (take l.test-index l.tests) ≡ true
