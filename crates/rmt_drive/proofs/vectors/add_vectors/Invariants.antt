-- The lines so far, and those of the ages that are left, are all.
use Rattle.std.proofs.Common.{◌≡◌, ◌+◌, ◌≤◌, ◌++◌, List}
use Rattle.rmt_config.specs.declared.config.Config.{Config}
use Rattle.rmt_config.specs.ChipRun.{latency_of}
use Rattle.rmt_config.specs.RunInputs.{Input}
use Rattle.rmt_chip.specs.Stands.{Stands}
use Rattle.rmt_drive.specs.ChipText.{flying_below}
use Rattle.rmt_drive.proofs.vectors.add_vectors.Given as goal

abbrev pub invariant-loop-below : goal.invariant-loop-below
invariant-loop-below l = record {
  within : l.below ≤ 65536;
  lines : (c : Config) (made : List Input) → Stands c made l.chip → l.text.items ++ flying_below c made l.below ≡ l.initial.text.items ++ flying_below c made (latency_of c.stages + 1);
}

abbrev pub decreases-loop-below : goal.decreases-loop-below
decreases-loop-below l = l.below
