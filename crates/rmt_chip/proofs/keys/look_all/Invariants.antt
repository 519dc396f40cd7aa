use Rattle.std.proofs.Common.{◌≡◌, ◌<◌, ℕ, get_or}
use Rattle.std.specs.Prelude.{slice_index}
use Rattle.rmt_chip.specs.Types.{Unit}
use Rattle.rmt_config.specs.Life.{Look}
use Rattle.rmt_memory.specs.declared.looked.Looked.{Looked}
use Rattle.rmt_memory.specs.Looked.{HaveRoom, LookedFor}
use Rattle.rmt_config.specs.RunCells.{RunCells}
use Rattle.rmt_memory.specs.Memory.{StageHeld}
use Rattle.rmt_chip.specs.Looks.{LooksInto}
use Rattle.rmt_chip.proofs.keys.look_all.Given as goal

abbrev pub invariant-loop-at : goal.invariant-loop-at
invariant-loop-at l = record {
  room : HaveRoom l.stage l.into;
  so_far : (cells : RunCells) (look : Look) (k : ℕ) → StageHeld cells k l.stage l.memories → cells.seed ≡ l.sight.seed → LooksInto l.sight.named l.sight.version cells l.stage look k →
      (i : ℕ) (u : Unit) (d : Looked) → i < l.at → LookedFor look k i (λ w. slice_index l.vector w) (get_or l.stage.units i u) (get_or l.into i d);
}
