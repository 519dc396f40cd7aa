use Rattle.std.proofs.Common.{map}
use Rattle.rmt_chip_tests.specs.declared.cells.Kept.{Kept as KeptOf}
use Rattle.rmt_cells.specs.Stands.{Stands}
use Rattle.rmt_chip_tests.proofs.cells.run.Given as goal

-- the chains are held
abbrev pub invariant-loop-step : goal.invariant-loop-step
invariant-loop-step g l = Stands l.count (map (λ (k : KeptOf). record { chain = k.chain; bytes = k.bytes.items }) l.kept.items) l.cells
