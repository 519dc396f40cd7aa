use Rattle.std.proofs.Common.{◌≡◌, ℕ, length, take, get_or}
use Rattle.rmt_config.specs.Limits.{told}
use Rattle.rmt_pack.specs.Placements.{quanta_in}
use Rattle.rmt_verify.proofs.units.quanta.quanta_at.Given as goal

-- the quanta of the parts so far
abbrev pub invariant-loop-part : goal.invariant-loop-part
invariant-loop-part l = record {
  each : (n : ℕ) → get_or l.quanta.items n 0 ≡ told (quanta_in (take l.part-index l.parts) n l.stage);
  all : length l.quanta.items ≡ l.nodes;
}
