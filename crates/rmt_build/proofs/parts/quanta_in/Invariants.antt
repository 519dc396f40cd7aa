use Rattle.std.proofs.Common.{◌≡◌, drop}
use Rattle.rmt_pack.specs.Placements.{quanta_in}
use Rattle.rmt_build.proofs.parts.quanta_in.Given as goal

-- no part so far is of the node in the stage
abbrev pub invariant-loop-part : goal.invariant-loop-part
invariant-loop-part l = quanta_in (drop l.part-index l.parts) l.node l.stage ≡ quanta_in l.parts l.node l.stage
