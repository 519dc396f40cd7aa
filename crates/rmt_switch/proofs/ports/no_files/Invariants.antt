use Rattle.std.proofs.Common.{◌≡◌, ℕ, [], map, Vec, Global}
use Rattle.std.specs.Prelude.{replicate}
use Rattle.rmt_switch.proofs.ports.no_files.Given as goal

abbrev pub invariant-loop-port : goal.invariant-loop-port
invariant-loop-port l = map (λ (f : Vec ℕ Global). f.items) l.files.items ≡ replicate l._port []
