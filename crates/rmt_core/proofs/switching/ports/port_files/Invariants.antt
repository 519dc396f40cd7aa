-- The files so far are those of the captures before the next one.
use Rattle.std.proofs.Common.{◌≡◌, string_bytes}
use Rattle.rmt_core.specs.Switching.{port_writes}
use Rattle.rmt_core.specs.Writing.{writes_of}
use Rattle.rmt_core.proofs.switching.ports.port_files.Given as goal

abbrev pub invariant-loop-file : goal.invariant-loop-file
invariant-loop-file l = writes_of l.named.items ≡ port_writes (string_bytes l.out) l.yielded
