use Rattle.std.proofs.Common.{◌≡◌, ℕ, ◌==◌, true, false, length, take}
use Rattle.std.specs.Prelude.{slice_index_or}
use Rattle.std.specs.List.{list_any}
use Rattle.rmt_switch.proofs.ports.mark.Given as goal

-- the ports so far are marked, and no other
abbrev pub invariant-loop-port : goal.invariant-loop-port
invariant-loop-port l = record {
  many : length l.waiting.items ≡ length l.fn.waiting.items;
  others : (port : ℕ) → slice_index_or l.waiting.items port true ≡ false
      → (slice_index_or l.fn.waiting.items port true ≡ false) × (list_any (λ p. p == port) (take l.port-index l.ports) ≡ false);
}
