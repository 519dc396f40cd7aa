use Rattle.std.proofs.Common.{◌≡◌, ℕ, ◌+◌, ◌%◌, ◌^◌, drop, fold}
use Rattle.rmt_plain.specs.Marks.{total_of}
use Rattle.rmt_plain.proofs.marks.total.Given as goal

abbrev pub invariant-loop-value : goal.invariant-loop-value
invariant-loop-value l = fold (λ (t v : ℕ). (t + v) % 2 ^ 128) l.total (drop l.value-index l.values) ≡ total_of l.values
