use Rattle.std.proofs.Common.{◌≡◌, ◌≤◌, ◌+◌, ℕ, take, vec_len, vec_capacity}
use Rattle.std.specs.Prelude.{option_map, slice_index}
use Rattle.std.specs.Option.{option_or}
use Rattle.rmt_bits.specs.Bits.{number_of}
use Rattle.rmt_config.specs.Life.{written as written_of, op_on}
use Rattle.rmt_chip.specs.Writes.{last_on}
use Rattle.rmt_chip.proofs.operands.push_instruction.Given as goal

abbrev pub invariant-loop-op : goal.invariant-loop-op
invariant-loop-op l = record {
  due : (w : ℕ) → last_on l.due.items w ≡ option_or (option_map (written_of (λ v. slice_index l.fn.vector v) (number_of l.fn.held)) (op_on w (take l.op-index l.code.ops))) (last_on l.initial.due.items w);
  len : vec_len l.due ≡ vec_len l.initial.due + l.op-index;
  room : vec_capacity l.initial.due ≤ vec_capacity l.due;
}
