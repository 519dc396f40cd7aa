use Rattle.std.proofs.Common.{List, get_or, ap, ◌∙◌, arith}
use Rattle.std.specs.Prelude.{slice_index, option_map}
use Rattle.std.proofs.lemmas.List.{take_all}
use Rattle.std.specs.Option.{option_or}
use Rattle.rmt_bits.specs.Bits.{number_of}
use Rattle.rmt_chip.specs.Types.{Operation}
use Rattle.rmt_config.specs.Life.{written, op_on}
use Rattle.rmt_chip.specs.Writes.{last_on}
use Rattle.rmt_chip.proofs.WriteLaws.{push_step, no_op}
use Rattle.rmt_chip.proofs.operands.push_instruction.Goals as goal

pub loop-op-preserved : goal.loop-op-preserved
loop-op-preserved c =
    let i = c.loop-op.op-index in
    let ops = c.args.code.now.ops in
    let same = c.as_slice-op-items.ensures in
    record {
      due =
          push_step c.loop-op.due.items c.push_reserved.new.self.items c.args.due.now.items c.written.result ops i (number_of c.args.held.now) (λ v. slice_index c.args.vector.now v)
          (rw same at c.loop-op-test.true) c.requires.fits.rises
          (c.written.ensures.word ∙ ap (λ (os : List Operation). (get_or os i no_op).word) same)
          (c.written.ensures.value ∙ ap (λ (os : List Operation). written (λ v. slice_index c.args.vector.now v) (number_of c.args.held.now) (get_or os i no_op)) same)
          c.push_reserved.ensures.items c.loop-op.invariant.due;
      len = let was = c.loop-op.invariant.len in let more = c.push_reserved.ensures.len in omega arith;
      room = let was = c.loop-op.invariant.room in let more = c.push_reserved.ensures.capacity in omega arith;
    }

pub returns-clause-due : goal.returns-clause-due
returns-clause-due c = λ w.
    let all = take_all c.loop-op.op-index c.args.code.now.ops (rw (← c.as_slice-op-items.ensures) c.loop-op-test.false) in
    c.loop-op.invariant.due w ∙ ap (λ (os : List Operation). option_or (option_map (written (λ v. slice_index c.args.vector.now v) (number_of c.args.held.now)) (op_on w os)) (last_on c.args.due.now.items w)) all
