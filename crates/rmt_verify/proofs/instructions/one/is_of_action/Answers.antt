use Rattle.std.proofs.Common.{false, arith}
use Rattle.std.specs.Prelude.{sum}
use Rattle.rmt_vliw.specs.Operations.{operations_of}
use Rattle.rmt_verify.proofs.RisingLaws.{same_answer, words_rise}
use Rattle.rmt_verify.proofs.instructions.one.is_of_action.Goals as goal

pub instruction-requires : goal.instruction-requires
instruction-requires c = record { program = c.requires.coding.program; folded = c.requires.folded; places = c.requires.coding.places }

pub returns : goal.returns
returns c =
    let folded = c.args.folded.now in
    let own = c.in_ok-own.own in
    let up = words_rise (record { held = sum folded.params; is_default = false }) own (c.in_ok-own.ensures.formed (sum folded.params) (omega arith)) in
    same_answer (operations_of c.args.coding.now.places.now folded.params folded.values) own.ops c.args.ops.now c.as_slice.result.now c.are_equal.result c.as_slice.ensures c.in_ok-own.ensures.pieces.same up
    c.requires.rise c.are_equal.ensures
