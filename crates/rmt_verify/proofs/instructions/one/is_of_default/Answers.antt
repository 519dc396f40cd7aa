use Rattle.std.proofs.Common.{[], map, true}
use Rattle.rmt_vliw.specs.Operations.{given, operations_of}
use Rattle.rmt_verify.proofs.RisingLaws.{same_answer, words_rise}
use Rattle.rmt_verify.proofs.instructions.one.is_of_default.Goals as goal

pub default_instruction-requires : goal.default_instruction-requires
default_instruction-requires c = record { program = c.requires.coding.program; folded = c.requires.folded; args = c.requires.args; places = c.requires.coding.places }

pub returns : goal.returns
returns c =
    let folded = c.args.folded.now in
    let own = c.in_ok-own.own in
    let up = words_rise (record { held = 0; is_default = true }) own (c.in_ok-own.ensures.formed 0) in
    same_answer (operations_of c.args.coding.now.places.now [] (map (given c.args.args.now) folded.values)) own.ops c.args.ops.now c.as_slice.result.now c.are_equal.result c.as_slice.ensures c.in_ok-own.ensures.pieces.same up
    c.requires.rise c.are_equal.ensures
