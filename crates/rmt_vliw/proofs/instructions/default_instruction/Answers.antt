use Rattle.std.proofs.Common.{List, [], arith, map, refl}
use Rattle.rmt_vliw.specs.Types.{Assign}
use Rattle.rmt_vliw.specs.Operations.{operations_of, given}
use Rattle.rmt_vliw.proofs.FormedLaws.{lanes_within, lanes_small}
use Rattle.rmt_vliw.proofs.InstructionLaws.{does_with, is_formed_with, all_pushed}
use Rattle.rmt_vliw.proofs.instructions.default_instruction.Goals as goal

pub push_operations-requires : goal.push_operations-requires
push_operations-requires c = record {
  params = omega arith;
  within = lanes_within c.args.program.now c.args.places.now _ c.requires.program c.requires.places;
  small = lanes_small c.args.program.now c.args.places.now _ c.requires.places;
}

pub returns-clause-pieces : goal.returns-clause-pieces
returns-clause-pieces c =
    all_pushed (λ (values : List Assign). operations_of c.args.places.now [] (map (given c.args.args.now) values)) c.args.folded.now.values c.as_slice-value-items.result.now c.loop-value.value-index c.loop-value.ops.items c.sorted.result refl c.as_slice-value-items.ensures c.loop-value-test.false c.loop-value.invariant c.sorted.ensures

pub returns-clause-does : goal.returns-clause-does
returns-clause-does c n folding =
    let sorted = all_pushed (λ (values : List Assign). operations_of c.args.places.now [] (map (given c.args.args.now) values)) c.args.folded.now.values c.as_slice-value-items.result.now c.loop-value.value-index c.loop-value.ops.items c.sorted.result refl c.as_slice-value-items.ensures c.loop-value-test.false c.loop-value.invariant c.sorted.ensures in
    does_with c.args.program.now c.args.places.now c.args.folded.now c.requires.program c.requires.places n folding c.sorted.result c.args.args.now c.requires.args sorted

pub returns-clause-formed : goal.returns-clause-formed
returns-clause-formed c held =
    let sorted = all_pushed (λ (values : List Assign). operations_of c.args.places.now [] (map (given c.args.args.now) values)) c.args.folded.now.values c.as_slice-value-items.result.now c.loop-value.value-index c.loop-value.ops.items c.sorted.result refl c.as_slice-value-items.ensures c.loop-value-test.false c.loop-value.invariant c.sorted.ensures in
    is_formed_with c.args.program.now c.args.places.now c.args.folded.now c.requires.program c.requires.places c.requires.folded.0 c.requires.folded.1 c.sorted.result c.args.args.now c.requires.args sorted held
