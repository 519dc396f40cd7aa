use Rattle.std.proofs.Common.{◌≤◌, refl, sym, subst}
use Rattle.std.specs.Prelude.{sum}
use Rattle.rmt_vliw.specs.Operations.{operations_of}
use Rattle.rmt_vliw.proofs.FormedLaws.{lanes_within, lanes_small}
use Rattle.rmt_vliw.proofs.InstructionLaws.{few_params, does, is_formed, all_pushed}
use Rattle.rmt_vliw.proofs.instructions.instruction.Goals as goal

pub push_operations-requires : goal.push_operations-requires
push_operations-requires c = record {
  params = subst (λ ps. sum ps ≤ 2048) (sym c.as_slice.ensures) (few_params c.args.program.now c.args.places.now c.args.folded.now c.requires.program c.requires.places c.requires.folded.0 c.requires.folded.1);
  within = lanes_within c.args.program.now c.args.places.now _ c.requires.program c.requires.places;
  small = lanes_small c.args.program.now c.args.places.now _ c.requires.places;
}

pub returns-clause-pieces : goal.returns-clause-pieces
returns-clause-pieces c =
    all_pushed (operations_of c.args.places.now c.args.folded.now.params) c.args.folded.now.values c.as_slice-value-items.result.now c.loop-value.value-index c.loop-value.ops.items c.sorted.result refl c.as_slice-value-items.ensures c.loop-value-test.false c.loop-value.invariant c.sorted.ensures

pub returns-clause-does : goal.returns-clause-does
returns-clause-does c n folding =
    let sorted = all_pushed (operations_of c.args.places.now c.args.folded.now.params) c.args.folded.now.values c.as_slice-value-items.result.now c.loop-value.value-index c.loop-value.ops.items c.sorted.result refl c.as_slice-value-items.ensures c.loop-value-test.false c.loop-value.invariant c.sorted.ensures in
    does c.args.program.now c.args.places.now c.args.folded.now c.requires.program c.requires.places n folding c.sorted.result sorted

pub returns-clause-formed : goal.returns-clause-formed
returns-clause-formed c held room =
    let sorted = all_pushed (operations_of c.args.places.now c.args.folded.now.params) c.args.folded.now.values c.as_slice-value-items.result.now c.loop-value.value-index c.loop-value.ops.items c.sorted.result refl c.as_slice-value-items.ensures c.loop-value-test.false c.loop-value.invariant c.sorted.ensures in
    is_formed c.args.program.now c.args.places.now c.args.folded.now c.requires.program c.requires.places c.requires.folded.0 c.requires.folded.1 c.sorted.result sorted held room
