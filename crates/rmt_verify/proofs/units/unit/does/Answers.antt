use Rattle.rmt_vliw.proofs.FormedLaws.{lanes_within}
use Rattle.rmt_verify.proofs.units.unit.does.Goals as goal

pub has_tests-requires : goal.has_tests-requires
has_tests-requires c = lanes_within c.args.at.now.program.now c.args.at.now.places.now c.in-Gate.field c.requires.program c.requires.places
