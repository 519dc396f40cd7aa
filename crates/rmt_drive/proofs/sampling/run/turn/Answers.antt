use Rattle.std.proofs.Common.{refl, sym}
use Rattle.std.specs.Prelude.{map}
use Rattle.rmt_config.specs.RunInputs.{input_of as input_with}
use Rattle.rmt_chip.proofs.PacketRunLaws.{clocks-on}
use Rattle.rmt_chip.specs.Inputs.{input_of}
use Rattle.rmt_drive.proofs.TallyLaws.{stands_on}
use Rattle.rmt_drive.proofs.sampling.run.turn.Goals as goal

pub returns-clause-stands : goal.returns-clause-stands
returns-clause-stands c = λ k inputs s.
    stands_on k inputs (input_of c.args.frame) c.args.run.now _ c.clock-left.result c.clock-left.new.out (clocks-on k inputs c.args.frame _ _ c.clock-left.result c.clock-left.new.out s.stands (c.clock-left.ensures.stands k (map input_with inputs) s.stands) (c.clock-left.ensures.answers k (map input_with inputs) s.stands)) refl
    (λ answers counts. rw (sym c.bytes.ensures) (c.count.ensures.counts answers counts)) s
