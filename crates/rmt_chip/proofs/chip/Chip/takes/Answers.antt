use Rattle.std.proofs.Common.{sym, subst}
use Rattle.std.specs.Prelude.{All}
use Rattle.rmt_chip.specs.Runnable.{StageFits}
use Rattle.rmt_chip.proofs.FormedRuns.{runnable}
use Rattle.rmt_chip.proofs.StandsLaws.{no_limit}
use Rattle.rmt_chip.proofs.chip.Chip.takes.Goals as goal

pub is_taken-requires : goal.is_taken-requires
is_taken-requires c =
    let self = c.args.self.now in
    record { fit = subst (All StageFits) (sym c.as_slice.ensures) (runnable self.config self.formed (no_limit self.config self.limits)).stages.each }
