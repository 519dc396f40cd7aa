-- Before the first cycle.
use Rattle.std.proofs.Common.{refl}
use Rattle.rmt_drive.proofs.TurnLaws.{goes_first}
use Rattle.rmt_drive.proofs.running.state.start.Goals as goal

pub returns-in-Ok : goal.returns-in-Ok
returns-in-Ok c = λ k chip before stands. goes_first c.args.watch k _ chip refl stands refl refl refl c.new-in-Ok.ensures before
