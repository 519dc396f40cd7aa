-- Where a line is taken, the lists stand for the run behind it.
use Rattle.std.proofs.Common.{ℕ, Result, Ok, Err}
use Rattle.rmt_lists.specs.Running.{Running, line_change}
use Rattle.rmt_lists.specs.Stands.{Stands, StandsFor}
use Rattle.rmt_lists.specs.declared.lists.Lists.{Lists}
use Rattle.rmt_update_tests.proofs.changes.change.Goals as goal

some_run : (next : Result Running ℕ) (lists : Lists) → StandsFor next lists → (r : Running) × Stands r lists
some_run (Ok r) lists stands = (r, stands)
some_run (Err code) lists stands = absurd stands

pub returns-in-Ok : goal.returns-in-Ok
returns-in-Ok c =
    let run = c.requires.stands in
    some_run (line_change run.0 c.args.line.now) c.change.new.self (c.in-Ok.ensures.changed run.0 run.1)
