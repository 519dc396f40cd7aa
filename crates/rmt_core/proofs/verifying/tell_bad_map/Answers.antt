-- The line is told.
use Rattle.rmt_core.specs.Verifying.{bad_map_line}
use Rattle.rmt_core.proofs.verifying.tell_bad_map.Goals as goal

pub returns-clause-line : goal.returns-clause-line
returns-clause-line g c = c.tell.ensures.line bad_map_line c.bad_map_text.ensures
