use Rattle.rmt_core.proofs.ImproveLaws.{improve_has_no_more_stages, refuses_as_compile}
use Rattle.rmt_core.proofs.laws.improve_is_no_worse.Goals as goal

pub returns : goal.returns
returns c = record { no_more = improve_has_no_more_stages c.one_meaning.ensures.alone; refused = refuses_as_compile }
