use Rattle.rmt_check.proofs.answer.broken_at.Goals as goal

pub returns-in-5 : goal.returns-in-5
returns-in-5 g c = rw (c.in-5.is, ← c.source-source.ensures) c.name_twice.ensures

pub returns-in-7 : goal.returns-in-7
returns-in-7 g c = rw (c.in-7.is, ← c.source-source.ensures) c.width_range.ensures
