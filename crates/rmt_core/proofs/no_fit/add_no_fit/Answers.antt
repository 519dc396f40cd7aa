use Rattle.rmt_core.proofs.no_fit.add_no_fit.Goals as goal

pub returns-in-Lookup : goal.returns-in-Lookup
returns-in-Lookup c = rw c.in-Lookup.is c.add_header_line.ensures

pub returns-in-Step : goal.returns-in-Step
returns-in-Step c = rw c.in-Step.is c.add_header_line-in-Step.ensures
